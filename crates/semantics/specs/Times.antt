-- Times: fractions of whole numbers, and windows of time.
use Rattle.std.specs.Prelude.{ℕ, ◌+◌, ◌*◌, ◌≤◌, Bool, true, cond, ◌&&◌, Some, None, Option, ◌==◌, nat_le, nat_lt}
pub use Rattle.book.specs.declared.record.Fraction.{Fraction}
pub use Rattle.book.specs.declared.record.HighEnd.{HighEnd}
pub use Rattle.book.specs.declared.record.HighEnd.TheVariants.{Closed, Open, Absent}
pub use Rattle.book.specs.declared.record.Window.{Window}
pub use Rattle.book.specs.declared.term.Order.{Order}
pub use Rattle.book.specs.declared.term.Order.TheVariants.{StepFirst, WordFirst}

-- A time is a fraction whose denominator is at least 1. Times, delays, ages and clocks are such fractions.
abbrev pub Proper : Fraction → Type 0
Proper t = 1 ≤ t.denominator

abbrev pub fraction : ℕ → ℕ → Fraction
fraction n d = record { numerator = n; denominator = d }

-- Two times are compared by cross products; so 1/2 and 2/4 are one time.
abbrev pub at_most : Fraction → Fraction → Bool
at_most x y = nat_le (x.numerator * y.denominator) (y.numerator * x.denominator)

abbrev pub before : Fraction → Fraction → Bool
before x y = nat_lt (x.numerator * y.denominator) (y.numerator * x.denominator)

abbrev pub same_time : Fraction → Fraction → Bool
same_time x y = x.numerator * y.denominator == y.numerator * x.denominator

abbrev pub plus : Fraction → Fraction → Fraction
plus x y = fraction (x.numerator * y.denominator + y.numerator * x.denominator) (x.denominator * y.denominator)

-- a time divided by the whole number k
abbrev pub over : Fraction → ℕ → Fraction
over x k = fraction x.numerator (x.denominator * k)

-- a number of whole units, such as ticks
abbrev pub whole : ℕ → Fraction
whole n = fraction n 1

abbrev pub zero_time : Fraction
zero_time = whole 0

-- A window of seconds has fractions for ends, a guard has whole ticks; `time` says which time an end is.
module _ {T : Type 0} (time : T → Fraction) where
  -- the moment t is not too early: an open low end is itself outside
  abbrev pub past_low : Bool → T → Fraction → Bool
  past_low open? low t = cond open? (before (time low) t) (at_most (time low) t)

  -- nor too late
  abbrev pub under_high : HighEnd T → Fraction → Bool
  under_high (Closed h) t = at_most t (time h)
  under_high (Open h) t = before t (time h)
  under_high Absent t = true

  -- the moment t lies in the window
  abbrev pub inside : Window T → Fraction → Bool
  inside w t = past_low w.low_open w.low t && under_high w.high t

-- the time that an end in seconds is
abbrev pub itself : Fraction → Fraction
itself t = t

-- The window that counts is the written one's moments below the lifetime under step first, and up to and with it under
-- word first; an endless lifetime (none) cuts nothing away.
abbrev pub counts : Order → Option Fraction → Fraction → Bool
counts o None t = true
counts StepFirst (Some life) t = before t life
counts WordFirst (Some life) t = at_most t life
