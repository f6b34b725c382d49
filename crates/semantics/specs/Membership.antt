-- Which words an edge or a transition takes, in plain terms: ≤ and < over numbers and cross products. The tests of
-- Times and Fits decide exactly this.
use Rattle.std.specs.Prelude.{◌≡◌, ℕ, ◌*◌, ◌<◌, ◌≤◌, Bool, true, false, Some, None, Decides, Option}
use Rattle.semantics.specs.Times.{Fraction, HighEnd, Closed, Open, Absent, Window, Order, StepFirst, WordFirst, at_most, before, same_time, inside, counts, itself, whole}
use Rattle.semantics.specs.Trees.{Edge, Label, Silent, Hears, Sends, Transition}
use Rattle.semantics.specs.Fits.{word_fits, edge_fits, transition_fits, within_bound}

-- x is no later than y, earlier than y, and the same time as y
abbrev pub AtMost : Fraction → Fraction → Type 0
AtMost x y = x.numerator * y.denominator ≤ y.numerator * x.denominator

abbrev pub Before : Fraction → Fraction → Type 0
Before x y = x.numerator * y.denominator < y.numerator * x.denominator

abbrev pub SameTime : Fraction → Fraction → Type 0
SameTime x y = x.numerator * y.denominator ≡ y.numerator * x.denominator

module _ {T : Type 0} (time : T → Fraction) where
  abbrev pub PastLow : Bool → T → Fraction → Type 0
  PastLow true low t = Before (time low) t
  PastLow false low t = AtMost (time low) t

  abbrev pub UnderHigh : HighEnd T → Fraction → Type 0
  UnderHigh (Closed h) t = AtMost t (time h)
  UnderHigh (Open h) t = Before t (time h)
  UnderHigh Absent t = Unit {0}

  -- the moment t lies in the window
  abbrev pub Inside : Window T → Fraction → Type 0
  Inside w t = PastLow w.low_open w.low t × UnderHigh w.high t

-- the moment t counts, with this lifetime
abbrev pub Counts : Order → Option Fraction → Fraction → Type 0
Counts o None t = Unit {0}
Counts StepFirst (Some life) t = Before t life
Counts WordFirst (Some life) t = AtMost t life

-- a word of value v on the port p
abbrev pub WordFits : ℕ → ℕ → ℕ → ℕ → ℕ → Type 0
WordFits port lowest highest p v = (port ≡ p) × ((lowest ≤ v) × (v ≤ highest))

-- the edge takes it at the age t
abbrev pub EdgeFits : Order → Option Fraction → ℕ → ℕ → Fraction → Edge → Type 0
EdgeFits o life p v t e = WordFits e.port e.lowest e.highest p v × (Inside itself e.window t × Counts o life t)

abbrev pub LabelFits : Label → ℕ → ℕ → Type 0
LabelFits Silent p v = ⊥
LabelFits (Hears port lowest highest) p v = WordFits port lowest highest p v
LabelFits (Sends port value) p v = ⊥

-- the transition takes it at the time t of the clock
abbrev pub TransitionFits : ℕ → ℕ → Fraction → Transition → Type 0
TransitionFits p v t x = LabelFits x.label p v × Inside whole x.guard t

-- the time t is not past the bound
abbrev pub WithinBound : Option ℕ → Fraction → Type 0
WithinBound None t = Unit {0}
WithinBound (Some b) t = AtMost t (whole b)

-- Each test answers true exactly if the plain statement holds.
pub record Membership : Type 0 where
  pub at_most_decides : (x y : Fraction) → Decides (at_most x y) (AtMost x y)
  pub before_decides : (x y : Fraction) → Decides (before x y) (Before x y)
  pub same_time_decides : (x y : Fraction) → Decides (same_time x y) (SameTime x y)
  pub window_decides : (w : Window Fraction) (t : Fraction) → Decides (inside itself w t) (Inside itself w t)
  pub guard_decides : (g : Window ℕ) (t : Fraction) → Decides (inside whole g t) (Inside whole g t)
  pub counts_decides : (o : Order) (life : Option Fraction) (t : Fraction) → Decides (counts o life t) (Counts o life t)
  pub word_decides : (port lowest highest p v : ℕ) → Decides (word_fits port lowest highest p v) (WordFits port lowest highest p v)
  pub edge_decides : (o : Order) (life : Option Fraction) (p v : ℕ) (t : Fraction) (e : Edge) →
      Decides (edge_fits o life p v t e) (EdgeFits o life p v t e)
  pub transition_decides : (p v : ℕ) (t : Fraction) (x : Transition) → Decides (transition_fits p v t x) (TransitionFits p v t x)
  pub bound_decides : (b : Option ℕ) (t : Fraction) → Decides (within_bound b t) (WithinBound b t)
