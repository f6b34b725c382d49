-- Spans of time: the window that counts, whether a window holds no time, and what two windows share. Ends are given in
-- any kind of time; `time` says which fraction one is.
use Rattle.std.specs.Prelude.{Bool, false, cond, not, ◌&&◌, Some, None, Option}
use Rattle.semantics.specs.Times.{Fraction, HighEnd, Closed, Open, Absent, Window, Order, StepFirst, WordFirst, before, at_most}

-- The high end that a lifetime sets: itself left out under step first, and let in under word first.
abbrev pub lifetime_end : {T : Type 0} → Order → Option T → HighEnd T
lifetime_end o None = Absent
lifetime_end StepFirst (Some life) = Open life
lifetime_end WordFirst (Some life) = Closed life

-- The high end that a bound sets: a guard may hold at the bound in either order.
abbrev pub bound_end : {T : Type 0} → Option T → HighEnd T
bound_end None = Absent
bound_end (Some bound) = Closed bound

module _ {T : Type 0} (time : T → Fraction) where
  -- The nearer of two high ends. At one time the open end is the nearer, since it leaves out that time too.
  abbrev pub nearer : HighEnd T → HighEnd T → HighEnd T
  nearer (Closed h) (Closed o) = cond (at_most (time h) (time o)) (Closed h) (Closed o)
  nearer (Open h) (Closed o) = cond (at_most (time h) (time o)) (Open h) (Closed o)
  nearer Absent (Closed o) = Closed o
  nearer (Closed h) (Open o) = cond (before (time h) (time o)) (Closed h) (Open o)
  nearer (Open h) (Open o) = cond (before (time h) (time o)) (Open h) (Open o)
  nearer Absent (Open o) = Open o
  nearer (Closed h) Absent = Closed h
  nearer (Open h) Absent = Open h
  nearer Absent Absent = Absent

  -- the window, cut at one more high end
  abbrev pub cut : HighEnd T → Window T → Window T
  cut end w = record { low = w.low; low_open = w.low_open; high = nearer w.high end }

  -- the window that counts in a phase with this lifetime
  abbrev pub counted : Order → Option T → Window T → Window T
  counted o life w = cut (lifetime_end o life) w

  -- the guard, cut closed at the bound
  abbrev pub bounded : Option T → Window T → Window T
  bounded bound guard = cut (bound_end bound) guard

  -- The high end lies before the low end; or at it, where one of the two is open.
  abbrev pub ends_early : Bool → T → HighEnd T → Bool
  ends_early open_low low (Closed h) = cond open_low (at_most (time h) (time low)) (before (time h) (time low))
  ends_early open_low low (Open h) = at_most (time h) (time low)
  ends_early open_low low Absent = false

  -- the window holds no time
  abbrev pub no_time : Window T → Bool
  no_time w = ends_early w.low_open w.low w.high

  -- v starts later than w, or together with w and leaves out all that w does there
  abbrev pub starts_later : Window T → Window T → Bool
  starts_later v w =
      cond (w.low_open && not v.low_open) (before (time w.low) (time v.low)) (at_most (time w.low) (time v.low))

  abbrev pub later_start : Window T → Window T → Window T
  later_start v w = cond (starts_later v w) v w

  -- the moments that are in both
  abbrev pub shared_window : Window T → Window T → Window T
  shared_window v w = record {
    low = (later_start v w).low;
    low_open = (later_start v w).low_open;
    high = nearer v.high w.high;
  }

  abbrev pub shares_moment : Window T → Window T → Bool
  shares_moment v w = not (no_time (shared_window v w))
