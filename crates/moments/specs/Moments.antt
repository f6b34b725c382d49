-- Moments, as a machine is asked for them.
use Rattle.std.specs.Prelude.{ℕ, ◌/◌, Bool, ◌&&◌, nat_le}
use Rattle.semantics.specs.Times.{Fraction, fraction}
use Rattle.moments.specs.declared.moment.Moment.{Moment}

-- the time that a moment is
abbrev pub time_of : Moment → Fraction
time_of m = fraction m.numerator m.denominator

-- parts per tick that may be asked of a station of this scale
abbrev pub parts_allowed : ℕ → ℕ → Bool
parts_allowed scale q = nat_le 1 q && nat_le q (1000000000 / scale)
