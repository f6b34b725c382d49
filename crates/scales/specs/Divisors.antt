-- Common divisors.
use Rattle.std.specs.Prelude.{ℕ}
use Rattle.std.specs.Int.{IsGcd}

-- g is the greatest common divisor of a and b: a common divisor that every common divisor divides
abbrev pub Greatest : ℕ → ℕ → ℕ → Type 0
Greatest a b g = IsGcd a b g
