-- Scales with a limit.
use Rattle.std.specs.Prelude.{◌≡◌, ℕ, cond, List, Some, None, Option, nat_le}
use Rattle.std.specs.List.{fold}
use Rattle.semantics.specs.Scales.{lcm, lcm_all}

-- a scale, unless it is over the limit
abbrev pub limited : ℕ → Option ℕ
limited n = cond (nat_le n 1000000) (Some n) None

-- the scale so far, with one more denominator; nothing once it is over the limit
abbrev pub grown : Option ℕ → ℕ → Option ℕ
grown None d = None
grown (Some s) d = limited (lcm s d)

-- with all of a list, one by one
abbrev pub grown_all : Option ℕ → List ℕ → Option ℕ
grown_all s ds = fold grown s ds

-- Grown one by one, a scale is the least common multiple of all, or nothing where that is over the limit.
pub record GrowsAsAWhole : Type 0 where
  pub one : (s d : ℕ) → grown (limited s) d ≡ limited (lcm s d)
  pub all : (s : ℕ) (ds : List ℕ) → grown_all (limited s) ds ≡ limited (lcm_all s ds)
