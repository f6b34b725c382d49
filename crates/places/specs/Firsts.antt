-- The first record of a chain that passes a test.
use Rattle.std.specs.Prelude.{ℕ, suc, Bool, cond, List, [], ◌∷◌, Some, None, Option}

-- by its place too, counted from i
abbrev pub first_at : (ℕ → ℕ → Bool) → ℕ → List ℕ → Option ℕ
first_at passes i [] = None
first_at passes i (k ∷ ks) = cond (passes i k) (Some k) (first_at passes (suc i) ks)
