-- Whether some record of a chain passes a test.
use Rattle.std.specs.Prelude.{ℕ, suc, Bool, false, ◌||◌, List, [], ◌∷◌, nat_eq}

-- by its place too, counted from i
abbrev pub some_at : (ℕ → ℕ → Bool) → ℕ → List ℕ → Bool
some_at passes i [] = false
some_at passes i (k ∷ ks) = passes i k || some_at passes (suc i) ks

abbrev pub some : (ℕ → Bool) → List ℕ → Bool
some passes ks = some_at (λ i k. passes k) 0 ks

-- the number k is one of these
abbrev pub among : ℕ → List ℕ → Bool
among k ks = some (λ j. nat_eq j k) ks
