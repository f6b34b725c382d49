-- The smallest of some record numbers.
use Rattle.std.specs.Prelude.{◌≡◌, ℕ, suc, ◌≤◌, Bool, true, false, cond, List, [], ◌∷◌, ◌++◌, Some, None, Option, nat_le}
use Rattle.std.specs.List.{ContainsAt as Has, AllByRecursion}

-- the smaller of two numbers, if there are any
abbrev pub least : Option ℕ → Option ℕ → Option ℕ
least None y = y
least (Some x) None = Some x
least (Some x) (Some y) = cond (nat_le x y) (Some x) (Some y)

abbrev pub smallest : List ℕ → Option ℕ
smallest [] = None
smallest (k ∷ ks) = let rest = smallest ks in least (Some k) rest

-- that is what it is
abbrev pub IsSmallest : List ℕ → Option ℕ → Type 0
IsSmallest ks None = ks ≡ []
IsSmallest ks (Some k) = Has ks k × AllByRecursion (λ j. k ≤ j) ks

abbrev pub SmallestIsSmallest : Type 0
SmallestIsSmallest = (ks : List ℕ) → IsSmallest ks (smallest ks)

-- the number k, if the test holds
abbrev pub only_if : Bool → ℕ → List ℕ
only_if true k = k ∷ []
only_if false k = []

-- what f gives for each number of a list and its place there, counted from i
abbrev pub along : (ℕ → ℕ → List ℕ) → ℕ → List ℕ → List ℕ
along f i [] = []
along f i (k ∷ ks) = f i k ++ along f (suc i) ks
