-- The queue of the search for what is reached: a list of numbers, in its first slots the records
-- that were met, and a mark for each record. Only the search's own functions speak of it.
use Rattle.std.specs.Prelude.{◌≡◌, ℕ, ◌+◌, ◌<◌, ◌≤◌, Bool, false, List, [], ◌∷◌, length, take, drop, ◌≢◌, slice_index_or}
use Rattle.std.specs.List.{AllByRecursion}
use Rattle.links.specs.Naming.{member}

-- different numbers, none past n
abbrev pub Distinct : List ℕ → Type 0
Distinct [] = Unit {0}
Distinct (x ∷ xs) = AllByRecursion (λ y. y ≢ x) xs × Distinct xs

pub record Apart (n : ℕ) (xs : List ℕ) : Type 0 where
  pub low : AllByRecursion (λ x. x < n + 1) xs
  pub distinct : Distinct xs

-- a queue of `count` records, with room for all of a book's, and marks that tell which are in it
pub record Queue (n count : ℕ) (list : List ℕ) (marks : List Bool) : Type 0 where
  pub within : count ≤ length list
  pub room : n < length list
  pub marks_room : n < length marks
  pub apart : Apart n (take count list)
  pub marked : (k : ℕ) → k ≤ n → slice_index_or marks k false ≡ member k (take count list)

-- the queue has grown to hold just `seen`; what lies behind it, and behind the marks, is as it was
pub record Grown (n count : ℕ) (list : List ℕ) (marks : List Bool) (seen : List ℕ) (more : ℕ) (list' : List ℕ) (marks' : List Bool) : Type 0 where
  pub grows : count ≤ more
  pub slots : take more list' ≡ seen
  pub queue : Queue n more list' marks'
  pub later : drop more list' ≡ drop more list
  pub marks_later : drop (n + 1) marks' ≡ drop (n + 1) marks
