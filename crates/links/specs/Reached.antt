-- Which records are reached from the head, in the subject's own words.
use Rattle.std.specs.Prelude.{◌≡◌, ℕ, ◌≤◌, Bool, true, ◌⊎◌, List, [], ◌∷◌, Decides}
use Rattle.links.specs.declared.link.Link.{Link}
use Rattle.links.specs.Naming.{member, reached}

-- one of the index fields names j
abbrev pub Names : List Link → ℕ → Type 0
Names [] j = ⊥
Names (l ∷ ls) j = (l.to ≡ j) ⊎ Names ls j

-- a record is reached if it is the head, or if a record that is reached names it and the book has it
pub data Reached (links : ℕ → List Link) (n : ℕ) : ℕ → Type 0 where
  head : Reached links n 0
  named : {i j : ℕ} → Reached links n i → Names (links i) j → 1 ≤ j → j ≤ n → Reached links n j

-- a set of records that has the head, and with each record those of the book that it names
pub record Closed (links : ℕ → List Link) (n : ℕ) (has : ℕ → Bool) : Type 0 where
  pub head_in : has 0 ≡ true
  pub named_in : (i j : ℕ) → has i ≡ true → Names (links i) j → 1 ≤ j → j ≤ n → has j ≡ true

-- the list of what is reached has just the records that are reached, and it is the least such set
pub record LeastClosed (links : ℕ → List Link) (n : ℕ) : Type 0 where
  pub lists : (k : ℕ) → Decides (member k (reached links n)) (Reached links n k)
  pub closed : Closed links n (λ k. member k (reached links n))
  pub least : (has : ℕ → Bool) → Closed links n has → (k : ℕ) → member k (reached links n) ≡ true → has k ≡ true

abbrev pub ReachIsLeast : Type 0
ReachIsLeast = (links : ℕ → List Link) (n : ℕ) → LeastClosed links n
