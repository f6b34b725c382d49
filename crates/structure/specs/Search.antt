-- The smallest number that fails a test.
use Rattle.std.specs.Prelude.{◌≡◌, ℕ, zero, suc, ◌+◌, ◌<◌, ◌≤◌, Bool, true, false, cond, Some, None, Option}

-- the smallest of the k numbers from i on at which the test is true
abbrev pub first_from : (ℕ → Bool) → ℕ → ℕ → Option ℕ
first_from bad zero i = None
first_from bad (suc k) i =
    let later = first_from bad k (i + 1) in
    cond (bad i) (Some i) later

-- the smallest number up to n at which the test is true
abbrev pub first_of : (ℕ → Bool) → ℕ → Option ℕ
first_of bad n = first_from bad (n + 1) 0

-- that is what it is
pub record Smallest (bad : ℕ → Bool) (n p : ℕ) : Type 0 where
  pub within : p ≤ n
  pub fails : bad p ≡ true
  pub first : (i : ℕ) → i < p → bad i ≡ false

abbrev pub FoundOrNone : (ℕ → Bool) → ℕ → Option ℕ → Type 0
FoundOrNone bad n None = (i : ℕ) → i ≤ n → bad i ≡ false
FoundOrNone bad n (Some p) = Smallest bad n p

abbrev pub SearchFindsSmallest : Type 0
SearchFindsSmallest = (bad : ℕ → Bool) (n : ℕ) → FoundOrNone bad n (first_of bad n)
