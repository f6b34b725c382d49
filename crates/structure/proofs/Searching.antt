-- One turn of a search for the smallest number that fails a test, and what it finds.
use Rattle.std.proofs.Common.{◌≡◌, ℕ, zero, suc, ◌+◌, ◌-◌, ◌<◌, ◌≤◌, Bool, true, false, cond, Some, None, Option, refl, ap, ◌∙◌, ⊎_elim, arith}
use Rattle.std.proofs.lemmas.Bool.{cases_eq}
use Rattle.links.proofs.Counting.{one_less}
use Rattle.structure.specs.Search.{first_from, first_of, FoundOrNone, SearchFindsSmallest}

module _ (bad : ℕ → Bool) (n i : ℕ) where
  search_more : i < n → first_from bad (n - i) i ≡ cond (bad i) (Some i) (first_from bad (n - (i + 1)) (i + 1))
  search_more h = ap (λ k. first_from bad k i) (one_less n i h)

  pub search_hit : i < n → bad i ≡ true → first_from bad (n - i) i ≡ Some i
  search_hit h e = search_more h ∙ ap (λ t. cond t (Some i) (first_from bad (n - (i + 1)) (i + 1))) e

  pub search_miss : i < n → bad i ≡ false → first_from bad (n - i) i ≡ first_from bad (n - (i + 1)) (i + 1)
  search_miss h e = search_more h ∙ ap (λ t. cond t (Some i) (first_from bad (n - (i + 1)) (i + 1))) e

-- tests that agree find the same
pub same_from : (bad worse : ℕ → Bool) (k i : ℕ) → ((j : ℕ) → i ≤ j → j < i + k → bad j ≡ worse j) → first_from bad k i ≡ first_from worse k i
same_from bad worse zero i same = refl
same_from bad worse (suc k) i same =
    ap (λ t. cond t (Some i) (first_from bad k (i + 1))) (same i (omega arith) (omega arith))
    ∙ ap (λ later. cond (worse i) (Some i) later) (same_from bad worse k (i + 1) (λ j low high. same j (omega arith) (omega arith)))

pub same_first : (bad worse : ℕ → Bool) (n : ℕ) → ((j : ℕ) → j ≤ n → bad j ≡ worse j) → first_of bad n ≡ first_of worse n
same_first bad worse n same = same_from bad worse (n + 1) 0 (λ j _ high. same j (omega arith))

-- what a search from i on tells, where it fails nowhere before i
Tells : (ℕ → Bool) → ℕ → Option ℕ → Type 0
Tells bad end None = (j : ℕ) → j < end → bad j ≡ false
Tells bad end (Some p) = (p < end) × (bad p ≡ true) × ((j : ℕ) → j < p → bad j ≡ false)

tells : (bad : ℕ → Bool) (end k i : ℕ) → i + k ≡ end → ((j : ℕ) → j < i → bad j ≡ false) → Tells bad end (first_from bad k i)
unfolding Tells
tells bad end zero i e before = λ j h. before j (omega arith)
tells bad end (suc k) i e before = go (bad i) refl (λ later. tells bad end k (i + 1) (omega arith) later)
  where
    go : (t : Bool) → bad i ≡ t → (((j : ℕ) → j < i + 1 → bad j ≡ false) → Tells bad end (first_from bad k (i + 1))) → Tells bad end (cond t (Some i) (first_from bad k (i + 1)))
    go true is later = (omega arith, is, before)
    go false is later = later (λ j h. ⊎_elim (λ (same : j ≡ i). ap bad same ∙ is) (λ (other : j ≡ i → ⊥). before j (omega arith)) (cases_eq j i))

pub search_finds_smallest : SearchFindsSmallest
unfolding Tells
search_finds_smallest bad n = go (first_of bad n) (tells bad (n + 1) (n + 1) 0 (omega arith) (λ j h. absurd (omega arith)))
  where
    go : (found : Option ℕ) → Tells bad (n + 1) found → FoundOrNone bad n found
    go None t = λ i h. t i (omega arith)
    go (Some p) t = record { within = omega (arith, t.0); fails = t.1; first = t.2 }
