-- The chain of a book that is not longer than any book.
use Rattle.std.proofs.Common.{◌≡◌, ℕ, ◌<◌, ◌≤◌, Bool, true, false, cond, ltb, List, [], length, sym, refl, ap, ◌∙◌, arith}
use Rattle.std.proofs.lemmas.Bool.{lt-ltb, le-ltb, ltb-false}
use Rattle.book.specs.Bytes.{row}
use Rattle.book.specs.Chains.{chain_of, next_index, whole_records}
use Rattle.links.proofs.Chains.{chain_at_0, chain_few}
use Rattle.visits.specs.Visits.{followed}

module _ (b : List ℕ) (i n : ℕ) (same : n ≡ whole_records b) where
  pub followed_long : 2000 < n → chain_of b 0 ≡ followed b i
  followed_long h =
      chain_at_0 (λ j. next_index (row b j)) (whole_records b) (whole_records b) 0 refl
      ∙ sym (ap (λ t. cond t [] (chain_of b i)) (ap (ltb 2000) (sym same) ∙ lt-ltb 2000 n h))

  pub followed_short : n ≤ 2000 → chain_of b i ≡ followed b i
  followed_short h = sym (ap (λ t. cond t [] (chain_of b i)) (ap (ltb 2000) (sym same) ∙ le-ltb 2000 n h))

pub followed_few : (b : List ℕ) (i : ℕ) → length (followed b i) ≤ 2000
followed_few b i = go (ltb 2000 (whole_records b)) refl
  where
    go : (t : Bool) → ltb 2000 (whole_records b) ≡ t → length (cond t [] (chain_of b i)) ≤ 2000
    go true e = omega arith
    go false e =
        let few = chain_few (λ j. next_index (row b j)) (whole_records b) (whole_records b) i in
        omega (arith, few, ltb-false 2000 (whole_records b) e)
