-- One more byte of a part that should be zero.
use Rattle.std.proofs.Common.{◌≡◌, ℕ, zero, suc, ◌+◌, ◌-◌, ◌<◌, ◌≤◌, true, ◌&&◌, eqb, List, [], length, take, drop, sym, refl, ap, ◌∙◌, ⊎_elim, arith}
use Rattle.std.proofs.lemmas.List.{drop_all, drop_more, get_or_past}
use Rattle.std.proofs.lemmas.Bool.{cases_lt, eq-eqb}
use Rattle.book.specs.Bytes.{at, all_zero, zeros}

module _ (b : List ℕ) (i j : ℕ) where
  none : (n : ℕ) → all_zero (take n []) ≡ true
  none zero = refl
  none (suc n) = refl

  past : (n : ℕ) → length b ≤ n → (m : ℕ) → all_zero (take m (drop n b)) ≡ true
  past n h m = ap (λ l. all_zero (take m l)) (drop_all n b h) ∙ none m

  pub zeros_more : i < j → zeros b i j ≡ (eqb (at b i) 0 && zeros b (i + 1) j)
  zeros_more h =
      let less : j - i ≡ suc (j - (i + 1)) = omega arith in
      ⊎_elim
      (λ (inside : i < length b).
      ap (λ n. all_zero (take n (drop i b))) less ∙ ap (λ l. all_zero (take (suc (j - (i + 1))) l)) (drop_more b i 0 inside))
      (λ (out : length b ≤ i).
      past i out (j - i)
      ∙ sym (ap (λ t. eqb (at b i) 0 && t) (past (i + 1) (omega arith) (j - (i + 1))) ∙ ap (λ t. t && true) (eq-eqb (at b i) 0 (get_or_past b i 0 out))))
      (cases_lt i (length b))

  pub zeros_none : j ≤ i → zeros b i j ≡ true
  zeros_none h = let z : j - i ≡ 0 = omega arith in ap (λ n. all_zero (take n (drop i b))) z
