-- A part of a list whose ends are held to the list's length.
use Rattle.std.proofs.Common.{◌≡◌, ℕ, ◌+◌, ◌-◌, ◌<◌, ◌≤◌, min, List, length, take, drop, sym, ap, ◌∙◌, ⊎_elim, arith, length-drop, take_all}
use Rattle.std.proofs.lemmas.List.{drop_all, take_rest}
use Rattle.std.proofs.lemmas.Bool.{cases_lt}

module _ (xs : List ℕ) (i w : ℕ) where
  -- what is left of the list from i on, if that is less than w
  short : length xs ≤ i + w → take w (drop i xs) ≡ drop i xs
  short h = take_all w (drop i xs) (omega (arith, length-drop i xs))

  pub held : (from to : ℕ) → from ≡ min i (length xs) → to ≡ min (i + w) (length xs) → take (to - from) (drop from xs) ≡ take w (drop i xs)
  held from to at_from at-to =
      ⊎_elim
      (λ (inside : i + w < length xs).
      let f : from ≡ i = omega arith in
      let t : to - from ≡ w = omega arith in
      ap (λ k. take k (drop from xs)) t ∙ ap (λ k. take w (drop k xs)) f)
      (λ (past : length xs ≤ i + w).
      let t : to - from ≡ length xs - from = omega arith in
      ap (λ k. take k (drop from xs)) t ∙ take_rest xs from ∙ ends from at_from ∙ sym (short past))
      (cases_lt (i + w) (length xs))
    where
      ends : (from : ℕ) → from ≡ min i (length xs) → drop from xs ≡ drop i xs
      ends from e =
          ⊎_elim
          (λ (inside : i < length xs). let f : from ≡ i = omega arith in ap (λ k. drop k xs) f)
          (λ (past : length xs ≤ i). drop_all from xs (omega arith) ∙ sym (drop_all i xs past))
          (cases_lt i (length xs))
