-- Numbers in decimal: how long they are, and one more digit.
use Rattle.std.proofs.Common.{◌≡◌, ℕ, ◌+◌, ◌/◌, ◌%◌, ◌^◌, ◌<◌, ◌≤◌, List, [], ◌∷◌, ◌++◌, length, decimal, sym, ap, ◌∙◌, append_assoc, arith}
use Rattle.std.proofs.lemmas.Fmt.{decimal_digit, decimal_step}
use Rattle.std.proofs.lemmas.List.{length_push}

module _ (n : ℕ) where
  pub length_more : 10 ≤ n → n < 2 ^ 64 → length (decimal n) ≡ length (decimal (n / 10)) + 1
  length_more h fits = ap length (decimal_step n h fits) ∙ length_push (decimal (n / 10)) (48 + n % 10)

  pub length_one : n < 10 → length (decimal n) ≡ 1
  length_one h = ap length (decimal_digit n h)

  -- the digits before the last one are there, and the last one follows
  module _ (t front : List ℕ) where
    pub written_more : 10 ≤ n → n < 2 ^ 64 → front ≡ t ++ decimal (n / 10) → front ++ ((48 + n % 10) ∷ []) ≡ t ++ decimal n
    written_more h fits e =
        ap (λ l. l ++ ((48 + n % 10) ∷ [])) e
        ∙ append_assoc t (decimal (n / 10)) ((48 + n % 10) ∷ [])
        ∙ ap (λ l. t ++ l) (sym (decimal_step n h fits))

    pub written_one : n < 10 → front ≡ t → front ++ ((48 + n % 10) ∷ []) ≡ t ++ decimal n
    written_one h e =
        let d : n % 10 ≡ n = omega arith in
        ap (λ l. l ++ ((48 + n % 10) ∷ [])) e ∙ ap (λ d. t ++ ((48 + d) ∷ [])) d ∙ ap (λ l. t ++ l) (sym (decimal_digit n h))
