-- The first bad path, and what a word and a step then answer.
use Rattle.std.proofs.Common.{◌≡◌, ℕ, suc, ◌+◌, Bool, true, false, cond, not, ltb, List, [], ◌∷◌, length, Some, None, Ok, Err, Option, ◌≤◌, sym, refl, ap, ◌∙◌, ap₂, arith, position}
use Rattle.std.specs.Option.{option_map}
use Rattle.std.specs.List.{position_or_len}
use Rattle.std.proofs.lemmas.Bool.{ltb-true, ltb-false, lt-ltb, le-ltb}
use Rattle.book.specs.declared.refusal.Refusal.{Refusal}
use Rattle.book.specs.declared.refusal.Fault.TheVariants.{Paths, Room}
use Rattle.semantics.specs.Net.{NetState}
use Rattle.semantics.specs.Calls.{Outcome, unless, at_zero, first_bad, declined}
use Rattle.calls.specs.Slots.{opening_by}

-- one more on both sides changes no test
ltb_shift : (n l : ℕ) → ltb (1 + n) (suc l) ≡ ltb n l
ltb_shift n l = go (ltb n l) refl
  where
    go : (b : Bool) → ltb n l ≡ b → ltb (1 + n) (suc l) ≡ b
    go true h = let m = ltb-true n l h in lt-ltb (1 + n) (suc l) (omega arith)
    go false h = let m = ltb-false n l h in le-ltb (1 + n) (suc l) (omega arith)

-- the first bad one, counted from k, by its position
pub first_bad_at : {X : Type 0} (bad : X → Bool) (k : ℕ) (xs : List X) → first_bad bad k xs ≡ option_map (λ i. k + i) (position bad xs)
first_bad_at {X = X} bad k xs = go k xs ∙ mapped (ltb (position_or_len bad xs) (length xs))
  where
    mapped : (b : Bool) → cond b (Some (k + position_or_len bad xs)) None ≡ option_map (λ i. k + i) (cond b (Some (position_or_len bad xs)) None)
    mapped true = refl
    mapped false = refl

    go : (k : ℕ) (xs : List X) → first_bad bad k xs ≡ cond (ltb (position_or_len bad xs) (length xs)) (Some (k + position_or_len bad xs)) None
    go k [] = refl
    go k (x ∷ xs) = here (bad x) (go (suc k) xs)
      where
        here : (b : Bool) → first_bad bad (suc k) xs ≡ cond (ltb (position_or_len bad xs) (length xs)) (Some (suc k + position_or_len bad xs)) None → cond b (Some k) (first_bad bad (suc k) xs)
            ≡ cond (ltb (cond (not b) (1 + position_or_len bad xs) 0) (suc (length xs))) (Some (k + cond (not b) (1 + position_or_len bad xs) 0)) None
        here true rest =
            let z : k ≡ k + 0 = omega arith in
            ap Some z ∙ ap (λ b. cond b (Some (k + 0)) None) (sym (lt-ltb 0 (suc (length xs)) (omega arith)))
        here false rest =
            let n = position_or_len bad xs in
            let z : suc k + n ≡ k + (1 + n) = omega arith in
            rest ∙ ap₂ (λ b j. cond b (Some j) None) (sym (ltb_shift n (length xs))) z

-- An answer by what the first tests gave.
module _ (s : NetState) (rest : Outcome) where
  pub refused_first : (paths slots : Option ℕ) (e : Refusal) → Err e ≡ opening_by paths slots →
      record { answer = Err e; state = s } ≡ unless paths (declined Paths s) (unless slots (declined Room s) rest)
  refused_first (Some k) slots e h = ap (λ (r : Refusal). record { answer = Err r; state = s }) (cc)
  refused_first None (Some k) e h = ap (λ (r : Refusal). record { answer = Err r; state = s }) (cc)
  refused_first None None e h = absurd (cc)

  pub passed_first : (paths slots : Option ℕ) → Ok tt ≡ opening_by paths slots → rest ≡ unless paths (declined Paths s) (unless slots (declined Room s) rest)
  passed_first (Some k) slots h = absurd (cc)
  passed_first None (Some k) h = absurd (cc)
  passed_first None None h = refl

-- where they pass, there is room for the events
pub passed_room : (paths : Option ℕ) (slots n : ℕ) → Ok tt ≡ opening_by paths (at_zero (ltb slots n)) → n ≤ slots
passed_room paths slots n = go paths (ltb slots n) refl
  where
    go : (paths : Option ℕ) (b : Bool) → ltb slots n ≡ b → Ok tt ≡ opening_by paths (at_zero b) → n ≤ slots
    go (Some k) b e h = absurd (cc)
    go None true e h = absurd (cc)
    go None false e h = ltb-false slots n e
