-- Looking along a chain.
use Rattle.std.proofs.Common.{◌≡◌, ℕ, zero, suc, ◌+◌, Bool, true, false, cond, eqb, ltb, List, [], ◌∷◌, map, length, get_or, Some, sym, refl, ap, ◌∙◌, subst, arith}
use Rattle.std.specs.Option.{option_map}
use Rattle.std.specs.Bool.{then_some}
use Rattle.std.specs.List.{AllByRecursion, find, enumerate_from}
use Rattle.std.proofs.lemmas.Bool.Decides.{nat_tests}
use Rattle.std.proofs.lemmas.Bool.{eq-eqb, ne_eqb, le-ltb, lt-ltb}
use Rattle.semantics.specs.Fits.{first}
use Rattle.semantics.proofs.Options.{some_not_none, inner}
use Rattle.places.specs.Firsts.{first_at}

pub found_first : (passes : ℕ → ℕ → Bool) (i : ℕ) (ks : List ℕ) → option_map (λ p. p.1) (find (λ p. passes p.0 p.1) (enumerate_from i ks)) ≡ first_at passes i ks
found_first passes i [] = refl
found_first passes i (k ∷ ks) = go (passes i k) (ap (λ j. option_map (λ p. p.1) (find (λ p. passes p.0 p.1) (enumerate_from j ks))) (omega arith) ∙ found_first passes (suc i) ks)
  where
    go : (t : Bool) → option_map (λ p. p.1) (find (λ p. passes p.0 p.1) (enumerate_from (i + 1) ks)) ≡ first_at passes (suc i) ks
        → option_map (λ p. p.1) (cond t (Some (i, k)) (find (λ p. passes p.0 p.1) (enumerate_from (i + 1) ks))) ≡ cond t (Some k) (first_at passes (suc i) ks)
    go true rec = refl
    go false rec = rec

-- the first of a list that fits, told by the records that the list is read from
pub first_read : {X : Type 0} (fits : X → Bool) (goal : X → ℕ) (read : ℕ → X) (i : ℕ) (ks : List ℕ)
    → first fits goal (map read ks) ≡ option_map (λ k. goal (read k)) (first_at (λ _ k. fits (read k)) i ks)
first_read fits goal read i [] = refl
first_read fits goal read i (k ∷ ks) = go (fits (read k)) (first_read fits goal read (suc i) ks)
  where
    go : (t : Bool) → first fits goal (map read ks) ≡ option_map (λ k. goal (read k)) (first_at (λ _ k. fits (read k)) (suc i) ks)
        → cond t (Some (goal (read k))) (first fits goal (map read ks)) ≡ option_map (λ k. goal (read k)) (cond t (Some k) (first_at (λ _ k. fits (read k)) (suc i) ks))
    go true rec = refl
    go false rec = rec

-- the record that is found has what all have
pub first_has : (P : ℕ → Type 0) (passes : ℕ → ℕ → Bool) (i : ℕ) (ks : List ℕ) (k : ℕ) → Some k ≡ first_at passes i ks → AllByRecursion P ks → P k
first_has P passes i [] k e a = absurd (some_not_none k e)
first_has P passes i (x ∷ ks) k e a = go (passes i x) e (λ f. first_has P passes (suc i) ks k f a.1)
  where
    go : (t : Bool) → Some k ≡ cond t (Some x) (first_at passes (suc i) ks) → (Some k ≡ first_at passes (suc i) ks → P k) → P k
    go true e later = subst P (sym (inner e)) a.0
    go false e later = later e

-- the record at a place
pub first_place : (j i n : ℕ) (ks : List ℕ) → n ≡ i + j → first_at (λ m _. eqb m n) i ks ≡ then_some (ltb j (length ks)) (get_or ks j 0)
first_place j i n [] e = sym (ap (λ t. then_some t (get_or [] j 0)) (le-ltb j 0 (omega arith)))
first_place zero i n (k ∷ ks) e =
    ap (λ t. cond t (Some k) (first_at (λ m _. eqb m n) (suc i) ks)) (eq-eqb i n (omega arith))
    ∙ sym (ap (λ t. then_some t k) (lt-ltb 0 (length (k ∷ ks)) (omega arith)))
first_place (suc j) i n (k ∷ ks) e =
    let z : ltb (suc j) (length (k ∷ ks)) ≡ ltb j (length ks) = grind (arith, nat_tests) in
    ap (λ t. cond t (Some k) (first_at (λ m _. eqb m n) (suc i) ks)) (ne_eqb i n (λ w. omega arith)) ∙ first_place j (suc i) n ks (omega arith)
    ∙ ap (λ t. then_some t (get_or ks j 0)) (sym z)
