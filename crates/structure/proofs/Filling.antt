-- Filling the first slots of a list, one by one.
use Rattle.std.proofs.Common.{◌≡◌, ℕ, ◌+◌, ◌<◌, ◌≤◌, List, [], ◌∷◌, ◌++◌, map, length, get_or, take, drop, set, sym, refl, ap, ◌∙◌, arith}
use Rattle.std.proofs.lemmas.List.{take_more_set, take-append-drop, take_all, drop-set-lt, map_more, length-map, length-set}
use Rattle.links.specs.Walks.{filled}
use Rattle.links.proofs.Meeting.{drop_further}

-- the slots below i hold f of the numbers, and the later ones are as they were
pub record Filling {X : Type 0} (f : ℕ → X) (numbers : List ℕ) (old : List X) (i : ℕ) (list : List X) : Type 0 where
  pub long : length list ≡ length old
  pub front : take i list ≡ map f (take i numbers)
  pub later : drop i list ≡ drop i old

module _ {X : Type 0} (f : ℕ → X) (numbers : List ℕ) (old : List X) where
  pub filling_none : Filling f numbers old 0 old
  filling_none = record { long = refl; front = refl; later = refl }

  pub filling_more : (i : ℕ) (list : List X) (x : X) → Filling f numbers old i list → i < length numbers → length numbers ≤ length old → x ≡ f (get_or numbers i 0) → Filling f numbers old (i + 1) (set list i x)
  filling_more i list x p h room is = record {
    long = length-set list i x ∙ p.long;
    front = take_more_set list i x (omega (arith, p.long))
        ∙ ap (λ l. l ++ x ∷ []) p.front
        ∙ ap (λ y. map f (take i numbers) ++ y ∷ []) is
        ∙ sym (map_more f numbers i 0 h);
    later = drop-set-lt (i + 1) list i x (omega arith) ∙ drop_further i (i + 1) list old (omega arith) p.later;
  }

  pub filling_all : (i : ℕ) (list : List X) → Filling f numbers old i list → i ≡ length numbers → list ≡ filled (map f numbers) old
  filling_all i list p all =
      let front : take i list ≡ map f numbers = p.front ∙ ap (map f) (take_all i numbers (omega arith)) in
      sym (take-append-drop i list)
      ∙ ap (λ l. l ++ drop i list) front
      ∙ ap (λ l. map f numbers ++ l) p.later
      ∙ ap (λ k. map f numbers ++ drop k old) (all ∙ sym (length-map numbers f))
