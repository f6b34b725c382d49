-- Lists of which the last element has one thing, and every other has another.
use Rattle.std.proofs.Common.{◌≡◌, ℕ, suc, ◌+◌, true, false, not, ◌||◌, eqb, ◌↔◌, List, [], ◌∷◌, ◌++◌, map, length, sym, refl, ap, ◌∙◌, subst, arith}
use Rattle.std.specs.List.{ContainsAt as Has, AllByRecursion}
use Rattle.std.proofs.lemmas.Bool.{both_ways, or_parts, or_from, not-false, not_from_true, eq-eqb, ne_eqb}
use Rattle.chains.specs.Some.{some_at}
use Rattle.automaton_moves.specs.Rules.{hears_at, same, misplaced}
use Rattle.kept_rules.proofs.Everywhere.{has_first, has_later}

module _ {X : Type 0} (H M : X → Type 0) where
  abbrev pub EndsFrom : X → List X → Type 0
  EndsFrom x [] = M x
  EndsFrom x (y ∷ ys) = H x × EndsFrom y ys

  abbrev pub Ends : List X → Type 0
  Ends [] = ⊥
  Ends (x ∷ xs) = EndsFrom x xs

  -- the list is some elements and the last
  abbrev pub Split : List X → Type 0
  Split xs = (hs : List X) × ((t : X) × ((xs ≡ hs ++ (t ∷ [])) × (AllByRecursion H hs × M t)))

  split_from : (x : X) (xs : List X) → EndsFrom x xs → Split (x ∷ xs)
  split_from x [] e = ([], (x, (refl, (tt, e))))
  split_from x (y ∷ ys) e =
      let rest = split_from y ys e.1 in
      (x ∷ rest.0, (rest.1.0, (ap (λ l. x ∷ l) rest.1.1.0, ((e.0, rest.1.1.1.0), rest.1.1.1.1))))

  one_more : (x : X) (xs : List X) → H x → Ends xs → Ends (x ∷ xs)
  one_more x [] h e = absurd e
  one_more x (y ∷ ys) h e = (h, e)

  join : (hs : List X) (t : X) → AllByRecursion H hs → M t → Ends (hs ++ (t ∷ []))
  join [] t all last = last
  join (h ∷ hs) t all last = one_more h (hs ++ (t ∷ [])) all.0 (join hs t all.1 last)

  pub ends_split : (xs : List X) → Ends xs ↔ Split xs
  ends_split [] = (λ e. absurd e, λ s. subst Ends (sym s.1.1.0) (join s.0 s.1.0 s.1.1.1.0 s.1.1.1.1))
  ends_split (x ∷ xs) = (split_from x xs, λ s. subst Ends (sym s.1.1.0) (join s.0 s.1.0 s.1.1.1.0 s.1.1.1.1))

  -- what either gives, each element has
  each_from : (P : X → Type 0) (x : X) (xs : List X) → ((y : X) → Has (x ∷ xs) y → H y → P y) → ((y : X) → Has (x ∷ xs) y → M y → P y) → EndsFrom x xs → AllByRecursion P (x ∷ xs)
  each_from P x [] f g e = (g x (has_first x []) e, tt)
  each_from P x (y ∷ ys) f g e =
      (f x (has_first x (y ∷ ys)) e.0, each_from P y ys (λ z h. f z (has_later x (y ∷ ys) z h)) (λ z h. g z (has_later x (y ∷ ys) z h)) e.1)

  pub ends_each : (P : X → Type 0) (xs : List X) → ((y : X) → Has xs y → H y → P y) → ((y : X) → Has xs y → M y → P y) → Ends xs → AllByRecursion P xs
  ends_each P [] f g e = tt
  ends_each P (x ∷ xs) f g e = each_from P x xs f g e

module _ {X : Type 0} (H M I N : X → Type 0) where
  weaker_from : (x : X) (xs : List X) → ((y : X) → Has (x ∷ xs) y → H y → I y) → ((y : X) → Has (x ∷ xs) y → M y → N y) → EndsFrom H M x xs → EndsFrom I N x xs
  weaker_from x [] f g e = g x (has_first x []) e
  weaker_from x (y ∷ ys) f g e =
      (f x (has_first x (y ∷ ys)) e.0, weaker_from y ys (λ z h. f z (has_later x (y ∷ ys) z h)) (λ z h. g z (has_later x (y ∷ ys) z h)) e.1)

  pub ends_weaker : (xs : List X) → ((y : X) → Has xs y → H y → I y) → ((y : X) → Has xs y → M y → N y) → Ends H M xs → Ends I N xs
  ends_weaker [] f g e = e
  ends_weaker (x ∷ xs) f g e = weaker_from x xs f g e

-- of a mapped list
module _ {X Y : Type 0} (H M : Y → Type 0) (f : X → Y) where
  map_from : (x : X) (xs : List X) → EndsFrom H M (f x) (map f xs) ↔ EndsFrom (λ y. H (f y)) (λ y. M (f y)) x xs
  map_from x [] = (λ e. e, λ e. e)
  map_from x (y ∷ ys) = let rest = map_from y ys in (λ e. (e.0, rest.0 e.1), λ e. (e.0, rest.1 e.1))

  pub ends_map : (xs : List X) → Ends H M (map f xs) ↔ Ends (λ y. H (f y)) (λ y. M (f y)) xs
  ends_map [] = (λ e. e, λ e. e)
  ends_map (x ∷ xs) = map_from x xs

-- where no element may stand before the last, there is one
pub ends_alone : {X : Type 0} (M : X → Type 0) (xs : List X) → Ends (λ _. ⊥) M xs ↔ ((t : X) × ((xs ≡ t ∷ []) × M t))
ends_alone {X} M xs = (only xs, λ s. subst (Ends (λ _. ⊥) M) (sym s.1.0) s.1.1)
  where
    only : (ys : List X) → Ends (λ _. ⊥) M ys → (t : X) × ((ys ≡ t ∷ []) × M t)
    only [] e = absurd e
    only (y ∷ []) e = (y, (refl, e))
    only (y ∷ z ∷ zs) e = absurd e.0

-- No transition is misplaced exactly if the last does not hear, and every other does.
module _ (b : List ℕ) where
  abbrev pub Hearing : ℕ → Type 0
  Hearing t = hears_at b t ≡ true

  abbrev pub Moving : ℕ → Type 0
  Moving t = hears_at b t ≡ false

  placed_from : (n i x : ℕ) (xs : List ℕ) → i + suc (length xs) ≡ n → some_at (misplaced b n) i (x ∷ xs) ≡ false ↔ EndsFrom Hearing Moving x xs
  placed_from n i x [] e =
      let last : misplaced b n i x ≡ hears_at b x = ap (λ t. same t (hears_at b x)) (eq-eqb (i + 1) n (omega arith)) in
      (λ f. sym last ∙ (or_parts (misplaced b n i x) false f).0, λ m. or_from (misplaced b n i x) false (last ∙ m) refl)
  placed_from n i x (y ∷ ys) e =
      let other : misplaced b n i x ≡ not (hears_at b x) = ap (λ t. same t (hears_at b x)) (ne_eqb (i + 1) n (λ z. absurd (omega arith))) in
      let rest = placed_from n (suc i) y ys (omega arith) in (
        λ f.
            let parts = or_parts (misplaced b n i x) _ f in
            (not-false (hears_at b x) (sym other ∙ parts.0), rest.0 parts.1),
        λ h. or_from (misplaced b n i x) _ (other ∙ not_from_true (hears_at b x) h.0) (rest.1 h.1),
      )

  pub one_move : (ts : List ℕ) → (eqb (length ts) 0 || some_at (misplaced b (length ts)) 0 ts) ≡ false ↔ Ends Hearing Moving ts
  one_move [] = (λ e. absurd (both_ways true e refl), λ e. absurd e)
  one_move (t ∷ ts) =
      let all = placed_from (length (t ∷ ts)) 0 t ts (omega arith) in
      let some : eqb (length (t ∷ ts)) 0 ≡ false = ne_eqb (length (t ∷ ts)) 0 (λ z. absurd (omega arith)) in
      (λ e. all.0 (or_parts (eqb (length (t ∷ ts)) 0) _ e).1, λ h. or_from (eqb (length (t ∷ ts)) 0) _ some (all.1 h))
