-- Shared moments: no two records meet exactly if at most one of them takes a word at a moment.
use Rattle.std.proofs.Common.{◌≡◌, ℕ, Bool, true, false, not, ◌&&◌, eqb, ◌↔◌, List, [], ◌∷◌, map, Decides, sym, refl, ap, ◌∙◌, subst, ⊎_elim, arith}
use Rattle.std.specs.List.{ContainsAt as Has}
use Rattle.std.proofs.ByRecursion.{all-has}
use Rattle.std.proofs.lemmas.Bool.{both_ways, eqb-false, ne_eqb, not_from_false, and_from}
use Rattle.links.specs.Queues.{Distinct}
use Rattle.chains.specs.Some.{some}
use Rattle.semantics.specs.Times.{Fraction}
use Rattle.semantics.specs.Limits.{AtMostOne}
use Rattle.kept_rules.proofs.Everywhere.{all_mapped, mapped_has, has_first, has_later, has_cases}
use Rattle.tree_laws.proofs.Chains.{some_none}

module _ {Y : Type 0} (fits : Y → Bool) (g : ℕ → Y) where
  -- where no two different numbers fit, at most one does
  at_most_one : (xs : List ℕ) → Distinct xs → ((x y : ℕ) → Has xs x → Has xs y → (y ≡ x → ⊥) → fits (g x) ≡ true → fits (g y) ≡ true → ⊥) → AtMostOne fits (map g xs)
  at_most_one [] d h = tt
  at_most_one (x ∷ xs) d h = (
    λ e.
        all_mapped (λ y. fits y ≡ false) g xs
        (λ y hy. only (fits (g y)) (h x y (has_first x xs) (has_later x xs y hy) (all-has (λ z. z ≡ x → ⊥) xs y d.0 hy) e)),
    at_most_one xs d.1 (λ z y hz hy. h z y (has_later x xs z hz) (has_later x xs y hy)),
  )
    where
      only : (t : Bool) → (t ≡ true → ⊥) → t ≡ false
      only true never = absurd (never refl)
      only false never = refl

  -- of those that fit, all are one
  one_only : (xs : List ℕ) → AtMostOne fits (map g xs) → (e f : ℕ) → Has xs e → Has xs f → fits (g e) ≡ true → fits (g f) ≡ true → e ≡ f
  one_only [] a e f he hf fe ff = absurd (omega (arith, he.1))
  one_only (x ∷ xs) a e f he hf fe ff =
      let others : (k j : ℕ) → x ≡ k → fits (g k) ≡ true → Has xs j → fits (g j) ≡ true → k ≡ j =
      λ k j is fk hj fj. absurd (both_ways _ (mapped_has (λ y. fits y ≡ false) g xs (a.0 (ap (λ z. fits (g z)) is ∙ fk)) j hj) fj) in
      ⊎_elim
      (λ (is : x ≡ e). ⊎_elim (λ (it : x ≡ f). sym is ∙ it) (λ (hx : Has xs f). others e f is fe hx ff) (has_cases x xs f hf))
      (λ (hx : Has xs e). ⊎_elim (λ (it : x ≡ f). sym (others f e it ff hx fe)) (λ (hy : Has xs f). one_only xs a.1 e f hx hy fe ff) (has_cases x xs f hf))
      (has_cases x xs e he)

-- two take the same port and value at one moment
abbrev pub Share : {Y : Type 0} → (Fraction → Type 0) → (ℕ → ℕ → Fraction → Y → Bool) → Y → Y → Type 0
Share when fits x y = (p : ℕ) × ((v : ℕ) × ((t : Fraction) × (when t × ((fits p v t x ≡ true) × (fits p v t y ≡ true)))))

-- the records xs of a chain, as ys where a test follows it
module _ {Y : Type 0} (when : Fraction → Type 0) (fits : ℕ → ℕ → Fraction → Y → Bool) (g : ℕ → Y) (meet : ℕ → ℕ → Bool) (xs ys : List ℕ) (same : ys ≡ xs)
    (shares : (e f : ℕ) → Has xs e → Has xs f → Decides (meet e f) (Share when fits (g e) (g f))) where
  abbrev meeting : ℕ → ℕ → Bool
  meeting e f = not (eqb f e) && meet e f

  each_other : (e : ℕ) → some (meeting e) ys ≡ false ↔ ((f : ℕ) → Has xs f → meeting e f ≡ false)
  each_other e = subst (λ zs. some (meeting e) zs ≡ false ↔ ((f : ℕ) → Has xs f → meeting e f ≡ false)) (sym same) (some_none (meeting e) xs)

  -- two that share a moment and do not meet are one
  not_two : (e f : ℕ) → Has xs e → Has xs f → meeting e f ≡ false → (f ≡ e → ⊥) → Share when fits (g e) (g f) → ⊥
  not_two e f he hf none other s = both_ways (meeting e f) none (and_from (not (eqb f e)) (meet e f) (not_from_false (eqb f e) (ne_eqb f e other)) ((shares e f he hf).1 s))

  none_meets : (e f : ℕ) → Has xs e → Has xs f → (Share when fits (g e) (g f) → f ≡ e) → meeting e f ≡ false
  none_meets e f he hf one = go (eqb f e) refl (meet e f) refl
    where
      go : (t : Bool) → eqb f e ≡ t → (m : Bool) → meet e f ≡ m → (not t && m) ≡ false
      go true is m met = refl
      go false is false met = refl
      go false is true met = absurd (eqb-false f e is (one ((shares e f he hf).0 met)))

  pub apart : Distinct xs → ((e : ℕ) → Has xs e → some (meeting e) ys ≡ false) ↔ ((p v : ℕ) (t : Fraction) → when t → AtMostOne (fits p v t) (map g xs))
  apart d = (
    λ none p v t now.
        at_most_one (fits p v t) g xs d (λ e f he hf other fe ff. not_two e f he hf ((each_other e).0 (none e he) f hf) other (p, (v, (t, (now, (fe, ff)))))),
    λ few e he.
        (each_other e).1
        (λ f hf.
        none_meets e f he hf
        (λ s.
        one_only (fits s.0 s.1.0 s.1.1.0) g xs (few s.0 s.1.0 s.1.1.0 s.1.1.1.0) f e hf he s.1.1.1.1.1 s.1.1.1.1.0)),
  )
