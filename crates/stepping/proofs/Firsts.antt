-- The first that fits, where at most one does.
use Rattle.std.proofs.Common.{◌≡◌, ℕ, zero, suc, ◌<◌, Bool, true, false, cond, List, [], ◌∷◌, length, get_or, Some, None, sym, refl, ap, ◌∙◌, ap₂, inl, inr, suc-le-suc, arith}
use Rattle.std.specs.List.{AllByRecursion}
use Rattle.semantics.specs.Fits.{first}
use Rattle.semantics.specs.Limits.{AtMostOne}
use Rattle.semantics.specs.ModelRules.{Any}
use Rattle.semantics.proofs.Options.{some_not_none, true_not_false}

pub any_at : {A : Type 0} (P : A → Type 0) (d : A) (xs : List A) (k : ℕ) → k < length xs → P (get_or xs k d) → Any P xs
any_at P d [] k l h = absurd (omega arith)
any_at P d (x ∷ xs) zero l h = inl h
any_at P d (x ∷ xs) (suc k) l h = inr (any_at P d xs k (omega arith) h)

pub all_or : {A : Type 0} (P : A → Type 0) (d : A) → P d → (xs : List A) → AllByRecursion P xs → (i : ℕ) → P (get_or xs i d)
all_or P d blank [] h i = blank
all_or P d blank (x ∷ xs) h zero = h.0
all_or P d blank (x ∷ xs) h (suc i) = all_or P d blank xs h.1 i

pub first_same : {A : Type 0} (f g : A → Bool) (goal : A → ℕ) (xs : List A) → AllByRecursion (λ x. f x ≡ g x) xs → first f goal xs ≡ first g goal xs
first_same f g goal [] h = refl
first_same f g goal (x ∷ xs) h = ap₂ (λ b r. cond b (Some (goal x)) r) h.0 (first_same f g goal xs h.1)

pub none_fits : {A : Type 0} (fits : A → Bool) (Q : A → Type 0) (xs : List A) → AllByRecursion (λ x. fits x ≡ false) xs → Any (λ x. (fits x ≡ true) × Q x) xs → ⊥
none_fits fits Q [] e h = h
none_fits fits Q (x ∷ xs) e (inl h) = true_not_false (sym h.0 ∙ e.0)
none_fits fits Q (x ∷ xs) e (inr h) = none_fits fits Q xs e.1 h

module _ {A : Type 0} (fits : A → Bool) (goal : A → ℕ) (d : A) where
  pub record Found (xs : List A) (s : ℕ) : Type 0 where
    pub place : ℕ
    pub within : place < length xs
    pub fit : fits (get_or xs place d) ≡ true
    pub goes : s ≡ goal (get_or xs place d)

  first_more : (x : A) (xs : List A) (s : ℕ) (b : Bool) → fits x ≡ b → cond b (Some (goal x)) (first fits goal xs) ≡ Some s → (first fits goal xs ≡ Some s → Found xs s) → Found (x ∷ xs) s
  first_more x xs s true e h rec = record { place = 0; within = omega arith; fit = e; goes = cc }
  first_more x xs s false e h rec = let r = rec h in record { place = suc r.place; within = suc-le-suc r.within; fit = r.fit; goes = r.goes }

  pub first_found : (xs : List A) (s : ℕ) → first fits goal xs ≡ Some s → Found xs s
  first_found [] s h = absurd (some_not_none _ (sym h))
  first_found (x ∷ xs) s h = first_more x xs s (fits x) refl h (first_found xs s)

  none_more : (x : A) (xs : List A) (b : Bool) → fits x ≡ b → cond b (Some (goal x)) (first fits goal xs) ≡ None → (fits x ≡ false) × (first fits goal xs ≡ None)
  none_more x xs true e h = absurd (let z : ◌≡◌ {A = ℕ} 0 1 = cc in omega arith)
  none_more x xs false e h = (e, h)

  pub first_none : (xs : List A) → first fits goal xs ≡ None → AllByRecursion (λ x. fits x ≡ false) xs
  first_none [] h = tt
  first_none (x ∷ xs) h = let r = none_more x xs (fits x) refl h in (r.0, first_none xs r.1)

  pub none_first : (xs : List A) → AllByRecursion (λ x. fits x ≡ false) xs → first fits goal xs ≡ None
  none_first [] h = refl
  none_first (x ∷ xs) h = ap (λ b. cond b (Some (goal x)) (first fits goal xs)) h.0 ∙ none_first xs h.1

  pub record Only (R : A → Type 0) (xs : List A) : Type 0 where
    pub place : ℕ
    pub within : place < length xs
    pub fit : fits (get_or xs place d) ≡ true
    pub is_first : first fits goal xs ≡ Some (goal (get_or xs place d))
    pub holds : R (get_or xs place d)

  only_later : (R : A → Type 0) (x : A) (xs : List A) (b : Bool) → fits x ≡ b → (fits x ≡ true → AllByRecursion (λ y. fits y ≡ false) xs) → Any (λ y. (fits y ≡ true) × R y) xs → Only R xs → Only R (x ∷ xs)
  only_later R x xs true e alone h r = absurd (none_fits fits R xs (alone e) h)
  only_later R x xs false e alone h r = record {
    place = suc r.place;
    within = suc-le-suc r.within;
    fit = r.fit;
    is_first = ap (λ b. cond b (Some (goal x)) (first fits goal xs)) e ∙ r.is_first;
    holds = r.holds;
  }

  pub only_first : (R : A → Type 0) (xs : List A) → AtMostOne fits xs → Any (λ y. (fits y ≡ true) × R y) xs → Only R xs
  only_first R [] alone h = absurd h
  only_first R (x ∷ xs) alone (inl h) = record { place = 0; within = omega arith; fit = h.0; is_first = ap (λ b. cond b (Some (goal x)) (first fits goal xs)) h.0; holds = h.1 }
  only_first R (x ∷ xs) alone (inr h) = only_later R x xs (fits x) refl alone.0 h (only_first R xs alone.1 h)
