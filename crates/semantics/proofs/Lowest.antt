-- The lowest place that passes.
use Rattle.std.proofs.Common.{◌≡◌, ℕ, zero, suc, ◌+◌, ◌<◌, ◌≤◌, Bool, true, false, cond, ◌⊎◌, Some, None, sym, refl, ap, ◌∙◌, subst, inl, inr, arith}
use Rattle.std.proofs.lemmas.Bool.{cases_eq}
use Rattle.semantics.specs.Calls.{lowest}
use Rattle.semantics.proofs.Options.{some_not_none, inner}

module _ (p : ℕ → Bool) where
  -- i is the lowest from k on, below k + n
  pub record Lowest (k n i : ℕ) : Type 0 where
    pub from : k ≤ i
    pub under : i < k + n
    pub passes : p i ≡ true
    pub below : (j : ℕ) → k ≤ j → j < i → p j ≡ false

  pub is_lowest : (k n i : ℕ) → lowest p k n ≡ Some i → Lowest k n i
  is_lowest k zero i e = absurd (some_not_none i (sym e))
  is_lowest k (suc n) i e = go (p k) refl (is_lowest (suc k) n i)
    where
      go : (b : Bool) → p k ≡ b → (lowest p (suc k) n ≡ Some i → Lowest (suc k) n i) → Lowest k (suc n) i
      go true h rest =
          let same : k ≡ i = inner (sym (ap (λ b. cond b (Some k) (lowest p (suc k) n)) h) ∙ e) in
          record { from = omega arith; under = omega arith; passes = subst (λ x. p x ≡ true) same h; below = λ j a b. absurd (omega arith) }
      go false h rest =
          let r = rest (sym (ap (λ b. cond b (Some k) (lowest p (suc k) n)) h) ∙ e) in
          record { from = let x = r.from in omega arith; under = let x = r.under in omega arith; passes = r.passes; below = λ j a b. under r j a b (cases_eq j k) }
        where
          under : Lowest (suc k) n i → (j : ℕ) → k ≤ j → j < i → (j ≡ k) ⊎ (j ≡ k → ⊥) → p j ≡ false
          under r j a b (inl same) = subst (λ x. p x ≡ false) (sym same) h
          under r j a b (inr other) = r.below j (omega (arith, other)) b

  pub all_fail : (k n : ℕ) → lowest p k n ≡ None → (j : ℕ) → k ≤ j → j < k + n → p j ≡ false
  all_fail k zero e j a b = absurd (omega arith)
  all_fail k (suc n) e j a b = go (p k) refl (all_fail (suc k) n) (cases_eq j k)
    where
      go : (v : Bool) → p k ≡ v → (lowest p (suc k) n ≡ None → (j : ℕ) → suc k ≤ j → j < suc k + n → p j ≡ false) → (j ≡ k) ⊎ (j ≡ k → ⊥) → p j ≡ false
      go true h rest c = absurd (some_not_none k (sym (ap (λ b. cond b (Some k) (lowest p (suc k) n)) h) ∙ e))
      go false h rest (inl same) = subst (λ x. p x ≡ false) (sym same) h
      go false h rest (inr other) = rest (sym (ap (λ b. cond b (Some k) (lowest p (suc k) n)) h) ∙ e) j (omega (arith, other)) (omega arith)

  pub none_found : (k n : ℕ) → ((j : ℕ) → k ≤ j → j < k + n → p j ≡ false) → lowest p k n ≡ None
  none_found k zero h = refl
  none_found k (suc n) h =
      ap (λ b. cond b (Some k) (lowest p (suc k) n)) (h k (omega arith) (omega arith)) ∙ none_found (suc k) n (λ j a b. h j (omega arith) (omega arith))

  pub found : (k n i : ℕ) → k ≤ i → i < k + n → p i ≡ true → ((j : ℕ) → k ≤ j → j < i → p j ≡ false) → lowest p k n ≡ Some i
  found k zero i a b h below = absurd (omega arith)
  found k (suc n) i a b h below = go (cases_eq i k) (λ c. found (suc k) n i c (omega arith) h (λ j d e. below j (omega arith) e))
    where
      go : (i ≡ k) ⊎ (i ≡ k → ⊥) → (suc k ≤ i → lowest p (suc k) n ≡ Some i) → lowest p k (suc n) ≡ Some i
      go (inl same) rest = ap (λ b. cond b (Some k) (lowest p (suc k) n)) (subst (λ x. p x ≡ true) same h) ∙ ap Some (sym same)
      go (inr other) rest =
          ap (λ b. cond b (Some k) (lowest p (suc k) n)) (below k (omega arith) (omega (arith, other))) ∙ rest (omega (arith, other))
