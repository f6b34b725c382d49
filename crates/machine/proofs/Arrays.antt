-- An array that is made place by place.
use Rattle.std.proofs.Common.{◌≡◌, ℕ, zero, suc, ◌+◌, ◌<◌, ◌≤◌, ◌⊎◌, List, get_or, sym, ◌∙◌, subst, inl, inr, arith}
use denote.Param.Members.{Mut}
use Rattle.std.specs.Fn.{Called}
use Rattle.std.specs.Array.{IsFromFnResultFrom}
use Rattle.std.proofs.lemmas.Bool.{cases_eq}

-- What stands at a place is what the closure makes there.
module _ {F B : Type 0} {g : Mut F (ℕ × Unit {0}) B} (f : F) (ys : List B) (h : ℕ → B) (is : (i : ℕ) (y : B) (q : F) → Called g f (i, tt) y q → (q ≡ f) × (y ≡ h i)) where
  pub made_at : (n i k : ℕ) (d : B) → IsFromFnResultFrom g f ys i n → i ≤ k → k < i + n → get_or ys k d ≡ h k
  made_at zero i k d t a b = absurd (omega arith)
  made_at (suc n) i k d t a b =
      go (cases_eq k i) (λ c. made_at n (i + 1) k d (subst (λ q. IsFromFnResultFrom g q ys (i + 1) n) (is i t.1 t.0 t.3).0 t.4) c (omega arith))
    where
      go : (k ≡ i) ⊎ (k ≡ i → ⊥) → (i + 1 ≤ k → get_or ys k d ≡ h k) → get_or ys k d ≡ h k
      go (inl e) rest = subst (λ j. get_or ys j d ≡ h j) (sym e) (t.2.1 d ∙ (is i t.1 t.0 t.3).1)
      go (inr other) rest = rest (omega (arith, other))
