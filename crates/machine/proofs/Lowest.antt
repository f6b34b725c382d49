-- A search over the places, by `find`, gives the lowest one that passes.
use Rattle.std.proofs.Common.{◌≡◌, ℕ, ◌<◌, ◌≤◌, Bool, true, false, Some, None, Option, sym, ap, arith, Bor, MatchOption}
use denote.Param.Members.{Mut}
use Rattle.std.specs.Fn.{CalledAt}
use Rattle.std.specs.Iterator.{FindsItem}
use Rattle.std.specs.declared.ops.Range.{Range}
use Rattle.std.proofs.iter.Yields.{nat_range_steps}
use Rattle.std.proofs.lemmas.Iterator.{first_from_Range}
use Rattle.semantics.specs.Calls.{lowest}
use Rattle.semantics.proofs.Lowest.{found, none_found}

pub lowest_from_find : {F : Type 0} {g : Mut F (Bor ℕ × Unit {0}) Bool} (p : ℕ → Bool) (n : ℕ) (s u : Range ℕ) (f : F) (r : Option ℕ) → s ≡ record { start = 0; end = n } →
    FindsItem nat_range_steps g s f r u → ((x : ℕ) (b : Bool) (q : F) → CalledAt g f x b q → (q ≡ f) × (b ≡ p x)) → r ≡ lowest p 0 n
lowest_from_find p n s u f r e ran is =
    go r (first_from_Range s u f r (λ x. p x ≡ true) (λ x. p x ≡ false) ran (λ x q h. sym (is x true q h).1) (λ x q h. ((is x false q h).0, sym (is x false q h).1)))
  where
    go : (o : Option ℕ) → MatchOption o ((k : ℕ) → s.start ≤ k → k < s.end → p k ≡ false) (λ i. (s.start ≤ i) × (i < s.end) × (p i ≡ true) × ((k : ℕ) → s.start ≤ k → k < i → p k ≡ false)) → o ≡ lowest p 0 n
    go None h = sym (none_found p 0 n (λ j a b. h j (omega (arith, ap (λ (s : Range ℕ). s.start) e)) (omega (arith, ap (λ (s : Range ℕ). s.end) e))))
    go (Some i) h =
        sym (found p 0 n i (omega arith) (omega (arith, h.1, ap (λ (s : Range ℕ). s.end) e)) h.2 (λ j a b. h.3 j (omega (arith, ap (λ (s : Range ℕ). s.start) e)) b))
