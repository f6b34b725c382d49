-- Numbers of a chain: that none passes a test, that one has a place, and rules about edges alone.
use Rattle.std.proofs.Common.{◌≡◌, ℕ, suc, ◌<◌, Bool, true, false, cond, not, ◌||◌, eqb, ◌↔◌, List, [], ◌∷◌, length, sym, refl, subst, arith}
use Rattle.std.specs.List.{ContainsAt as Has}
use Rattle.std.proofs.lemmas.Bool.{or_parts, or_from, not-false, not_from_true, both_ways}
use Rattle.chains.specs.Some.{some_at, some, among}
use Rattle.chains.specs.EdgeRules.{of_edges}
use Rattle.semantics.specs.Books.{place_in}
use Rattle.kept_rules.specs.Kept.{AllAt}
use Rattle.kept_rules.proofs.Everywhere.{all_at_has, all_at_members, never_passed}
use Rattle.kept_rules.proofs.ByChains.{Chains, Kept}

-- none passes a test exactly if each fails
some_at_none : (f : ℕ → ℕ → Bool) (i : ℕ) (ks : List ℕ) → some_at f i ks ≡ false ↔ AllAt (λ j k. f j k ≡ false) i ks
some_at_none f i [] = (λ e. tt, λ h. refl)
some_at_none f i (k ∷ ks) =
    let rest = some_at_none f (suc i) ks in (
      λ e. let parts = or_parts (f i k) _ e in (parts.0, rest.0 parts.1),
      λ h. or_from (f i k) _ h.0 (rest.1 h.1),
    )

pub some_none : (f : ℕ → Bool) (ks : List ℕ) → some f ks ≡ false ↔ ((k : ℕ) → Has ks k → f k ≡ false)
some_none f ks =
    let at = some_at_none (λ _ k. f k) 0 ks in
    (λ e k h. (all_at_has (λ _ x. f x ≡ false) 0 ks (at.0 e) k h).1, λ each. at.1 (all_at_members (λ _ x. f x ≡ false) 0 ks (λ _ k h. each k h)))

-- a number has a place in a list exactly if it is one of it
pub place_there : (k i : ℕ) (ks : List ℕ) → some_at (λ _ j. eqb j k) i ks ≡ true ↔ place_in ks k < length ks
place_there k i [] = (λ e. absurd (both_ways false refl e), λ h. absurd (omega arith))
place_there k i (j ∷ ks) = go (eqb j k) (place_there k (suc i) ks)
  where
    go : (t : Bool) → (some_at (λ _ x. eqb x k) (suc i) ks ≡ true ↔ place_in ks k < length ks)
        → (t || some_at (λ _ x. eqb x k) (suc i) ks) ≡ true ↔ cond t 0 (suc (place_in ks k)) < suc (length ks)
    go true rest = (λ e. omega arith, λ h. refl)
    go false rest = (λ e. let later = rest.0 e in omega arith, λ h. rest.1 (omega arith))

-- the same of the chain ks, as a test follows it
pub not_outside : (js ks : List ℕ) → js ≡ ks → (k : ℕ) → not (among k js) ≡ false ↔ place_in ks k < length ks
not_outside js ks same k =
    let there = place_there k 0 ks in
    subst (λ ns. not (among k ns) ≡ false ↔ place_in ks k < length ks) (sym same)
    (λ e. there.0 (not-false (among k ks) e), λ h. not_from_true (among k ks) (there.1 h))

-- a rule about edges alone
pub edges_kept : (c : Chains) (broken : ℕ → ℕ → Bool) →
    Kept c (of_edges broken) ↔ ((s : ℕ) → Has c.stations s → (p : ℕ) → Has (c.phases s) p → (e : ℕ) → Has (c.edges p) e → broken p e ≡ false)
edges_kept c broken = (
  λ k. k.edge,
  λ each. record {
    station = never_passed c.stations;
    phase = λ s hs. never_passed (c.phases s);
    edge = each;
    word = λ s hs p hp. never_passed (c.words p);
  },
)
