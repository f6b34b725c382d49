-- The edges of a book that break a rule about edges alone are those of its stations' phases, one phase after another.
use Rattle.std.proofs.Common.{◌≡◌, ℕ, suc, Bool, List, [], ◌∷◌, ◌++◌, sym, refl, ap, ◌∙◌}
use Rattle.std.proofs.lemmas.List.{append-nil}
use Rattle.visits.specs.Smallest.{along}
use Rattle.visits.specs.Visits.{phases, stations, phase_faults, words}
use Rattle.chains.specs.EdgeRules.{of_edges, faulty_edges, broken_edges}

-- two functions that give the same at each place give the same along a list
pub along_same : (f h : ℕ → ℕ → List ℕ) → ((i k : ℕ) → f i k ≡ h i k) → (i : ℕ) (ks : List ℕ) → along f i ks ≡ along h i ks
along_same f h same i [] = refl
along_same f h same i (k ∷ ks) = ap (λ l. l ++ along f (suc i) ks) (same i k) ∙ ap (λ l. h i k ++ l) (along_same f h same (suc i) ks)

-- where nothing is found, nothing is found
along_none : (i : ℕ) (ks : List ℕ) → along (λ j k. []) i ks ≡ []
along_none i [] = refl
along_none i (k ∷ ks) = along_none (suc i) ks

module _ (b : List ℕ) (broken : ℕ → ℕ → Bool) where
  of_phase : (s i p : ℕ) → broken_edges b broken p ≡ phase_faults b (of_edges broken) s i p
  of_phase s i p = sym (ap (λ l. broken_edges b broken p ++ l) (along_none 0 (words b p)) ∙ append-nil (broken_edges b broken p))

  pub nested : along (λ i s. along (λ j p. broken_edges b broken p) 0 (phases b s)) 0 (stations b) ≡ faulty_edges b broken
  nested = along_same _ _ (λ i s. along_same _ _ (of_phase s) 0 (phases b s)) 0 (stations b)
