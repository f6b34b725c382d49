-- Rules about the edges of a model book, or the transitions of an automaton book, alone.
use Rattle.std.specs.Prelude.{ℕ, Bool, false, List}
use Rattle.visits.specs.Smallest.{only_if, along}
use Rattle.visits.specs.Visits.{Rule, edges, faults}

-- the rule that the edge e of the phase p breaks where that is said; no other record breaks it
abbrev pub of_edges : (ℕ → ℕ → Bool) → Rule
of_edges broken = record {
  station = λ i s. false;
  phase = λ s i p. false;
  edge = λ s p e. broken p e;
  word = λ i w. false;
}

-- the edges of a book that break it
abbrev pub faulty_edges : List ℕ → (ℕ → ℕ → Bool) → List ℕ
faulty_edges b broken = faults b (of_edges broken)

-- the edges of one phase that break it
abbrev pub broken_edges : List ℕ → (ℕ → ℕ → Bool) → ℕ → List ℕ
broken_edges b broken p = along (λ i e. only_if (broken p e) e) 0 (edges b p)
