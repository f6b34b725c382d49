-- What it is that no record of a book breaks a rule.
use Rattle.std.specs.Prelude.{◌≡◌, ℕ, suc, false, ◌↔◌, List, [], ◌∷◌, None}
use Rattle.std.specs.List.{AllByRecursion}
use Rattle.visits.specs.Smallest.{smallest}
use Rattle.visits.specs.Visits.{Rule, faults, stations, phases, edges, words}

-- each number of the list has it, with its place there, counted from i
abbrev pub AllAt : (ℕ → ℕ → Type 0) → ℕ → List ℕ → Type 0
AllAt P i [] = Unit {0}
AllAt P i (k ∷ ks) = P i k × AllAt P (suc i) ks

-- the rule is kept by a phase with its edges and words, by a station with its phases, and by a book
module _ (b : List ℕ) (r : Rule) where
  pub record PhaseKeeps (s i p : ℕ) : Type 0 where
    pub itself : r.phase s i p ≡ false
    pub edges : AllByRecursion (λ e. r.edge s p e ≡ false) (edges b p)
    pub words : AllAt (λ j w. r.word j w ≡ false) 0 (words b p)

  pub record StationKeeps (i s : ℕ) : Type 0 where
    pub itself : r.station i s ≡ false
    pub phases : AllAt (PhaseKeeps s) 0 (phases b s)

  abbrev pub Keeps : Type 0
  Keeps = AllAt StationKeeps 0 (stations b)

-- There is no smallest record that breaks a rule exactly if every record keeps it.
abbrev pub KeptWhereNoneIsFound : Type 0
KeptWhereNoneIsFound = (b : List ℕ) (r : Rule) → smallest (faults b r) ≡ None ↔ Keeps b r
