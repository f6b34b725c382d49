-- A list of faults is empty exactly if each record keeps the rule.
use Rattle.std.proofs.Common.{◌≡◌, ℕ, suc, Bool, true, false, ◌↔◌, List, [], ◌∷◌, ◌++◌, None, refl, ap, ◌∙◌, subst, arith}
use Rattle.std.specs.List.{AllByRecursion}
use Rattle.visits.specs.Smallest.{smallest, only_if, along, IsSmallest}
use Rattle.visits.specs.Visits.{Rule, faults, station_faults, phase_faults, edge_faults, word_faults, stations, phases, edges, words}
use Rattle.visits.proofs.Least.{smallest_is_smallest}
use Rattle.kept_rules.specs.Kept.{AllAt, PhaseKeeps, StationKeeps, Keeps, KeptWhereNoneIsFound}

-- there is no smallest number exactly of no numbers
pub smallest_none : (ks : List ℕ) → smallest ks ≡ None ↔ ks ≡ []
smallest_none ks = (λ e. subst (IsSmallest ks) e (smallest_is_smallest ks), λ e. ap smallest e)

pub nil_parts : {X : Type 0} (xs ys : List X) → xs ++ ys ≡ [] → (xs ≡ []) × (ys ≡ [])
nil_parts [] ys e = (refl, e)
nil_parts (x ∷ xs) ys e = let z : ◌≡◌ {A = ℕ} 0 1 = cc in absurd (omega arith)

pub nil_from : {X : Type 0} (xs ys : List X) → xs ≡ [] → ys ≡ [] → xs ++ ys ≡ []
nil_from xs ys e f = ap (λ zs. zs ++ ys) e ∙ f

pub only_if_none : (t : Bool) (k : ℕ) → only_if t k ≡ [] ↔ t ≡ false
only_if_none true k = (λ e. let z : ◌≡◌ {A = ℕ} 0 1 = cc in absurd (omega arith), λ e. let z : ◌≡◌ {A = ℕ} 0 1 = cc in absurd (omega arith))
only_if_none false k = (λ e. refl, λ e. refl)

-- f gives nothing along a list exactly if what each place asks for holds there
pub along_none : (f : ℕ → ℕ → List ℕ) (P : ℕ → ℕ → Type 0) → ((i k : ℕ) → f i k ≡ [] ↔ P i k) → (i : ℕ) (ks : List ℕ) → along f i ks ≡ [] ↔ AllAt P i ks
along_none f P each i [] = (λ e. tt, λ a. refl)
along_none f P each i (k ∷ ks) =
    let rest = along_none f P each (suc i) ks in (
      λ e. let parts = nil_parts (f i k) (along f (suc i) ks) e in ((each i k).0 parts.0, rest.0 parts.1),
      λ a. nil_from (f i k) (along f (suc i) ks) ((each i k).1 a.0) (rest.1 a.1),
    )

-- what is asked for whatever the place
pub all_at_all : (P : ℕ → Type 0) (i : ℕ) (ks : List ℕ) → AllAt (λ _ k. P k) i ks ↔ AllByRecursion P ks
all_at_all P i [] = (λ a. tt, λ a. tt)
all_at_all P i (k ∷ ks) = let rest = all_at_all P (suc i) ks in (λ a. (a.0, rest.0 a.1), λ a. (a.0, rest.1 a.1))

-- a test that no number passes, with its place and without
pub along_test_at : (t : ℕ → ℕ → Bool) (i : ℕ) (ks : List ℕ) → along (λ j k. only_if (t j k) k) i ks ≡ [] ↔ AllAt (λ j k. t j k ≡ false) i ks
along_test_at t = along_none (λ j k. only_if (t j k) k) (λ j k. t j k ≡ false) (λ j k. only_if_none (t j k) k)

pub along_test : (t : ℕ → Bool) (i : ℕ) (ks : List ℕ) → along (λ _ k. only_if (t k) k) i ks ≡ [] ↔ AllByRecursion (λ k. t k ≡ false) ks
along_test t i ks =
    let at = along_test_at (λ _ k. t k) i ks in
    let all = all_at_all (λ k. t k ≡ false) i ks in
    (λ e. all.0 (at.0 e), λ a. at.1 (all.1 a))

module _ (b : List ℕ) (r : Rule) where
  pub phase_kept : (s i p : ℕ) → phase_faults b r s i p ≡ [] ↔ PhaseKeeps b r s i p
  phase_kept s i p =
      let own = only_if_none (r.phase s i p) p in
      let es = along_test (r.edge s p) 0 (edges b p) in
      let ws = along_test_at r.word 0 (words b p) in (
        λ e.
            let parts = nil_parts (only_if (r.phase s i p) p) (edge_faults b r s p ++ word_faults b r p) e in
            let inner = nil_parts (edge_faults b r s p) (word_faults b r p) parts.1 in
            record { itself = own.0 parts.0; edges = es.0 inner.0; words = ws.0 inner.1 },
        λ k.
            nil_from (only_if (r.phase s i p) p) (edge_faults b r s p ++ word_faults b r p) (own.1 k.itself)
            (nil_from (edge_faults b r s p) (word_faults b r p) (es.1 k.edges) (ws.1 k.words)),
      )

  pub station_kept : (i s : ℕ) → station_faults b r i s ≡ [] ↔ StationKeeps b r i s
  station_kept i s =
      let own = only_if_none (r.station i s) s in
      let ps = along_none (phase_faults b r s) (PhaseKeeps b r s) (phase_kept s) 0 (phases b s) in (
        λ e.
            let parts = nil_parts (only_if (r.station i s) s) (along (phase_faults b r s) 0 (phases b s)) e in
            record { itself = own.0 parts.0; phases = ps.0 parts.1 },
        λ k. nil_from (only_if (r.station i s) s) (along (phase_faults b r s) 0 (phases b s)) (own.1 k.itself) (ps.1 k.phases),
      )

  pub faults_none : faults b r ≡ [] ↔ Keeps b r
  faults_none = along_none (station_faults b r) (StationKeeps b r) station_kept 0 (stations b)

pub kept_where_none_is_found : KeptWhereNoneIsFound
kept_where_none_is_found b r =
    let none = smallest_none (faults b r) in
    let kept = faults_none b r in
    (λ e. kept.0 (none.0 e), λ k. none.1 (kept.1 k))
