-- No record breaks a rule exactly if each record keeps it, where the chains of a book are given.
use Rattle.std.proofs.Common.{◌≡◌, ℕ, false, cond, ltb, ◌↔◌, List, [], None, sym, ap, subst}
use Rattle.std.specs.List.{ContainsAt as Has, AllByRecursion}
use Rattle.std.proofs.ByRecursion.{all-has}
use Rattle.book.specs.Chains.{whole_records, chain_of}
use Rattle.visits.specs.Smallest.{smallest}
use Rattle.visits.specs.Visits.{Rule, faults, followed, stations, phases, edges, words}
use Rattle.kept_rules.specs.Kept.{AllAt, PhaseKeeps, StationKeeps, Keeps}
use Rattle.kept_rules.proofs.Kept.{kept_where_none_is_found}
use Rattle.kept_rules.proofs.Everywhere.{all_members, all_at_has, all_at_within}

-- no chain of a book that is not too long is cut short
pub followed_is : (b : List ℕ) → ltb 2000 (whole_records b) ≡ false → (i : ℕ) → followed b i ≡ chain_of b i
followed_is b few i = ap (λ t. cond t [] (chain_of b i)) few

-- the stations of a book, the phases of a station, and the edges and the words of a phase
pub record Chains : Type 0 where
  pub stations : List ℕ
  pub phases : ℕ → List ℕ
  pub edges : ℕ → List ℕ
  pub words : ℕ → List ℕ

-- these are the chains of the book
pub record ChainsOf (b : List ℕ) (c : Chains) : Type 0 where
  pub stations_are : stations b ≡ c.stations
  pub phases_are : (s : ℕ) → phases b s ≡ c.phases s
  pub edges_are : (p : ℕ) → edges b p ≡ c.edges p
  pub words_are : (p : ℕ) → words b p ≡ c.words p

-- a rule is kept, chain by chain
pub record Kept (c : Chains) (r : Rule) : Type 0 where
  pub station : AllAt (λ i s. r.station i s ≡ false) 0 c.stations
  pub phase : (s : ℕ) → Has c.stations s → AllAt (λ i p. r.phase s i p ≡ false) 0 (c.phases s)
  pub edge : (s : ℕ) → Has c.stations s → (p : ℕ) → Has (c.phases s) p → (e : ℕ) → Has (c.edges p) e → r.edge s p e ≡ false
  pub word : (s : ℕ) → Has c.stations s → (p : ℕ) → Has (c.phases s) p → AllAt (λ j w. r.word j w ≡ false) 0 (c.words p)

module _ (b : List ℕ) (c : Chains) (of : ChainsOf b c) (r : Rule) where
  kept_from : Keeps b r → Kept c r
  kept_from k =
      let each : AllAt (StationKeeps b r) 0 c.stations = subst (AllAt (StationKeeps b r) 0) of.stations_are k in
      let of_station : (s : ℕ) → Has c.stations s → AllAt (PhaseKeeps b r s) 0 (c.phases s) =
      λ s hs. subst (AllAt (PhaseKeeps b r s) 0) (of.phases_are s) (all_at_has (StationKeeps b r) 0 c.stations each s hs).1.phases in
      let of_phase : (s : ℕ) → Has c.stations s → (p : ℕ) → Has (c.phases s) p → (i : ℕ) × PhaseKeeps b r s i p =
      λ s hs p hp. all_at_has (PhaseKeeps b r s) 0 (c.phases s) (of_station s hs) p hp in
      record {
        station = all_at_within (StationKeeps b r) (λ i s. r.station i s ≡ false) 0 c.stations (λ i s h x. x.itself) each;
        phase = λ s hs. all_at_within (PhaseKeeps b r s) (λ i p. r.phase s i p ≡ false) 0 (c.phases s) (λ i p h x. x.itself) (of_station s hs);
        edge = λ s hs p hp e he.
            all-has (λ x. r.edge s p x ≡ false) (c.edges p) e (subst (AllByRecursion (λ x. r.edge s p x ≡ false)) (of.edges_are p) (of_phase s hs p hp).1.edges) he;
        word = λ s hs p hp. subst (AllAt (λ j w. r.word j w ≡ false) 0) (of.words_are p) (of_phase s hs p hp).1.words;
      }

  from_kept : Kept c r → Keeps b r
  from_kept k =
      let phase-keeps : (s : ℕ) → Has c.stations s → (i p : ℕ) → Has (c.phases s) p → r.phase s i p ≡ false → PhaseKeeps b r s i p =
      λ s hs i p hp own. record {
        itself = own;
        edges = subst (AllByRecursion (λ x. r.edge s p x ≡ false)) (sym (of.edges_are p)) (all_members (λ x. r.edge s p x ≡ false) (c.edges p) (k.edge s hs p hp));
        words = subst (AllAt (λ j w. r.word j w ≡ false) 0) (sym (of.words_are p)) (k.word s hs p hp);
      } in
      let station-keeps : (i s : ℕ) → Has c.stations s → r.station i s ≡ false → StationKeeps b r i s =
      λ i s hs own. record {
        itself = own;
        phases = subst (AllAt (PhaseKeeps b r s) 0) (sym (of.phases_are s))
            (all_at_within (λ i p. r.phase s i p ≡ false) (PhaseKeeps b r s) 0 (c.phases s) (phase-keeps s hs) (k.phase s hs));
      } in
      subst (AllAt (StationKeeps b r) 0) (sym of.stations_are)
      (all_at_within (λ i s. r.station i s ≡ false) (StationKeeps b r) 0 c.stations station-keeps k.station)

  pub none_found : smallest (faults b r) ≡ None ↔ Kept c r
  none_found =
      let keeps = kept_where_none_is_found b r in
      (λ e. kept_from (keeps.0 e), λ k. keeps.1 (from_kept k))
