-- The tables stand for the book.
use Rattle.std.proofs.Common.{◌≡◌, ℕ, zero, suc, ◌+◌, ◌<◌, ◌≤◌, Bool, true, false, cond, ltb, List, [], ◌∷◌, map, length, get_or, take, replicate, Some, sym, refl, ap, ◌∙◌, subst, arith, length-append}
use Rattle.std.specs.Bool.{then_some}
use Rattle.std.specs.List.{flat_map, AllByRecursion}
use Rattle.std.proofs.lemmas.List.{get_or-map, length-map, take_all}
use Rattle.std.proofs.lemmas.Bool.{le-ltb, ltb-true}
use Rattle.book.specs.Chains.{whole_records}
use Rattle.book.specs.Terms.{most_records}
use Rattle.book.specs.declared.term.BookKind.{BookKind}
use Rattle.book.specs.declared.term.BookKind.TheVariants.{Model, Automaton}
use Rattle.links.specs.Queues.{Distinct}
use Rattle.structure.specs.Faults.{told_records}
use Rattle.structure.specs.Sound.{Sound}
use Rattle.visits.specs.Visits.{stations, phases}
use Rattle.semantics.specs.Books.{place_in}
use Rattle.tree_records.specs.TreeRecords.{stations_in, phases_in, of_phase, of_station, paths_in, TreeOf}
use Rattle.tree_records.proofs.TreeRecords.{trees_have_different_records}
use Rattle.places.specs.declared.table.StationRow.{StationRow}
use Rattle.places.specs.Tables.{places_along, no_row, row_in, station_in, phase_in, place_of, counts_in}
use Rattle.places.specs.Standing.{station_of, phases_of, PlacesStand}
use Rattle.places.proofs.Reading.{listed_at, all_listed_at, all_starts_at, numbers_are, starts_are, counts_are, length_rows, all_placed_at, start_of, place_all, all_left, all_right}

-- a sound book is no longer than any book
pub few_whole : (b : List ℕ) (kind : BookKind) → Sound b kind → (whole_records b ≡ told_records b) × (told_records b ≤ 2000)
few_whole b kind sound = (omega (arith, sound.whole), few kind sound.few_records)
  where
    few : (kind : BookKind) → told_records b ≤ most_records kind → told_records b ≤ 2000
    few Model h = omega arith
    few Automaton h = h

-- the phases are among the records of the tree
module _ (b : List ℕ) (kind : BookKind) where
  phases_fewer : (ps : List ℕ) → length ps ≤ length (flat_map (of_phase kind b) ps)
  phases_fewer [] = omega arith
  phases_fewer (p ∷ ps) =
      let rec = phases_fewer ps in
      let parts = length-append (of_phase kind b p) (flat_map (of_phase kind b) ps) in
      omega arith

  stations_fewer : (ss : List ℕ) → length (flat_map (phases_in b) ss) ≤ length (flat_map (of_station kind b) ss)
  stations_fewer [] = omega arith
  stations_fewer (s ∷ ss) =
      let rec = stations_fewer ss in
      let here = phases_fewer (phases_in b s) in
      let left = length-append (phases_in b s) (flat_map (phases_in b) ss) in
      let right = length-append (of_station kind b s) (flat_map (of_station kind b) ss) in
      omega arith

  all_phases : (P : ℕ → Type 0) (ps : List ℕ) → AllByRecursion P (flat_map (of_phase kind b) ps) → AllByRecursion P ps
  all_phases P [] a = tt
  all_phases P (p ∷ ps) a = (a.0, all_phases P ps (all_right P (of_phase kind b p) (flat_map (of_phase kind b) ps) a))

  all_of_station : (P : ℕ → Type 0) (ss : List ℕ) (i : ℕ) → i < length ss → AllByRecursion P (flat_map (of_station kind b) ss) → AllByRecursion P (phases_in b (get_or ss i 0))
  all_of_station P [] i h a = absurd (omega arith)
  all_of_station P (s ∷ ss) zero h a =
      all_phases P (phases_in b s) (all_left P (of_station kind b s) (flat_map (of_station kind b) ss) a).1
  all_of_station P (s ∷ ss) (suc i) h a = all_of_station P ss i (omega arith) (all_right P (of_station kind b s) (flat_map (of_station kind b) ss) a)

-- the tables of these stations
module _ (b ss : List ℕ) (few : length ss ≤ 16) where
  abbrev rows : List StationRow
  rows = (places_along b ss).rows

  -- what a column has at place i
  column : (what : StationRow → ℕ) (i : ℕ) → i < length ss → what (row_in (places_along b ss) i) ≡ get_or (map what rows) i 0
  column what i h =
      let long : length rows ≡ 16 = length_rows b (replicate 16 no_row) 0 0 ss in
      sym (get_or-map what rows i no_row 0 (omega arith))

  station_along : (i : ℕ) → i < length ss → station_in (places_along b ss) i ≡ get_or ss i 0
  station_along i h =
      column (λ r. r.number) i h ∙ ap (λ c. get_or c i 0) (numbers_are b (replicate 16 no_row) 0 0 ss)
      ∙ listed_at (replicate 16 0) 0 ss i i (omega arith) h (omega arith)

  count_along : (i : ℕ) → i < length ss → (row_in (places_along b ss) i).count ≡ length (phases b (get_or ss i 0))
  count_along i h =
      let long : length (counts_in b ss) ≡ length ss = length-map ss (λ s. length (phases b s)) in
      column (λ r. r.count) i h ∙ ap (λ c. get_or c i 0) (counts_are b (replicate 16 no_row) 0 0 ss)
      ∙ listed_at (replicate 16 0) 0 (counts_in b ss) i i (omega arith) (omega arith) (omega arith) ∙ get_or-map (λ s. length (phases b s)) ss i 0 0 h

  phase_along : length (flat_map (phases b) ss) ≤ 2000 → (i j : ℕ) → i < length ss
      → phase_in (places_along b ss) i j ≡ then_some (ltb j (length (phases b (get_or ss i 0)))) (get_or (phases b (get_or ss i 0)) j 0)
  phase_along room i j h =
      let slot = (row_in (places_along b ss) i).start + j in
      ap (λ n. then_some (ltb j n) (get_or (places_along b ss).records slot 0)) (count_along i h) ∙ go (ltb j (length (phases b (get_or ss i 0)))) refl
    where
      start : (row_in (places_along b ss) i).start ≡ 0 + start_of b ss i
      start =
          column (λ r. r.start) i h ∙ ap (λ c. get_or c i 0) (starts_are b (replicate 16 no_row) 0 0 ss)
          ∙ all_starts_at b (replicate 16 0) 0 0 ss i i (omega arith) h (omega arith)

      go : (t : Bool) → ltb j (length (phases b (get_or ss i 0))) ≡ t
          → then_some t (get_or (places_along b ss).records ((row_in (places_along b ss) i).start + j) 0) ≡ then_some t (get_or (phases b (get_or ss i 0)) j 0)
      go false e = refl
      go true e =
          ap Some (all_listed_at b (replicate 2000 0) 0 ss i j ((row_in (places_along b ss) i).start + j) (ap (λ n. n + j) start) h (ltb-true j _ e) (omega arith))

pub places_stand : PlacesStand
places_stand b kind sound few = record {
  stations_are = ap length all;
  station_is = λ i h. ap (λ ss. station_in (places_along b ss) i) all ∙ station_along b (stations_in b) few i h;
  phase_is = λ i j h.
      ap (λ ss. phase_in (places_along b ss) i j) all ∙ phase_along b (stations_in b) few room i j h
      ∙ ap (λ f. then_some (ltb j (length (f (station_of b i)))) (get_or (f (station_of b i)) j 0)) same_phases;
  place_is = λ i k h l.
      let low : k < 2001 = let w = place_all (λ x. (1 ≤ x) × (x ≤ told_records b)) (phases_of b i) k l (within i h) in omega (arith, w.1, told) in
      let l' = subst (λ f. place_in (f (station_of b i)) k < length (f (station_of b i))) (sym same_phases) l in
      ap (λ ss. place_of (places_along b ss) k) all ∙ all_placed_at b (replicate 2001 0) (stations_in b) i k h apart l' low
      ∙ ap (λ f. place_in (f (station_of b i)) k) same_phases;
}
  where
    tree : TreeOf b kind
    tree = trees_have_different_records b kind sound

    told : told_records b ≤ 2000
    told = (few_whole b kind sound).1

    short : ltb 2000 (whole_records b) ≡ false
    short = le-ltb 2000 (whole_records b) (omega (arith, (few_whole b kind sound).0, (few_whole b kind sound).1))

    same_phases : phases b ≡ phases_in b
    same_phases = ap (λ t s. cond t [] (phases_in b s)) short

    all : take 16 (stations b) ≡ stations_in b
    all = ap (λ t. take 16 (cond t [] (stations_in b))) short ∙ take_all 16 (stations_in b) few

    apart : Distinct (flat_map (phases b) (stations_in b))
    apart = subst (λ f. Distinct (flat_map f (stations_in b))) (sym same_phases) tree.phases_apart

    room : length (flat_map (phases b) (stations_in b)) ≤ 2000
    room =
        let x = stations_fewer b kind (stations_in b) in
        let y = length-append (flat_map (of_station kind b) (stations_in b)) (paths_in b) in
        let z = tree.few in
        let w = told in
        let m : length (flat_map (phases b) (stations_in b)) ≡ length (flat_map (phases_in b) (stations_in b)) = ap (λ f. length (flat_map f (stations_in b))) same_phases in
        omega arith

    within : (i : ℕ) → i < length (stations_in b) → AllByRecursion (λ x. (1 ≤ x) × (x ≤ told_records b)) (phases_of b i)
    within i h =
        all_of_station b kind (λ x. (1 ≤ x) × (x ≤ told_records b)) (stations_in b) i h
        (all_left (λ x. (1 ≤ x) × (x ≤ told_records b)) (flat_map (of_station kind b) (stations_in b)) (paths_in b) tree.within)
