-- What is known of an accepted model book, at a station and at a phase.
use Rattle.std.proofs.Common.{◌≡◌, ℕ, ◌<◌, ◌≤◌, true, false, ltb, List, map, length, sym, ap, ◌∙◌, subst, arith}
use Rattle.std.proofs.ByRecursion.{All-get_or}
use Rattle.std.proofs.lemmas.List.{length-map, get_or-map}
use Rattle.book.specs.Chains.{whole_records}
use Rattle.book.specs.declared.term.BookKind.TheVariants.{Model}
use Rattle.records.specs.Fits.{Bytes}
use Rattle.fields.specs.Fields.{station_at, phase_at, is_endless}
use Rattle.semantics.specs.Trees.{blank_phase, blank_station}
use Rattle.semantics.specs.Books.{place_in, read_order, read_station, read_model}
use Rattle.semantics.specs.LawfulModels.{LawfulModel, LawfulStation, LawfulPhase, NextHere}
use Rattle.tree_records.specs.TreeRecords.{stations_in}
use Rattle.tree_laws.proofs.Records.{short}
use Rattle.accepted.specs.Accepted.{accepts}
use Rattle.accepted.proofs.Accepted.{model_structure, model_lawful}
use Rattle.places.specs.declared.table.Places.{Places}
use Rattle.places.specs.Tables.{places_of, place_of}
use Rattle.places.specs.Standing.{station_of, phases_of, Stands, PhaseOf}
use Rattle.places.proofs.Standing.{places_stand}
use Rattle.model.specs.Records.{station_tree, phase_tree}
use Rattle.model.proofs.Trees.{opening_read, phase_count, phase_read, lasting_read}

module _ (b : List ℕ) (bytes : Bytes b) (accepted : accepts b Model ≡ true) where
  lawful : LawfulModel (read_model b)
  lawful = model_lawful b bytes accepted

  pub few_stations : length (stations_in b) ≤ 16
  few_stations = let h = lawful.few_stations in let n = length-map (stations_in b) (read_station b) in omega arith

  pub stands : Stands b
  stands = places_stand b Model (model_structure b bytes accepted) few_stations

  pub short_book : ltb 2000 (whole_records b) ≡ false
  short_book = short b Model (model_structure b bytes accepted)

  module _ (i : ℕ) (h : i < length (stations_in b)) where
    pub lawful_station : LawfulStation (read_order b) (station_tree b i)
    lawful_station =
        let n = length-map (stations_in b) (read_station b) in
        subst (LawfulStation (read_order b)) (get_or-map (read_station b) (stations_in b) i 0 blank_station h)
        (All-get_or (LawfulStation (read_order b)) (map (read_station b) (stations_in b)) i blank_station (omega arith) lawful.stations_fit)

    -- the table has the place of each phase of the station
    pub placed : (t : Places) (k : ℕ) → t ≡ places_of b → place_in (phases_of b i) k < length (phases_of b i) → place_of t k ≡ place_in (phases_of b i) k
    placed t k e l = ap (λ x. place_of x k) e ∙ stands.place_is i k h l

    pub opening_placed : (t : Places) → t ≡ places_of b → place_of t (station_at b (station_of b i)).opening ≡ (station_tree b i).opening
    opening_placed t e =
        let here = lawful_station.opening_here in
        let o = opening_read b i in
        let n = phase_count b i in
        placed t (station_at b (station_of b i)).opening e (omega arith) ∙ sym o

  module _ (i k : ℕ) (p : PhaseOf b i k) where
    pub lawful_phase : LawfulPhase (read_order b) (length (phases_of b i)) (phase_tree b i k)
    lawful_phase =
        let st = lawful_station i p.station_there in
        let n = phase_count b i in
        let j = p.place in
        subst (λ m. LawfulPhase (read_order b) m (phase_tree b i k)) n
        (subst (LawfulPhase (read_order b) (length (station_tree b i).phases))
        (phase_read b i j blank_phase p.phase_there ∙ ap (phase_tree b i) (sym p.is))
        (All-get_or (LawfulPhase (read_order b) (length (station_tree b i).phases)) (station_tree b i).phases j blank_phase (let l = p.phase_there in omega arith) st.phases_fit))

    -- the next phase of one that lasts, and the goals of its edges
    pub next_placed : (t : Places) → t ≡ places_of b → is_endless (phase_at b k).lifetime ≡ false
        → place_of t (phase_at b k).next_phase ≡ place_in (phases_of b i) (phase_at b k).next_phase
    next_placed t e lasts =
        placed i p.station_there t (phase_at b k).next_phase e
        (subst (NextHere (length (phases_of b i))) (lasting_read b (phases_of b i) k lasts) lawful_phase.next_here)
