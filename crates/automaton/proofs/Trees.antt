-- What the tree of an accepted automaton book has at an automaton and at a location, by the book's records.
use Rattle.std.proofs.Common.{◌≡◌, ℕ, ◌<◌, true, List, map, length, get_or, sym, ap, ◌∙◌, subst, arith}
use Rattle.std.specs.List.{ContainsAt as Has}
use Rattle.std.proofs.ByRecursion.{All-get_or}
use Rattle.std.proofs.lemmas.List.{get_or-map, length-map}
use Rattle.book.specs.Chains.{chain_of}
use Rattle.book.specs.declared.term.BookKind.TheVariants.{Automaton}
use Rattle.records.specs.Fits.{Bytes}
use Rattle.fields.specs.Fields.{automaton_at, location_at, transition_at}
use Rattle.semantics.specs.Trees.{Location, blank_location, blank_automaton}
use Rattle.semantics.specs.Books.{place_in, read_transition, read_location, read_automaton, read_automata}
use Rattle.semantics.specs.LawfulAutomata.{LawfulAutomata, LawfulAutomaton, LawfulLocation, LawfulTransition}
use Rattle.semantics.specs.Machine.{meaning_at, blank_meaning}
use Rattle.semantics.specs.Meanings.{automaton_meaning, automata_meaning}
use Rattle.tree_records.specs.TreeRecords.{stations_in}
use Rattle.lawful_automata.proofs.Reading.{locations_are}
use Rattle.kept_rules.proofs.Everywhere.{mapped_has}
use Rattle.accepted.specs.Accepted.{accepts}
use Rattle.accepted.proofs.Accepted.{automata_structure, automata_lawful_tree}
use Rattle.places.specs.declared.table.Places.{Places}
use Rattle.places.specs.Tables.{places_of, place_of}
use Rattle.places.specs.Standing.{station_of, phases_of, PhaseOf, Stands}
use Rattle.places.proofs.Standing.{places_stand}
use Rattle.automaton.specs.Records.{automaton_tree, location_tree}

module _ (b : List ℕ) (i : ℕ) where
  first_is : chain_of b (automaton_at b (station_of b i)).first_location ≡ phases_of b i
  first_is = sym (locations_are b (station_of b i))

  locations_read : (automaton_tree b i).locations ≡ map (location_tree b i) (phases_of b i)
  locations_read = ap (λ ls. map (read_location b ls) ls) first_is

  opening_read : (automaton_tree b i).opening ≡ place_in (phases_of b i) (automaton_at b (station_of b i)).opening
  opening_read = ap (λ ls. place_in ls (automaton_at b (station_of b i)).opening) first_is

  pub location_count : length (automaton_tree b i).locations ≡ length (phases_of b i)
  location_count = ap length locations_read ∙ length-map (phases_of b i) (location_tree b i)

  pub location_read : (j : ℕ) (l : Location) → j < length (phases_of b i) → get_or (automaton_tree b i).locations j l ≡ location_tree b i (get_or (phases_of b i) j 0)
  location_read j l h = ap (λ ls. get_or ls j l) locations_read ∙ get_or-map (location_tree b i) (phases_of b i) j 0 l h

-- the meaning
pub meaning_count : (b : List ℕ) → length (automata_meaning (read_automata b)) ≡ length (stations_in b)
meaning_count b = length-map (map (read_automaton b) (stations_in b)) automaton_meaning ∙ length-map (stations_in b) (read_automaton b)

pub meaning_read : (b : List ℕ) (i : ℕ) → i < length (stations_in b) → meaning_at (automata_meaning (read_automata b)) i ≡ automaton_meaning (automaton_tree b i)
meaning_read b i h =
    let long = length-map (stations_in b) (read_automaton b) in
    get_or-map automaton_meaning (map (read_automaton b) (stations_in b)) i blank_automaton blank_meaning (omega arith)
    ∙ ap automaton_meaning (get_or-map (read_automaton b) (stations_in b) i 0 blank_automaton h)

module _ (b : List ℕ) (bytes : Bytes b) (accepted : accepts b Automaton ≡ true) where
  lawful : LawfulAutomata (read_automata b)
  lawful = automata_lawful_tree b bytes accepted

  pub stands : Stands b
  stands =
      let h = lawful.few_automata in
      let n = length-map (stations_in b) (read_automaton b) in
      places_stand b Automaton (automata_structure b bytes accepted) (omega arith)

  module _ (i : ℕ) (h : i < length (stations_in b)) where
    lawful_automaton : LawfulAutomaton (automaton_tree b i)
    lawful_automaton =
        let n = length-map (stations_in b) (read_automaton b) in
        subst LawfulAutomaton (get_or-map (read_automaton b) (stations_in b) i 0 blank_automaton h)
        (All-get_or LawfulAutomaton (map (read_automaton b) (stations_in b)) i blank_automaton (omega arith) lawful.automata_fit)

    -- the table has the place of each location of the automaton
    placed : (t : Places) (k : ℕ) → t ≡ places_of b → place_in (phases_of b i) k < length (phases_of b i) → place_of t k ≡ place_in (phases_of b i) k
    placed t k e l = ap (λ x. place_of x k) e ∙ stands.place_is i k h l

    pub opening_placed : (t : Places) → t ≡ places_of b → place_of t (automaton_at b (station_of b i)).opening ≡ (automaton_tree b i).opening
    opening_placed t e =
        let here = lawful_automaton.opening_here in
        let o = opening_read b i in
        let n = location_count b i in
        placed t (automaton_at b (station_of b i)).opening e (omega arith) ∙ sym o

  -- so has it those of the goals of a location's transitions
  pub goal_placed : (i k : ℕ) → PhaseOf b i k → (t : Places) → t ≡ places_of b → (x : ℕ) → Has (chain_of b (location_at b k).first_transition) x
      → place_of t (transition_at b x).goal ≡ place_in (phases_of b i) (transition_at b x).goal
  goal_placed i k p t e x hx =
      let a = automaton_tree b i in
      let n = location_count b i in
      let l = p.phase_there in
      let own : LawfulLocation a (location_tree b i k) =
      subst (LawfulLocation a) (location_read b i p.place blank_location l ∙ ap (location_tree b i) (sym p.is))
      (All-get_or (LawfulLocation a) a.locations p.place blank_location (omega arith) (lawful_automaton i p.station_there).locations_fit) in
      let here : place_in (phases_of b i) (transition_at b x).goal < length a.locations =
      (mapped_has (LawfulTransition (length a.locations) a.scale (location_tree b i k).bound) (read_transition b (phases_of b i))
      (chain_of b (location_at b k).first_transition) own.transitions_fit x hx).goal_here in
      placed i p.station_there t (transition_at b x).goal e (omega arith)
