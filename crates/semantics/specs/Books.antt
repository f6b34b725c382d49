-- Books as trees: the bytes of a book, read along its chains. Of a book that the check accepts every chain ends, every
-- record is of the kind that it is read as, and every goal is in its chain.
use Rattle.std.specs.Prelude.{ℕ, suc, Bool, cond, ◌&&◌, List, [], ◌∷◌, map, drop, ◌==◌}
use Rattle.book.specs.Bytes.{at, two, row}
use Rattle.book.specs.Chains.{chain_of}
-- the head's order, the path in a record, and the paths in the order of their chain
pub use Rattle.records.specs.Heads.{order_in as read_order, path_at as read_path, paths_in as read_paths}
use Rattle.records.specs.Model.{station_in, phase_in, edge_in, word_in}
use Rattle.records.specs.Automaton.{automaton_in, location_in, transition_in}
use Rattle.semantics.specs.Times.{Fraction}
use Rattle.semantics.specs.Trees.{Word, Edge, Phase, endless, lasting, Station, ModelNet, Transition, Location, Automaton, AutomatonNet}

-- a record's marks, and its bytes from 4 on
abbrev pub marks_of : List ℕ → ℕ → ℕ
marks_of b k = at (row b k) 1

abbrev pub rest_of : List ℕ → ℕ → List ℕ
rest_of b k = drop 4 (row b k)

-- the place, from 0, of a record number in a chain
abbrev pub place_in : List ℕ → ℕ → ℕ
place_in [] k = 0
place_in (x ∷ xs) k = let later = suc (place_in xs k) in cond (x == k) 0 later

abbrev pub read_word : List ℕ → ℕ → Word
read_word b k = word_in (rest_of b k)

-- an edge of a station whose phases are the records `phases`
abbrev pub read_edge : List ℕ → List ℕ → ℕ → Edge
read_edge b phases k =
    let e = edge_in (marks_of b k) (rest_of b k) in
    record { goal = place_in phases e.goal; port = e.port; lowest = e.lowest; highest = e.highest; window = e.window }

-- 0/0 is endless
abbrev pub is_endless : Fraction → Bool
is_endless t = t.numerator == 0 && t.denominator == 0

abbrev pub read_phase : List ℕ → List ℕ → ℕ → Phase
read_phase b phases k =
    let f = phase_in (rest_of b k) in
    let edges = map (read_edge b phases) (chain_of b f.first_edge) in
    let words = map (read_word b) (chain_of b f.first_word) in
    let lasts = lasting f.lifetime words (place_in phases f.next_phase) edges in
    cond (is_endless f.lifetime) (endless edges) lasts

abbrev pub read_station : List ℕ → ℕ → Station
read_station b k =
    let st = station_in (rest_of b k) in
    let phases = chain_of b st.first_phase in
    record { opening = place_in phases st.opening; phases = map (read_phase b phases) phases }

-- the tree of a model book
abbrev pub read_model : List ℕ → ModelNet
read_model b = record { order = read_order b; stations = map (read_station b) (chain_of b (two b 6)); paths = read_paths b }

-- a transition of an automaton whose locations are the records `locations`
abbrev pub read_transition : List ℕ → List ℕ → ℕ → Transition
read_transition b locations k =
    let t = transition_in (marks_of b k) (rest_of b k) in
    record { goal = place_in locations t.goal; label = t.label; resets = t.resets; guard = t.guard }

abbrev pub read_location : List ℕ → List ℕ → ℕ → Location
read_location b locations k =
    let l = location_in (marks_of b k) (rest_of b k) in
    record {
      phase = l.phase;
      sent = l.sent;
      committed = l.committed;
      bound = l.bound;
      transitions = map (read_transition b locations) (chain_of b l.first_transition);
    }

abbrev pub read_automaton : List ℕ → ℕ → Automaton
read_automaton b k =
    let a = automaton_in (rest_of b k) in
    let locations = chain_of b a.first_location in
    record { scale = a.scale; opening = place_in locations a.opening; locations = map (read_location b locations) locations }

-- the tree of an automaton book
abbrev pub read_automata : List ℕ → AutomatonNet
read_automata b = record { order = read_order b; automata = map (read_automaton b) (chain_of b (two b 6)); paths = read_paths b }
