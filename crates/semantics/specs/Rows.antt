-- A printed net as the records of a book: for each station its automaton, then for each phase its location and the
-- committed ones, the hearing transitions and the move of the first, and the committed ones' moves; paths last. Chains
-- keep this order.
use Rattle.std.specs.Prelude.{ℕ, suc, ◌+◌, List, [], ◌∷◌, ◌++◌, length, sum_by, slice_index}
use Rattle.book.specs.declared.term.BookKind.TheVariants as kinds
use Rattle.book.specs.declared.record.Head.{Head}
use Rattle.book.specs.declared.record.Record.{Record}
use Rattle.book.specs.declared.record.AutomatonBody.{AutomatonBody}
use Rattle.book.specs.declared.record.AutomatonBody.TheVariants as bodies
use Rattle.records.specs.Automaton.{encoded_automaton}
use Rattle.records.specs.Books.{book_bytes}
use Rattle.semantics.specs.Times.{Order}
use Rattle.semantics.specs.Trees.{Path, Station, ModelNet, Transition, Location}
use Rattle.semantics.specs.Scales.{station_scale}
use Rattle.semantics.specs.Print.{place_of, station_locations}

abbrev pub Rec : Type 0
Rec = Record AutomatonBody

-- the record k if anything stands there, else `after`
abbrev pub leading : {A : Type 0} → ℕ → ℕ → List A → ℕ
leading k after [] = after
leading k after (x ∷ xs) = k

-- a chain of records that stand one after another from the number k on
abbrev pub chained : {A : Type 0} → (ℕ → A → Rec) → ℕ → List A → List Rec
chained write k [] = []
chained write k (x ∷ xs) = write (leading (suc k) 0 xs) x ∷ chained write (suc k) xs

-- a transition; `numbers` are the record numbers of the automaton's locations
abbrev pub transition_record : List ℕ → ℕ → Transition → Rec
transition_record numbers next t =
    record { next = next; body = bodies.Transition (record { goal = slice_index numbers t.goal; label = t.label; resets = t.resets; guard = t.guard }) }

abbrev pub location_record : ℕ → ℕ → Location → Rec
location_record next first l =
    record { next = next; body = bodies.Location (record { first_transition = first; phase = l.phase; sent = l.sent; committed = l.committed; bound = l.bound }) }

-- The locations of one phase from the number k on, their transitions from t on; `after` is the next phase's first location.
abbrev pub location_records : ℕ → ℕ → ℕ → List Location → List Rec
location_records k t after [] = []
location_records k t after (l ∷ ls) =
    location_record (leading (suc k) after ls) (leading t 0 l.transitions) l
    ∷ location_records (suc k) (t + length l.transitions) after ls

abbrev pub transition_records : List ℕ → ℕ → List Location → List Rec
transition_records numbers t [] = []
transition_records numbers t (l ∷ ls) =
    chained (transition_record numbers) t l.transitions ++ transition_records numbers (t + length l.transitions) ls

-- how many records a phase's locations take with their transitions
abbrev pub size_of : List Location → ℕ
size_of ls = sum_by (λ l. suc (length l.transitions)) ls

-- the numbers of as many records as the list has, the first of them k
abbrev pub count_from : {A : Type 0} → ℕ → List A → List ℕ
count_from k [] = []
count_from k (x ∷ xs) = k ∷ count_from (suc k) xs

-- the record numbers of all locations of an automaton, phase by phase from the number k on
abbrev pub location_numbers : ℕ → List (List Location) → List ℕ
location_numbers k [] = []
location_numbers k (ls ∷ rest) = count_from k ls ++ location_numbers (k + size_of ls) rest

-- phase by phase from the number k on
abbrev pub phase_records : List ℕ → ℕ → List (List Location) → List Rec
phase_records numbers k [] = []
phase_records numbers k (ls ∷ rest) =
    location_records k (k + length ls) (leading (k + size_of ls) 0 rest) ls
    ++ (transition_records numbers (k + length ls) ls ++ phase_records numbers (k + size_of ls) rest)

abbrev pub automaton_record : ℕ → ℕ → ℕ → ℕ → Rec
automaton_record next first opening scale =
    record { next = next; body = bodies.Automaton (record { first_location = first; opening = opening; scale = scale }) }

-- the stations from the number k on
abbrev pub station_records : Order → ℕ → List Station → List Rec
station_records o k [] = []
station_records o k (st ∷ sts) =
    let locations = station_locations o st in
    let numbers = location_numbers (suc k) locations in
    let after = suc k + sum_by size_of locations in
    automaton_record (leading after 0 sts) (slice_index numbers 0) (slice_index numbers (place_of st.phases st.opening)) (station_scale st)
    ∷ (phase_records numbers (suc k) locations ++ station_records o after sts)

abbrev pub path_record : ℕ → Path → Rec
path_record next p = record { next = next; body = bodies.Path p }

-- all records, and the head
abbrev pub printed_records : ModelNet → List Rec
printed_records m =
    let stations = station_records m.order 1 m.stations in
    stations ++ chained path_record (suc (length stations)) m.paths

abbrev pub printed_head : ModelNet → Head
printed_head m =
    let stations = station_records m.order 1 m.stations in
    record { order = m.order; first_station = leading 1 0 m.stations; first_path = leading (suc (length stations)) 0 m.paths }

-- the bytes of the book printed from a model net
abbrev pub printed_book : ModelNet → List ℕ
printed_book m = book_bytes kinds.Automaton encoded_automaton (printed_head m) (printed_records m)
