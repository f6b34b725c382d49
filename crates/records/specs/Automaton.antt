-- The records of an automaton book, and the 32 bytes of each.
use Rattle.std.specs.Prelude.{ℕ, ◌+◌, Bool, true, false, cond, ◌&&◌, ◌||◌, List, ◌∷◌, ◌++◌, replicate, Some, None, Option, ◌==◌, nat_eq, nat_le}
use Rattle.book.specs.Bytes.{two_bytes, four_bytes, eight_bytes}
use Rattle.book.specs.Terms.{kind_byte}
use Rattle.book.specs.declared.term.Kind.{Kind}
use Rattle.book.specs.declared.term.Kind.TheVariants as kinds
use Rattle.book.specs.declared.record.Automaton.{Automaton}
use Rattle.book.specs.declared.record.Location.{Location}
use Rattle.book.specs.declared.record.Label.{Label}
use Rattle.book.specs.declared.record.Label.TheVariants.{Silent, Hears, Sends}
use Rattle.book.specs.declared.record.Transition.{Transition}
use Rattle.book.specs.declared.record.Record.{Record}
use Rattle.book.specs.declared.record.AutomatonBody.{AutomatonBody}
use Rattle.book.specs.declared.record.AutomatonBody.TheVariants as bodies
use Rattle.records.specs.Fields.{byte_in, two_in, four_in, eight_in, zeros_in, marked, bit, window, window_laid, window_marks, high_or, path_in, path_laid, path_rest, given, decoded_by, row_bytes}

-- an automaton: 4–5 first location, 6–7 opening location, 8–11 scale
abbrev pub automaton_in : List ℕ → Automaton
automaton_in rest = record { first_location = two_in rest 4; opening = two_in rest 6; scale = four_in rest 8 }

abbrev pub automaton_laid : ℕ → List ℕ → Bool
automaton_laid marks rest = marks == 0 && zeros_in rest 12 32

-- a location: 4–5 first transition, 6–7 phase number, 8 words sent, 12–19 bound. Mark 1: committed; 2: it has a bound
abbrev pub bound_in : ℕ → List ℕ → Option ℕ
bound_in marks rest = cond (marked marks 2) (Some (eight_in rest 12)) None

abbrev pub location_in : ℕ → List ℕ → Location
location_in marks rest = record {
  first_transition = two_in rest 4;
  phase = two_in rest 6;
  sent = byte_in rest 8;
  committed = marked marks 1;
  bound = bound_in marks rest;
}

abbrev pub location_laid : ℕ → List ℕ → Bool
location_laid marks rest =
    nat_le marks 3 && ((marked marks 2 || zeros_in rest 12 20) && (zeros_in rest 9 12 && zeros_in rest 20 32))

-- the number of each label
abbrev pub label_byte : Label → ℕ
label_byte Silent = 0
label_byte (Hears p l h) = 1
label_byte (Sends p v) = 2

-- a transition: 4–5 goal, 6 label, 7 port, 8 and 9 lowest and highest value, 10 is 1 if the clock is reset, 12–19 and 20–27 ends of the guard
abbrev pub label_in : List ℕ → Label
label_in rest =
    let sends = Sends (byte_in rest 7) (byte_in rest 8) in
    let hears = Hears (byte_in rest 7) (byte_in rest 8) (byte_in rest 9) in
    let other = cond (byte_in rest 6 == label_byte (Hears 0 0 0)) hears sends in
    cond (byte_in rest 6 == label_byte Silent) Silent other

-- no other label; silent has zero in 7 to 9, and sends has its value in both 8 and 9
abbrev pub label_laid : List ℕ → Bool
label_laid rest =
    let sends = nat_eq (byte_in rest 8) (byte_in rest 9) in
    let two = cond (byte_in rest 6 == label_byte (Sends 0 0)) sends false in
    let one = cond (byte_in rest 6 == label_byte (Hears 0 0 0)) true two in
    let silent = zeros_in rest 7 10 in
    cond (byte_in rest 6 == label_byte Silent) silent one

abbrev pub transition_in : ℕ → List ℕ → Transition
transition_in marks rest = record {
  goal = two_in rest 4;
  label = label_in rest;
  resets = (byte_in rest 10 == 1);
  guard = window marks (eight_in rest 12) (eight_in rest 20);
}

abbrev pub transition_laid : ℕ → List ℕ → Bool
transition_laid marks rest =
    window_laid marks (zeros_in rest 20 28)
    && (label_laid rest && (nat_le (byte_in rest 10) 1 && (zeros_in rest 11 12 && zeros_in rest 28 32)))

-- the layout of each kind
abbrev pub automaton_rows_laid : ℕ → ℕ → List ℕ → Bool
automaton_rows_laid kind marks rest =
    let automaton = automaton_laid marks rest in
    let location = location_laid marks rest in
    let transition = transition_laid marks rest in
    let path = path_laid marks rest in
    let five = cond (kind == kind_byte kinds.Path) path false in
    let three = cond (kind == kind_byte kinds.Edge) transition five in
    let two = cond (kind == kind_byte kinds.Phase) location three in
    cond (kind == kind_byte kinds.Station) automaton two

-- what a record of each kind holds
abbrev pub automaton_fields : ℕ → ℕ → List ℕ → AutomatonBody
automaton_fields kind marks rest =
    let automaton = bodies.Automaton (automaton_in rest) in
    let location = bodies.Location (location_in marks rest) in
    let transition = bodies.Transition (transition_in marks rest) in
    let path = bodies.Path (path_in rest) in
    let three = cond (kind == kind_byte kinds.Edge) transition path in
    let two = cond (kind == kind_byte kinds.Phase) location three in
    cond (kind == kind_byte kinds.Station) automaton two

abbrev pub automaton_body : ℕ → ℕ → List ℕ → Option AutomatonBody
automaton_body kind marks rest = given (automaton_rows_laid kind marks rest) (automaton_fields kind marks rest)

-- an automaton record of 32 bytes, or nothing where the layout does not hold
abbrev pub decoded_automaton : List ℕ → Option (Record AutomatonBody)
decoded_automaton r = decoded_by automaton_body r

abbrev pub bound_marks : Option ℕ → ℕ
bound_marks None = 0
bound_marks (Some b) = 2

abbrev pub bound_ticks : Option ℕ → ℕ
bound_ticks None = 0
bound_ticks (Some b) = b

abbrev pub automaton_kind : AutomatonBody → Kind
automaton_kind (bodies.Automaton a) = kinds.Station
automaton_kind (bodies.Location l) = kinds.Phase
automaton_kind (bodies.Transition t) = kinds.Edge
automaton_kind (bodies.Path p) = kinds.Path

abbrev pub automaton_marks : AutomatonBody → ℕ
automaton_marks (bodies.Automaton a) = 0
automaton_marks (bodies.Location l) = bit l.committed 1 + bound_marks l.bound
automaton_marks (bodies.Transition t) = window_marks t.guard
automaton_marks (bodies.Path p) = 0

-- bytes 7 to 9 of a transition: port, lowest and highest value
abbrev pub label_port : Label → ℕ
label_port Silent = 0
label_port (Hears p l h) = p
label_port (Sends p v) = p

abbrev pub label_lowest : Label → ℕ
label_lowest Silent = 0
label_lowest (Hears p l h) = l
label_lowest (Sends p v) = v

abbrev pub label_highest : Label → ℕ
label_highest Silent = 0
label_highest (Hears p l h) = h
label_highest (Sends p v) = v

-- the bytes from 4 on
abbrev pub automaton_rest : AutomatonBody → List ℕ
automaton_rest (bodies.Automaton a) =
    two_bytes a.first_location ++ (two_bytes a.opening ++ (four_bytes a.scale ++ replicate 20 0))
automaton_rest (bodies.Location l) =
    two_bytes l.first_transition ++ (two_bytes l.phase ++ (l.sent ∷ (replicate 3 0
    ++ (eight_bytes (bound_ticks l.bound) ++ replicate 12 0))))
automaton_rest (bodies.Transition t) =
    two_bytes t.goal ++ (label_byte t.label ∷ label_port t.label ∷ label_lowest t.label ∷ label_highest t.label ∷ (bit t.resets 1 ∷ 0 ∷ (eight_bytes t.guard.low
    ++ (eight_bytes (high_or 0 t.guard.high) ++ replicate 4 0))))
automaton_rest (bodies.Path p) = path_rest p

-- the 32 bytes of an automaton record
abbrev pub encoded_automaton : Record AutomatonBody → List ℕ
encoded_automaton x = row_bytes (automaton_kind x.body) (automaton_marks x.body) x.next (automaton_rest x.body)
