-- The records of a model book, and the 32 bytes of each.
use Rattle.std.specs.Prelude.{ℕ, Bool, false, cond, ◌&&◌, List, ◌∷◌, ◌++◌, replicate, Option, ◌==◌}
use Rattle.book.specs.Bytes.{two_bytes}
use Rattle.book.specs.Terms.{kind_byte}
use Rattle.book.specs.declared.term.Kind.{Kind}
use Rattle.book.specs.declared.term.Kind.TheVariants as kinds
use Rattle.book.specs.declared.record.Fraction.{Fraction}
use Rattle.book.specs.declared.record.Station.{Station}
use Rattle.book.specs.declared.record.Phase.{Phase}
use Rattle.book.specs.declared.record.Edge.{Edge}
use Rattle.book.specs.declared.record.Word.{Word}
use Rattle.book.specs.declared.record.Record.{Record}
use Rattle.book.specs.declared.record.ModelBody.{ModelBody}
use Rattle.book.specs.declared.record.ModelBody.TheVariants as bodies
use Rattle.records.specs.Fields.{byte_in, two_in, fraction_in, fraction_bytes, zeros_in, window, window_laid, window_marks, high_or, path_in, path_laid, path_rest, given, decoded_by, row_bytes}

-- a station: 4–5 first phase, 6–7 opening phase
abbrev pub station_in : List ℕ → Station
station_in rest = record { first_phase = two_in rest 4; opening = two_in rest 6 }

abbrev pub station_laid : ℕ → List ℕ → Bool
station_laid marks rest = marks == 0 && zeros_in rest 8 32

-- a phase: 4–5 first edge, 6–7 next phase, 8–9 first word, 12–19 lifetime
abbrev pub phase_in : List ℕ → Phase
phase_in rest = record {
  first_edge = two_in rest 4;
  next_phase = two_in rest 6;
  first_word = two_in rest 8;
  lifetime = fraction_in rest 12;
}

abbrev pub phase_laid : ℕ → List ℕ → Bool
phase_laid marks rest = marks == 0 && (zeros_in rest 10 12 && zeros_in rest 20 32)

-- an edge: 4–5 goal, 6 port, 7 lowest and 8 highest value, 12–19 low end and 20–27 high end
abbrev pub edge_in : ℕ → List ℕ → Edge
edge_in marks rest = record {
  goal = two_in rest 4;
  port = byte_in rest 6;
  lowest = byte_in rest 7;
  highest = byte_in rest 8;
  window = window marks (fraction_in rest 12) (fraction_in rest 20);
}

abbrev pub edge_laid : ℕ → List ℕ → Bool
edge_laid marks rest = window_laid marks (zeros_in rest 20 28) && (zeros_in rest 9 12 && zeros_in rest 28 32)

-- a word: 4 port, 5 value
abbrev pub word_in : List ℕ → Word
word_in rest = record { port = byte_in rest 4; value = byte_in rest 5 }

abbrev pub word_laid : ℕ → List ℕ → Bool
word_laid marks rest = marks == 0 && zeros_in rest 6 32

-- the layout of each kind
abbrev pub model_laid : ℕ → ℕ → List ℕ → Bool
model_laid kind marks rest =
    let station = station_laid marks rest in
    let phase = phase_laid marks rest in
    let edge = edge_laid marks rest in
    let word = word_laid marks rest in
    let path = path_laid marks rest in
    let five = cond (kind == kind_byte kinds.Path) path false in
    let four = cond (kind == kind_byte kinds.Word) word five in
    let three = cond (kind == kind_byte kinds.Edge) edge four in
    let two = cond (kind == kind_byte kinds.Phase) phase three in
    cond (kind == kind_byte kinds.Station) station two

-- what a record of each kind holds
abbrev pub model_fields : ℕ → ℕ → List ℕ → ModelBody
model_fields kind marks rest =
    let station = bodies.Station (station_in rest) in
    let phase = bodies.Phase (phase_in rest) in
    let edge = bodies.Edge (edge_in marks rest) in
    let word = bodies.Word (word_in rest) in
    let path = bodies.Path (path_in rest) in
    let four = cond (kind == kind_byte kinds.Word) word path in
    let three = cond (kind == kind_byte kinds.Edge) edge four in
    let two = cond (kind == kind_byte kinds.Phase) phase three in
    cond (kind == kind_byte kinds.Station) station two

abbrev pub model_body : ℕ → ℕ → List ℕ → Option ModelBody
model_body kind marks rest = given (model_laid kind marks rest) (model_fields kind marks rest)

-- a model record of 32 bytes, or nothing where the layout does not hold
abbrev pub decoded_model : List ℕ → Option (Record ModelBody)
decoded_model r = decoded_by model_body r

abbrev pub model_kind : ModelBody → Kind
model_kind (bodies.Station s) = kinds.Station
model_kind (bodies.Phase p) = kinds.Phase
model_kind (bodies.Edge e) = kinds.Edge
model_kind (bodies.Word w) = kinds.Word
model_kind (bodies.Path p) = kinds.Path

abbrev pub model_marks : ModelBody → ℕ
model_marks (bodies.Station s) = 0
model_marks (bodies.Phase p) = 0
model_marks (bodies.Edge e) = window_marks e.window
model_marks (bodies.Word w) = 0
model_marks (bodies.Path p) = 0

abbrev pub no_fraction : Fraction
no_fraction = record { numerator = 0; denominator = 0 }

-- the bytes from 4 on
abbrev pub model_rest : ModelBody → List ℕ
model_rest (bodies.Station s) = two_bytes s.first_phase ++ (two_bytes s.opening ++ replicate 24 0)
model_rest (bodies.Phase p) =
    two_bytes p.first_edge ++ (two_bytes p.next_phase ++ (two_bytes p.first_word ++ (replicate 2 0
    ++ (fraction_bytes p.lifetime ++ replicate 12 0))))
model_rest (bodies.Edge e) =
    two_bytes e.goal ++ (e.port ∷ e.lowest ∷ e.highest ∷ (replicate 3 0
    ++ (fraction_bytes e.window.low ++ (fraction_bytes (high_or no_fraction e.window.high) ++ replicate 4 0))))
model_rest (bodies.Word w) = w.port ∷ w.value ∷ replicate 26 0
model_rest (bodies.Path p) = path_rest p

-- the 32 bytes of a model record
abbrev pub encoded_model : Record ModelBody → List ℕ
encoded_model x = row_bytes (model_kind x.body) (model_marks x.body) x.next (model_rest x.body)
