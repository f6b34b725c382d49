-- The fields of a record, by the bytes from 4 on. A field is named by its place in the whole record.
use Rattle.std.specs.Prelude.{ℕ, ◌+◌, ◌-◌, ◌/◌, ◌%◌, Bool, true, false, cond, not, ◌&&◌, ◌||◌, List, ◌∷◌, ◌++◌, length, drop, replicate, Some, None, Option, ◌==◌, nat_le}
use Rattle.book.specs.Bytes.{at, two, four, eight, two_bytes, four_bytes, zeros}
use Rattle.book.specs.Terms.{kind_byte}
use Rattle.book.specs.declared.term.Kind.{Kind}
use Rattle.book.specs.declared.term.Path.{Path}
use Rattle.book.specs.declared.record.Fraction.{Fraction}
use Rattle.book.specs.declared.record.HighEnd.{HighEnd}
use Rattle.book.specs.declared.record.HighEnd.TheVariants.{Closed, Open, Absent}
use Rattle.book.specs.declared.record.Window.{Window}
use Rattle.book.specs.declared.record.Record.{Record}

-- byte i of a record, and the numbers from byte i on
abbrev pub byte_in : List ℕ → ℕ → ℕ
byte_in rest i = at rest (i - 4)

abbrev pub two_in : List ℕ → ℕ → ℕ
two_in rest i = two rest (i - 4)

abbrev pub four_in : List ℕ → ℕ → ℕ
four_in rest i = four rest (i - 4)

abbrev pub eight_in : List ℕ → ℕ → ℕ
eight_in rest i = eight rest (i - 4)

-- a numerator and a denominator of four bytes each
abbrev pub fraction_in : List ℕ → ℕ → Fraction
fraction_in rest i = record { numerator = four_in rest i; denominator = four_in rest (i + 4) }

abbrev pub fraction_bytes : Fraction → List ℕ
fraction_bytes f = four_bytes f.numerator ++ four_bytes f.denominator

-- bytes i up to, and without, j of a record have no meaning and are zero
abbrev pub zeros_in : List ℕ → ℕ → ℕ → Bool
zeros_in rest i j = zeros rest (i - 4) (j - 4)

-- the bit of that weight is set in the marks
abbrev pub marked : ℕ → ℕ → Bool
marked marks bit = marks / bit % 2 == 1

-- a window's ends. Mark 1: the low end is open; 2: the high end is open; 4: there is no high end
abbrev pub high_end : {T : Type 0} → ℕ → T → HighEnd T
high_end marks x = cond (marked marks 4) Absent (cond (marked marks 2) (Open x) (Closed x))

abbrev pub window : {T : Type 0} → ℕ → T → T → Window T
window marks low high = record { low = low; low_open = marked marks 1; high = high_end marks high }

-- no other mark; with mark 4 no mark 2, and the high end's bytes are zero
abbrev pub window_laid : ℕ → Bool → Bool
window_laid marks high_zero = nat_le marks 7 && (not (marked marks 4) || (not (marked marks 2) && high_zero))

-- the weight of a bit that is set, else 0
abbrev pub bit : Bool → ℕ → ℕ
bit set weight = cond set weight 0

abbrev pub high_marks : {T : Type 0} → HighEnd T → ℕ
high_marks (Closed x) = 0
high_marks (Open x) = 2
high_marks Absent = 4

abbrev pub window_marks : {T : Type 0} → Window T → ℕ
window_marks w = bit w.low_open 1 + high_marks w.high

-- what is written of the high end; of none, what stands for zeros
abbrev pub high_or : {T : Type 0} → T → HighEnd T → T
high_or none (Closed x) = x
high_or none (Open x) = x
high_or none Absent = none

-- a path: 4 sending station, 5 its port, 6 hearing station, 7 its port
abbrev pub path_in : List ℕ → Path
path_in rest = record { sender = byte_in rest 4; sender_port = byte_in rest 5; hearer = byte_in rest 6; hearer_port = byte_in rest 7 }

abbrev pub path_laid : ℕ → List ℕ → Bool
path_laid marks rest = marks == 0 && zeros_in rest 8 32

abbrev pub path_rest : Path → List ℕ
path_rest p = p.sender ∷ p.sender_port ∷ p.hearer ∷ p.hearer_port ∷ replicate 24 0

-- something, if the layout holds
abbrev pub given : {T : Type 0} → Bool → T → Option T
given true x = Some x
given false x = None

abbrev pub with_next : {B : Type 0} → ℕ → Option B → Option (Record B)
with_next next None = None
with_next next (Some body) = Some (record { next = next; body = body })

-- a row of 32 bytes as a record: kind in byte 0, marks in 1, next index in 2 and 3. Nothing where the layout does not hold
abbrev pub decoded_by : {B : Type 0} → (ℕ → ℕ → List ℕ → Option B) → List ℕ → Option (Record B)
decoded_by body r =
    let read = with_next (two r 2) (body (at r 0) (at r 1) (drop 4 r)) in
    cond (length r == 32) read None

-- a record's 32 bytes
abbrev pub row_bytes : Kind → ℕ → ℕ → List ℕ → List ℕ
row_bytes kind marks next rest = kind_byte kind ∷ marks ∷ (two_bytes next ++ rest)
