-- Events, refusals and tellings as lines of text. A line is a list of bytes.
use Rattle.std.specs.Prelude.{◌≡◌, ℕ, ◌^◌, ◌<◌, Bool, cond, List, [], ◌∷◌, ◌++◌, length, drop, Ok, Err, decimal, Option, Result, MatchOption, ◌≢◌, nat_le}
use Rattle.book.specs.Events.{event_letter}
use Rattle.book.specs.Refusals.{fault_number, refused}
use Rattle.book.specs.declared.event.Event.{Event}
use Rattle.book.specs.declared.refusal.Refusal.{Refusal}
use Rattle.book.specs.declared.refusal.Fault.TheVariants.{Room}
use Rattle.lines.specs.declared.line.Telling.{Telling}
use Rattle.lines.specs.declared.line.Line.{Line}
use Rattle.lines.specs.declared.line.Line.TheVariants as line

-- numbers in decimal, with a space before each, and a line feed at the end
abbrev pub ended : List ℕ → List ℕ
ended [] = 10 ∷ []
ended (n ∷ ns) = 32 ∷ (decimal n ++ ended ns)

-- a mark and numbers
abbrev pub marked : ℕ → List ℕ → List ℕ
marked mark ns = mark ∷ ended ns

-- the event's letter, station, port and value
abbrev pub event_line : Event → List ℕ
event_line e = marked (event_letter e.kind) (e.station ∷ e.port ∷ e.value ∷ [])

-- '-', the number of the fault, and the place
abbrev pub refusal_line : Refusal → List ℕ
refusal_line r = marked 45 (fault_number r.fault ∷ r.place ∷ [])

-- '=', the phase, how many words are sent, and how many parts have elapsed
abbrev pub telling_line : Telling → List ℕ
telling_line t = marked 61 (t.phase ∷ t.sent ∷ t.elapsed ∷ [])

abbrev pub line_bytes : Line → List ℕ
line_bytes (line.Event e) = event_line e
line_bytes (line.Refusal r) = refusal_line r
line_bytes (line.Telling t) = telling_line t

-- the numbers of a line are such as the code's types hold
abbrev pub Fits : Line → Type 0
Fits (line.Event e) = (e.station < 2 ^ 8) × (e.port < 2 ^ 8) × (e.value < 2 ^ 16)
Fits (line.Refusal r) = r.place < 2 ^ 64
Fits (line.Telling t) = (t.phase < 2 ^ 16) × (t.sent < 2 ^ 8) × (t.elapsed < 2 ^ 64)

-- the line goes into a buffer of so many bytes
abbrev pub has_room : Line → ℕ → Bool
has_room x n = nat_le (length (line_bytes x)) n

-- what writing answers: the number of bytes, or refusal 12 at place 0
abbrev pub write_answer : Line → List ℕ → Result ℕ Refusal
write_answer x b = cond (has_room x (length b)) (Ok (length (line_bytes x))) (Err (refused Room 0))

-- what the buffer then holds: the line and what was behind it, or what it held
abbrev pub write_leaves : Line → List ℕ → List ℕ
write_leaves x b = cond (has_room x (length b)) (line_bytes x ++ drop (length (line_bytes x)) b) b

-- what reading answers: the line that has these bytes, or nothing where no line has them
abbrev pub Reads : List ℕ → Option Line → Type 0
Reads b r = MatchOption r ((x : Line) → Fits x → line_bytes x ≢ b) (λ x. Fits x × (line_bytes x ≡ b))

-- two lines are never written alike, so that there is one line at most to be read
abbrev pub LinesDiffer : Type 0
LinesDiffer = (x y : Line) → Fits x → Fits y → line_bytes x ≡ line_bytes y → x ≡ y
