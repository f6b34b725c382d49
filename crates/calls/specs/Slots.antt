-- An answer as it is given in code: the number of events, and the events in the slots.
use Rattle.std.specs.Prelude.{ℕ, List, ◌++◌, length, drop, None, Ok, Err, Option, Result, nat_lt}
use Rattle.std.specs.Option.{option_or}
use Rattle.book.specs.Refusals.{refused}
use Rattle.book.specs.declared.refusal.Refusal.{Refusal}
use Rattle.book.specs.declared.refusal.Fault.TheVariants.{Paths, Room}
use Rattle.book.specs.declared.event.Event.{Event}
use Rattle.book.specs.declared.term.Order.{Order}
use Rattle.book.specs.declared.term.Order.TheVariants.{StepFirst, WordFirst}
use Rattle.semantics.specs.declared.state.StationState.{StationState}
use Rattle.semantics.specs.Machine.{Meaning}
use Rattle.semantics.specs.Net.{Net, NetState, busy_at, due_at}
use Rattle.semantics.specs.Trees.{Path}
use Rattle.semantics.specs.Calls.{Answer, lowest, unless, at_zero, bad_paths, room}

abbrev pub counted : Answer → Result ℕ Refusal
counted (Ok es) = Ok (length es)
counted (Err e) = Err e

-- the events stand in the first slots, and later ones are as they were; on a refusal all are
abbrev pub written : Answer → List Event → List Event
written (Ok es) slots = es ++ drop (length es) slots
written (Err e) slots = slots

abbrev pub net_of : Meaning → Order → ℕ → Net
net_of ms o q = record { stations = ms; order = o; parts = q }

abbrev pub state_of : List StationState → ℕ → NetState
state_of σ t = record { stations = σ; total = t }

-- what a word and a step test first, of n stations: the paths, and then the room for their events
abbrev pub opening_by : Option ℕ → Option ℕ → Result (Unit {0}) Refusal
opening_by paths slots = unless paths (λ k. Err (refused Paths k)) (unless slots (λ k. Err (refused Room k)) (Ok tt))

abbrev pub opening : ℕ → List Path → ℕ → Result (Unit {0}) Refusal
opening n ps slots = opening_by (bad_paths n ps) (at_zero (nat_lt slots (room ps)))

-- the place that a step acts for, among n: the lowest busy one, else the lowest due one
abbrev pub turn : Meaning → ℕ → List StationState → ℕ → Option ℕ
turn ms q σ n = option_or (lowest (busy_at ms σ) 0 n) (lowest (due_at ms q σ) 0 n)

-- the place of a due station that keeps words out, among n: none under word first
abbrev pub due_among : Meaning → Order → ℕ → List StationState → ℕ → Option ℕ
due_among ms StepFirst q σ n = lowest (due_at ms q σ) 0 n
due_among ms WordFirst q σ n = None
