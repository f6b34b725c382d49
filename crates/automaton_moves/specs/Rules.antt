-- The rule of an automaton book about locations: marks, moves, resets and the guards of moves are as printing writes them.
use Rattle.std.specs.Prelude.{ℕ, ◌+◌, Bool, true, false, cond, not, ◌&&◌, ◌||◌, List, length, is_some, ◌==◌}
use Rattle.std.specs.Option.{unwrap_or}
use Rattle.book.specs.declared.record.HighEnd.{HighEnd}
use Rattle.book.specs.declared.record.HighEnd.TheVariants.{Closed, Open, Absent}
use Rattle.book.specs.declared.record.Label.{Label}
use Rattle.book.specs.declared.record.Label.TheVariants.{Silent, Hears, Sends}
use Rattle.book.specs.declared.record.Location.{Location}
use Rattle.book.specs.declared.record.Transition.{Transition}
use Rattle.book.specs.declared.record.Window.{Window}
use Rattle.visits.specs.Visits.{Rule, edges}
use Rattle.fields.specs.Fields.{location_at, transition_at}
use Rattle.chains.specs.Some.{some, some_at}

abbrev pub hears : Label → Bool
hears Silent = false
hears (Hears port lowest highest) = true
hears (Sends port value) = false

abbrev pub hears_at : List ℕ → ℕ → Bool
hears_at b t = hears (transition_at b t).label

abbrev pub no_high_end : HighEnd ℕ → Bool
no_high_end (Closed ticks) = false
no_high_end (Open ticks) = false
no_high_end Absent = true

-- the guard of a move: from those ticks on, with them
abbrev pub from_on : ℕ → Window ℕ → Bool
from_on ticks g = not g.low_open && (g.low == ticks && no_high_end g.high)

-- a move's guard starts at the bound of a bounded location, and at 0 in a committed one
abbrev pub move_ticks : Location → ℕ
move_ticks l = unwrap_or l.bound 0

abbrev pub same : Bool → Bool → Bool
same true x = x
same false x = not x

-- A transition that hears resets the clock. A move resets it just where its goal is not committed, and has that guard.
abbrev pub wrong_transition : Location → Location → Transition → Bool
wrong_transition l goal t =
    let move = not (same t.resets (not goal.committed)) || not (from_on (move_ticks l) t.guard) in
    cond (hears t.label) (not t.resets) move

abbrev pub wrong_transition_at : List ℕ → ℕ → ℕ → Bool
wrong_transition_at b l t = wrong_transition (location_at b l) (location_at b (transition_at b t).goal) (transition_at b t)

-- one of n transitions, at place i from 0: the last hears, or another does not
abbrev pub misplaced : List ℕ → ℕ → ℕ → ℕ → Bool
misplaced b n i t = same (i + 1 == n) (hears_at b t)

-- A bounded or committed location has one move, which is its last transition; any other has none.
abbrev pub wrong_moves : List ℕ → Location → List ℕ → Bool
wrong_moves b l ts =
    let none = some (λ t. not (hears_at b t)) ts in
    let one = length ts == 0 || some_at (misplaced b (length ts)) 0 ts in
    cond (is_some l.bound || l.committed) one none

-- it is both bounded and committed; or committed, and one of its transitions hears
abbrev pub wrong_marks : List ℕ → Location → List ℕ → Bool
wrong_marks b l ts = (is_some l.bound && l.committed) || (l.committed && some (hears_at b) ts)

-- Location: wrong marks, wrong moves, or a wrong transition. ts are the transitions of location l, and fields its fields.
abbrev pub wrong_with : List ℕ → ℕ → Location → List ℕ → Bool
wrong_with b l fields ts = wrong_marks b fields ts || (wrong_moves b fields ts || some (wrong_transition_at b l) ts)

abbrev pub wrong_location : List ℕ → ℕ → Bool
wrong_location b l = wrong_with b l (location_at b l) (edges b l)

abbrev pub locations : List ℕ → Rule
locations b = record {
  station = λ i a. false;
  phase = λ a i l. wrong_location b l;
  edge = λ a l t. false;
  word = λ i w. false;
}
