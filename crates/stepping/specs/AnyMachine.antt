-- Nets over any sound machine: what they are left in, what they obey, and what they decline.
use Rattle.std.specs.Prelude.{◌≡◌, ℕ, ◌<◌, ◌≤◌, true, ◌↔◌, List, length, None, Err}
use Rattle.book.specs.Refusals.{refused}
use Rattle.book.specs.declared.refusal.Fault.{Fault}
use Rattle.semantics.specs.Times.{Order}
use Rattle.semantics.specs.Trees.{Path}
use Rattle.semantics.specs.Machine.{Meaning, meaning_at, Sound}
use Rattle.semantics.specs.Events.{Event}
use Rattle.semantics.specs.Net.{Net, NetState, state_at}
use Rattle.semantics.specs.Calls.{make, Call, bad_paths, answer_call}
use Rattle.stepping.specs.StationRules.{NetRun, Shown}
use Rattle.stepping.specs.Obeys.{acts_of, StepsBy}
use Rattle.stepping.specs.Declines.{Declines}

-- The states that calls lead to, obeyed or declined, each with paths of its own.
pub data Reached (net : Net) (first : NetState) : NetState → Type 0 where
  at_first : Reached net first first
  then_called : {s : NetState} (paths : List Path) (c : Call) → Reached net first s → Reached net first (answer_call net paths c s).state

-- after a making over that machine, and any calls
abbrev pub ReachedOver : Meaning → List Path → Order → ℕ → NetState → Type 0
ReachedOver ms ps o q s = Reached (make ms ps o q 0).net (make ms ps o q 0).state s

-- each station has a state, in a stance that the machine knows
pub record AllKnown (ms : Meaning) (s : NetState) : Type 0 where
  pub as_many : length s.stations ≡ length ms
  pub known : (i : ℕ) → i < length ms → (meaning_at ms i).known (state_at s.stations i).stance ≡ true

-- Every reached stance is known, so that nothing is ever asked of what is not a stance.
abbrev pub ReachedAreKnown : Type 0
ReachedAreKnown = (ms : Meaning) → Sound ms → (ps : List Path) (o : Order) (q : ℕ) (s : NetState) → ReachedOver ms ps o q s → AllKnown ms s

-- From a reached state, with paths that pass the check of each word and step: calls are obeyed exactly where the rules of
-- the stations' meanings allow their acts, with the same events, and both end in the same stances and parts. With any
-- paths, a call is declined with a fault at a place exactly where that refusal's condition is the first that holds, there.
pub record KeepsRules (net : Net) (s : NetState) : Type 0 where
  pub steps : (paths : List Path) → bad_paths (length net.stations) paths ≡ None → (cs : List Call) (es : List Event) →
      StepsBy net paths s cs es (NetRun net paths (state_at s.stations) (acts_of net.parts cs) es) (λ t ρ. Shown (length net.stations) ρ t.stations)
  pub declines : (paths : List Path) (c : Call) (f : Fault) (k : ℕ) →
      ((answer_call net paths c s).answer ≡ Err (refused f k)) ↔ Declines net paths s c f k

abbrev pub MachineNetsStep : Type 0
MachineNetsStep = (ms : Meaning) → Sound ms → (ps : List Path) (o : Order) (q : ℕ) → 1 ≤ q → (s : NetState) → ReachedOver ms ps o q s →
    KeepsRules (make ms ps o q 0).net s
