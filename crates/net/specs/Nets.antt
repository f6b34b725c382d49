-- What a net in code stands for: a net as it is defined, and its state.
use Rattle.std.specs.Prelude.{◌≡◌, ℕ, ◌+◌, List, length, take, Ok, Err, Result}
use Rattle.book.specs.declared.refusal.Refusal.{Refusal}
use Rattle.semantics.specs.declared.state.StationState.{StationState}
use Rattle.semantics.specs.Times.{Order}
use Rattle.semantics.specs.Trees.{Path}
use Rattle.semantics.specs.Machine.{Meaning}
use Rattle.semantics.specs.Net.{Net, NetState, in_stance}
use Rattle.semantics.specs.Calls.{Answer, Call, Outcome, Made, answer_call}
use Rattle.machine.specs.declared.Machine.{Ghosts}
use Rattle.machine.specs.declared.gear.Gear.{Gear}
use Rattle.gearing.specs.Gearing.{geared_by}
use Rattle.delivery.specs.Known.{learned, learned_net}
use Rattle.net.specs.declared.held.Net.{Net as Held}

-- The net over a geared machine: its stations, geared by their factors, an order, and parts per net tick. Of a number that
-- is no stance, a blank is all that a net can learn.
abbrev pub net_over : {M : Type 0} → (M → Meaning) → Gear M → Order → ℕ → Net
net_over meaning g o q = learned_net (record { stations = geared_by (meaning g.below) g.factors; order = o; parts = q })

-- its state: from a table, that of each station; and the total of all waits
abbrev pub state_over : {M : Type 0} → (M → Meaning) → Gear M → List StationState → ℕ → NetState
state_over meaning g table total = record { stations = take (length (learned (geared_by (meaning g.below) g.factors))) table; total = total }

-- the machine of a net, as it is geared
abbrev pub gear_of : {M : Type 0} {G : Ghosts M} → Held M G → Gear M
gear_of x = x.rules.machine

-- the net, and its state
abbrev pub net_of : {M : Type 0} {G : Ghosts M} → (M → Meaning) → Held M G → Net
net_of meaning x = net_over meaning x.rules.machine x.rules.order x.rules.parts.number

abbrev pub state_of : {M : Type 0} {G : Ghosts M} → (M → Meaning) → Held M G → NetState
state_of meaning x = state_over meaning x.rules.machine x.table x.total

-- how it is to answer a call that comes with these paths
abbrev pub outcome : {M : Type 0} {G : Ghosts M} → (M → Meaning) → Held M G → List Path → Call → Outcome
outcome meaning x ps c = answer_call (net_of meaning x) ps c (state_of meaning x)

-- an answer that tells of no event
abbrev pub done : Answer → Result (Unit {0}) Refusal
done (Ok es) = Ok tt
done (Err e) = Err e

-- a station's state after d more parts
abbrev pub later : ℕ → StationState → StationState
later d x = in_stance x.stance (x.elapsed + d)

-- what a making answers: the number of its events, or its refusal
abbrev pub count_of : {M : Type 0} {G : Ghosts M} → Result (Held M G × ℕ) Refusal → Result ℕ Refusal
count_of (Ok x) = Ok x.1
count_of (Err e) = Err e

-- the same of a net alone, which has an event for each station
abbrev pub count_built : {M : Type 0} {G : Ghosts M} → (M → Meaning) → Result (Held M G) Refusal → Result ℕ Refusal
count_built meaning (Ok x) = Ok (length (net_of meaning x).stations)
count_built meaning (Err e) = Err e

-- A net in code stands for a making: it is over that machine, its net is the one that is made, as far as a net can learn
-- of the stances, and its state is the first state.
pub record StandsFor {M : Type 0} {G : Ghosts M} (meaning : M → Meaning) (machine : M) (made : Made) (x : Held M G) : Type 0 where
  pub over : (gear_of x).below ≡ machine
  pub net : net_of meaning x ≡ learned_net made.net
  pub state : state_of meaning x ≡ made.state
