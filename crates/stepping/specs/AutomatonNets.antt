-- Automaton nets, printed or not, step by the timed-automaton rules: locations and clocks, with guards, bounds, committed
-- locations and resets.
use Rattle.std.specs.Prelude.{◌≡◌, ℕ, suc, ◌<◌, ◌≤◌, List, [], ◌∷◌, length, Ok}
use Rattle.semantics.specs.Times.{zero_time}
use Rattle.semantics.specs.Trees.{Automaton, AutomatonNet, automaton_at, location_at}
use Rattle.semantics.specs.Events.{Event, event, Created}
use Rattle.semantics.specs.Net.{Net, NetState, state_at}
use Rattle.semantics.specs.Calls.{Call, left_by}
use Rattle.semantics.specs.AutomatonRules.{AutomatonState, AutomatonRun}
use Rattle.semantics.specs.LawfulAutomata.{LawfulAutomata}
use Rattle.semantics.specs.Faithful.{automata_made, AutomataStand, automaton_start}
use Rattle.stepping.specs.Obeys.{acts_of, StepsBy}

module _ (a : AutomatonNet) (q : ℕ) where
  abbrev pub net_of : Net
  net_of = (automata_made a q 0).net

  abbrev pub left : List Call → NetState
  left calls = left_by net_of a.paths calls (automata_made a q 0).state

-- the events of a making: each opening location's phase, from station k on
abbrev pub openings : ℕ → List Automaton → List Event
openings k [] = []
openings k (a ∷ rest) = event Created k 0 (location_at a a.opening).phase ∷ openings (suc k) rest

-- The automata stand as the net tells them, and in its own stances: in a book that was not printed two locations may tell
-- the same phase and words sent.
pub record AutomataAt (a : AutomatonNet) (q : ℕ) (s : NetState) (τ : ℕ → AutomatonState) : Type 0 where
  pub told : AutomataStand a q s τ
  pub in_stances : (i : ℕ) → i < length a.automata → (τ i).location ≡ (state_at s.stations i).stance

abbrev pub opening_state : AutomatonNet → ℕ → AutomatonState
opening_state a i = record { location = (automaton_at a i).opening; clock = zero_time }

-- After any calls, obeyed or declined. Nothing before them is the making itself.
pub record AutomatonSteps (a : AutomatonNet) (q : ℕ) (calls : List Call) : Type 0 where
  -- a making with room succeeds, and each automaton then is in its opening location with the clock at 0
  pub makes : (slots : ℕ) → length a.automata ≤ slots → (automata_made a q slots).answer ≡ Ok (openings 1 a.automata)
  pub opens : AutomataAt a q (automata_made a q 0).state (opening_state a)
  -- where the automata's run starts is what the net holds and tells
  pub stands : AutomataAt a q (left a q calls) (automaton_start a q (left a q calls))
  -- from there, and from any states that stand so, the net steps by the automaton rules
  pub steps : (σ : ℕ → AutomatonState) → AutomataAt a q (left a q calls) σ → (cs : List Call) (es : List Event) →
      StepsBy (net_of a q) a.paths (left a q calls) cs es (AutomatonRun a σ (acts_of q cs) es) (AutomataAt a q)

-- for every lawful automaton net and all parts that a making takes
abbrev pub AutomatonNetsStep : Type 0
AutomatonNetsStep = (a : AutomatonNet) → LawfulAutomata a → (q : ℕ) → 1 ≤ q → q ≤ 1000 → (calls : List Call) → AutomatonSteps a q calls
