-- The relay, worked: its session on the model and on the print, and a run with fractional delays.
use Rattle.std.specs.Prelude.{◌≡◌, ℕ, false, List, [], ◌∷◌, ◌++◌, Ok, Err}
use Rattle.std.specs.List.{flat_map}
use Rattle.book.specs.Refusals.{refused}
use Rattle.book.specs.declared.refusal.Fault.TheVariants.{Busy, Lifetime, Idle}
use Rattle.semantics.specs.Times.{fraction, Absent, StepFirst}
use Rattle.semantics.specs.Trees.{Word, Path, endless, lasting, ModelNet}
use Rattle.semantics.specs.Events.{Event, event, Arrival, External, Output, Internal, Created}
use Rattle.semantics.specs.Calls.{Answer, Call, wait, word, step, answers, telling}
use Rattle.semantics.specs.Print.{print}
use Rattle.semantics.specs.LawfulModels.{LawfulModel}
use Rattle.semantics.specs.LawfulAutomata.{LawfulAutomata}
use Rattle.semantics.specs.Runs as acts
use Rattle.semantics.specs.Runs.{Act}
use Rattle.semantics.specs.ModelRules.{ModelState, ModelRun}
use Rattle.semantics.specs.AutomatonRules.{AutomatonState, AutomatonRun}
use Rattle.semantics.specs.Faithful.{model_made, automata_made, model_left, automata_left, model_start, automaton_start}

abbrev pub sends : ℕ → ℕ → Word
sends port value = record { port = port; value = value }

abbrev pub path : ℕ → ℕ → ℕ → ℕ → Path
path sender sender_port hearer hearer_port =
    record { sender = sender; sender_port = sender_port; hearer = hearer; hearer_port = hearer_port }

-- The relay. Phase 1 is endless and hears port 1, values 5 to 9, from 0 on, into phase 2. Phase 2 lasts 3/2 s and sends
-- 7 and 8 on port 2; then phase 1 follows.
abbrev pub relay : ModelNet
relay = record {
  order = StepFirst;
  stations = record {
    opening = 0;
    phases =
        endless (record { goal = 1; port = 1; lowest = 5; highest = 9; window = record { low = fraction 0 1; low_open = false; high = Absent } } ∷ [])
        ∷ lasting (fraction 3 2) (sends 2 7 ∷ sends 2 8 ∷ []) 0 []
        ∷ [];
  } ∷ [];
  paths = path 0 1 1 1 ∷ path 1 2 0 4 ∷ [];
}

-- Its session, with so many parts for three net ticks. The call that makes the net has its slots too; 6 are enough.
abbrev pub session : ℕ → List Call
session three_ticks = word 1 5 6 ∷ wait three_ticks ∷ step 6 ∷ step 6 ∷ []

abbrev pub heard : List Event
heard = event Arrival 1 1 5 ∷ event External 1 0 2 ∷ []

abbrev pub first_step : List Event
first_step = event Output 1 2 7 ∷ event Arrival 0 4 7 ∷ []

abbrev pub second_step : List Event
second_step = event Output 1 2 8 ∷ event Arrival 0 4 8 ∷ event Internal 1 0 1 ∷ []

-- the answers of a net over the model, and of one over its print, with q parts per tick; and what a station then tells
abbrev pub on_model : ModelNet → ℕ → List Call → List Answer
on_model m q calls = answers (model_made m q 6).net m.paths calls (model_made m q 6).state

abbrev pub on_print : ModelNet → ℕ → List Call → List Answer
on_print m q calls = answers (automata_made (print m) q 6).net m.paths calls (automata_made (print m) q 6).state

abbrev pub told_by_model : ModelNet → ℕ → List Call → ℕ → ℕ × ℕ × ℕ
told_by_model m q calls k = telling (model_made m q 6).net (model_left m (print m) q 6 calls) k

abbrev pub told_by_print : ModelNet → ℕ → List Call → ℕ → ℕ × ℕ × ℕ
told_by_print m q calls k = telling (automata_made (print m) q 6).net (automata_left m (print m) q 6 calls) k

-- all events of some answers, in order
abbrev pub told : Answer → List Event
told (Ok es) = es
told (Err r) = []

abbrev pub all_told : List Answer → List Event
all_told answers = flat_map told answers

abbrev pub eight_events : List Event
eight_events =
    event Created 1 0 1
    ∷ event Arrival 1 1 5
    ∷ event External 1 0 2
    ∷ event Output 1 2 7
    ∷ event Arrival 0 4 7
    ∷ event Output 1 2 8
    ∷ event Arrival 0 4 8
    ∷ event Internal 1 0 1
    ∷ []

pub record RelayWorks : Type 0 where
  -- making and session give the eight events on the model and on the print, at 1 and at 3 parts per tick
  pub on_the_model : all_told ((model_made relay 1 6).answer ∷ on_model relay 1 (session 3)) ≡ eight_events
  pub on_the_print : all_told ((automata_made (print relay) 1 6).answer ∷ on_print relay 1 (session 3)) ≡ eight_events
  pub finer_on_model : all_told ((model_made relay 3 6).answer ∷ on_model relay 3 (session 9)) ≡ eight_events
  pub finer_on_print : all_told ((automata_made (print relay) 3 6).answer ∷ on_print relay 3 (session 9)) ≡ eight_events
  -- call by call; one slot is enough for the making
  pub made : (model_made relay 1 1).answer ≡ Ok (event Created 1 0 1 ∷ [])
  pub by_calls : on_print relay 3 (session 9) ≡ Ok heard ∷ Ok [] ∷ Ok first_step ∷ Ok second_step ∷ []
  -- a wait of 4 in place of 3 is past the lifetime of station 1, and then no station is due
  pub too_long : on_model relay 1 (session 4) ≡ Ok heard ∷ Err (refused Lifetime 1) ∷ Err (refused Idle 0) ∷ Err (refused Idle 0) ∷ []
  -- a wait of 0 between its two words
  pub between : on_print relay 1 (word 1 5 6 ∷ wait 3 ∷ step 6 ∷ wait 0 ∷ step 6 ∷ []) ≡ Ok heard ∷ Ok [] ∷ Ok first_step ∷ Err (refused Busy 1) ∷ Ok second_step ∷ []
  -- a word that is not heard does not restart time; nor does the step into the midst of a burst
  pub unheard : on_model relay 3 (word 1 5 6 ∷ wait 4 ∷ word 1 5 6 ∷ []) ≡ Ok heard ∷ Ok [] ∷ Ok (event Arrival 1 1 5 ∷ []) ∷ []
  pub unheard_tells : told_by_model relay 3 (word 1 5 6 ∷ wait 4 ∷ word 1 5 6 ∷ []) 1 ≡ (2, 0, 4)
  pub in_burst : told_by_model relay 3 (word 1 5 6 ∷ wait 9 ∷ step 6 ∷ []) 1 ≡ (2, 1, 9)
  pub in_burst_print : told_by_print relay 3 (word 1 5 6 ∷ wait 9 ∷ step 6 ∷ []) 1 ≡ (2, 1, 9)
  -- no station is past the last, and none has the number 0
  pub no_station : (told_by_model relay 1 [] 0 ≡ (0, 0, 0)) × (told_by_model relay 1 [] 2 ≡ (0, 0, 0))

-- A run with delays of 7/3 and 2/3 of a net tick, from the making on.
abbrev pub parts_of_a_tick : List Act
parts_of_a_tick = acts.word 1 5 ∷ acts.delay (fraction 7 3) ∷ acts.delay (fraction 2 3) ∷ acts.step ∷ acts.step ∷ []

pub record RelayRuns : Type 0 where
  pub by_model :
      (τ : ℕ → ModelState) × ModelRun relay (model_start relay 1 (model_made relay 1 1).state) parts_of_a_tick (heard ++ (first_step ++ second_step)) τ
  pub by_automaton :
      (τ : ℕ → AutomatonState)
      × AutomatonRun (print relay) (automaton_start (print relay) 1 (automata_made (print relay) 1 1).state) parts_of_a_tick (heard ++ (first_step ++ second_step)) τ

-- The relay is lawful, and so is its print: what is said of lawful nets is said of these.
pub record RelayIsLawful : Type 0 where
  pub model : LawfulModel relay
  pub printed : LawfulAutomata (print relay)
