-- What it is for an automaton net to be faithful to a model net.
use Rattle.std.specs.Prelude.{◌≡◌, ℕ, suc, pred, ◌*◌, ◌/◌, ◌<◌, true, List, length, Ok}
use Rattle.semantics.specs.Times.{Fraction, fraction, Proper, same_time, over}
use Rattle.semantics.specs.Trees.{ModelNet, station_at, AutomatonNet, automaton_at, location_at}
use Rattle.semantics.specs.Scales.{model_scale, automaton_scale, station_scale}
use Rattle.semantics.specs.Meanings.{model_meaning, automata_meaning}
use Rattle.semantics.specs.Events.{Event}
use Rattle.semantics.specs.Net.{NetState, state_at}
use Rattle.semantics.specs.Calls.{Made, make, Call, answers, left_by, telling}
use Rattle.semantics.specs.Runs.{Act}
use Rattle.semantics.specs.ModelRules.{ModelState, ModelRun}
use Rattle.semantics.specs.AutomatonRules.{AutomatonState, AutomatonRun}

-- the nets of the two trees, each with its own paths and order, q parts to a net tick
abbrev pub model_made : ModelNet → ℕ → ℕ → Made
model_made m q slots = make (model_meaning m) m.paths m.order q slots

abbrev pub automata_made : AutomatonNet → ℕ → ℕ → Made
automata_made a q slots = make (automata_meaning a) a.paths a.order q slots

-- Where runs start, as a function of the net's state. Of e elapsed parts, a model station's age is e / (q × net scale)
-- seconds, and an automaton's clock e / (q × factor) of its own ticks.
abbrev pub model_start : ModelNet → ℕ → NetState → ℕ → ModelState
model_start m q s i = record {
  phase = pred (telling (model_made m q 0).net s (suc i)).0;
  sent = (telling (model_made m q 0).net s (suc i)).1;
  age = fraction (telling (model_made m q 0).net s (suc i)).2 (q * model_scale m);
}

abbrev pub automaton_start : AutomatonNet → ℕ → NetState → ℕ → AutomatonState
automaton_start a q s i = record {
  location = (state_at s.stations i).stance;
  clock = fraction (state_at s.stations i).elapsed (q * (automaton_scale a / (automaton_at a i).scale));
}

-- x is the time t, maybe as another fraction
abbrev pub IsTime : Fraction → Fraction → Type 0
IsTime x t = Proper x × (same_time x t ≡ true)

-- The states of a model run stand as the net tells them.
abbrev pub ModelStands : ModelNet → ℕ → NetState → (ℕ → ModelState) → Type 0
ModelStands m q s σ = (i : ℕ) → i < length m.stations →
    (suc (σ i).phase ≡ (telling (model_made m q 0).net s (suc i)).0)
    × ((σ i).sent ≡ (telling (model_made m q 0).net s (suc i)).1)
    × IsTime (σ i).age (fraction (telling (model_made m q 0).net s (suc i)).2 (q * model_scale m))

-- So do those of an automaton run.
abbrev pub AutomataStand : AutomatonNet → ℕ → NetState → (ℕ → AutomatonState) → Type 0
AutomataStand a q s τ = (i : ℕ) → i < length a.automata →
    ((τ i).location < length (automaton_at a i).locations)
    × ((location_at (automaton_at a i) (τ i).location).phase ≡ (telling (automata_made a q 0).net s (suc i)).0)
    × ((location_at (automaton_at a i) (τ i).location).sent ≡ (telling (automata_made a q 0).net s (suc i)).1)
    × IsTime (τ i).clock (fraction (telling (automata_made a q 0).net s (suc i)).2 (q * (automaton_scale a / (automaton_at a i).scale)))

-- A model's and an automaton's states correspond: phase and words sent are alike, and the clock, in seconds, is the age.
abbrev pub Correspond : ModelNet → AutomatonNet → (ℕ → ModelState) → (ℕ → AutomatonState) → Type 0
Correspond m a σ τ = (i : ℕ) → i < length m.stations →
    ((location_at (automaton_at a i) (τ i).location).phase ≡ suc (σ i).phase)
    × ((location_at (automaton_at a i) (τ i).location).sent ≡ (σ i).sent)
    × IsTime (over (τ i).clock (station_scale (station_at m i))) (σ i).age

-- The acts are allowed on both sides or on neither, with these events, and end in states that correspond.
pub record SameRuns (m : ModelNet) (a : AutomatonNet) (σ : ℕ → ModelState) (τ : ℕ → AutomatonState) (acts : List Act) (es : List Event) : Type 0 where
  pub forth : (σ' : ℕ → ModelState) → ModelRun m σ acts es σ' → (τ' : ℕ → AutomatonState) × (AutomatonRun a τ acts es τ' × Correspond m a σ' τ')
  pub back : (τ' : ℕ → AutomatonState) → AutomatonRun a τ acts es τ' → (σ' : ℕ → ModelState) × (ModelRun m σ acts es σ' × Correspond m a σ' τ')

-- After a making that succeeds and any list of calls, obeyed or declined.
module _ (m : ModelNet) (a : AutomatonNet) (q slots : ℕ) (calls : List Call) where
  abbrev pub model_left : NetState
  model_left = left_by (model_made m q slots).net m.paths calls (model_made m q slots).state

  abbrev pub automata_left : NetState
  automata_left = left_by (automata_made a q slots).net a.paths calls (automata_made a q slots).state

  pub record Agrees : Type 0 where
    pub same_answers :
        answers (model_made m q slots).net m.paths calls (model_made m q slots).state
        ≡ answers (automata_made a q slots).net a.paths calls (automata_made a q slots).state
    pub same_tellings : (k : ℕ) → telling (model_made m q slots).net model_left k ≡ telling (automata_made a q slots).net automata_left k
    -- the starts of runs stand as told, and from all that do the runs are the same
    pub model_starts : ModelStands m q model_left (model_start m q model_left)
    pub automata_start : AutomataStand a q automata_left (automaton_start a q automata_left)
    pub same_runs : (σ : ℕ → ModelState) (τ : ℕ → AutomatonState) → ModelStands m q model_left σ → AutomataStand a q automata_left τ →
        (acts : List Act) (es : List Event) → SameRuns m a σ τ acts es

-- Equal makings for all parts and room; and after every one that succeeds, agreement over every list of calls.
pub record Faithful (m : ModelNet) (a : AutomatonNet) : Type 0 where
  pub same_making : (q slots : ℕ) → (model_made m q slots).answer ≡ (automata_made a q slots).answer
  pub same_life : (q slots : ℕ) (es : List Event) → (model_made m q slots).answer ≡ Ok es → (calls : List Call) → Agrees m a q slots calls
