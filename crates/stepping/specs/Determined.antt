-- Determinism: by the model's rules, and by the automaton rules, one list of acts has at most one list of events and one
-- end. The acts may have any delays, not only whole parts.
use Rattle.std.specs.Prelude.{◌≡◌, ℕ, ◌≤◌, List}
use Rattle.semantics.specs.Trees.{ModelNet, AutomatonNet}
use Rattle.semantics.specs.Events.{Event}
use Rattle.semantics.specs.Calls.{Call}
use Rattle.semantics.specs.Runs.{Act}
use Rattle.semantics.specs.ModelRules.{ModelState, ModelRun}
use Rattle.semantics.specs.AutomatonRules.{AutomatonState, AutomatonRun}
use Rattle.semantics.specs.LawfulModels.{LawfulModel}
use Rattle.semantics.specs.LawfulAutomata.{LawfulAutomata}
use Rattle.semantics.specs.Faithful.{ModelStands}
use Rattle.stepping.specs.ModelNets as model
use Rattle.stepping.specs.AutomatonNets.{AutomataAt}
use Rattle.stepping.specs.AutomatonNets as automaton

-- no two runs of one list of acts from σ differ
abbrev pub OneRun : {X : Type 0} → ((ℕ → X) → List Act → List Event → (ℕ → X) → Type 0) → (ℕ → X) → Type 0
OneRun {X} Runs σ = (acts : List Act) (es fs : List Event) (τ ρ : ℕ → X) → Runs σ acts es τ → Runs σ acts fs ρ → (es ≡ fs) × (τ ≡ ρ)

-- from every state that a making and any calls leave
pub record RunsAreDetermined : Type 0 where
  pub models : (m : ModelNet) → LawfulModel m → (q : ℕ) → 1 ≤ q → (calls : List Call) (σ : ℕ → ModelState) →
      ModelStands m q (model.left m q calls) σ → OneRun (ModelRun m) σ
  pub automata : (a : AutomatonNet) → LawfulAutomata a → (q : ℕ) → 1 ≤ q → (calls : List Call) (σ : ℕ → AutomatonState) →
      AutomataAt a q (automaton.left a q calls) σ → OneRun (AutomatonRun a) σ
