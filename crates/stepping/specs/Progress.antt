-- Progress: from every reached state a step is allowed, or a delay that is not 0.
use Rattle.std.specs.Prelude.{◌≡◌, ℕ, ◌≤◌, ◌⊎◌, List, [], ◌∷◌, length, None}
use Rattle.semantics.specs.Times.{Fraction, Proper, Order}
use Rattle.semantics.specs.Trees.{Path, ModelNet, AutomatonNet}
use Rattle.semantics.specs.Machine.{Meaning, Sound}
use Rattle.semantics.specs.Events.{Event}
use Rattle.semantics.specs.Net.{NetState, state_at}
use Rattle.semantics.specs.Calls.{Call, make, bad_paths}
use Rattle.semantics.specs.Runs.{Act, step, delay}
use Rattle.semantics.specs.ModelRules.{ModelState, ModelRun}
use Rattle.semantics.specs.AutomatonRules.{AutomatonState, AutomatonRun}
use Rattle.semantics.specs.LawfulModels.{LawfulModel}
use Rattle.semantics.specs.LawfulAutomata.{LawfulAutomata}
use Rattle.semantics.specs.Faithful.{ModelStands}
use Rattle.stepping.specs.StationRules.{NetRun}
use Rattle.stepping.specs.AnyMachine.{ReachedOver}
use Rattle.stepping.specs.ModelNets as model
use Rattle.stepping.specs.AutomatonNets.{AutomataAt}
use Rattle.stepping.specs.AutomatonNets as automaton

module _ {X : Type 0} (Runs : (ℕ → X) → List Act → List Event → (ℕ → X) → Type 0) (σ : ℕ → X) where
  abbrev pub MayStep : Type 0
  MayStep = (es : List Event) × ((τ : ℕ → X) × Runs σ (step ∷ []) es τ)

  abbrev pub MayWait : Type 0
  MayWait = (d : Fraction) × (Proper d × ((1 ≤ d.numerator) × ((τ : ℕ → X) × Runs σ (delay d ∷ []) [] τ)))

  abbrev pub GoesOn : Type 0
  GoesOn = MayStep ⊎ MayWait

pub record NetsProgress : Type 0 where
  -- over any sound machine, with paths that pass the check
  pub machines : (ms : Meaning) → Sound ms → (ps : List Path) (o : Order) (q : ℕ) → 1 ≤ q → (s : NetState) → ReachedOver ms ps o q s →
      (paths : List Path) → bad_paths (length ms) paths ≡ None → GoesOn (NetRun (make ms ps o q 0).net paths) (state_at s.stations)
  -- by the model's rules and by the automaton rules
  pub models : (m : ModelNet) → LawfulModel m → (q : ℕ) → 1 ≤ q → (calls : List Call) (σ : ℕ → ModelState) →
      ModelStands m q (model.left m q calls) σ → GoesOn (ModelRun m) σ
  pub automata : (a : AutomatonNet) → LawfulAutomata a → (q : ℕ) → 1 ≤ q → (calls : List Call) (σ : ℕ → AutomatonState) →
      AutomataAt a q (automaton.left a q calls) σ → GoesOn (AutomatonRun a) σ
