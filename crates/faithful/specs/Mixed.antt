-- Nets in which each station goes by its own rules: some by the model's, the others by those of their printed automata.
use Rattle.std.specs.Prelude.{◌≡◌, ℕ, suc, ◌<◌, Bool, cond, ◌⊎◌, List, [], ◌∷◌, length, Ok}
use Rattle.std.proofs.Common.{inl, inr}
use Rattle.semantics.specs.Times.{Order, Proper, over}
use Rattle.semantics.specs.Trees.{ModelNet, Station, station_at, automaton_at, Automaton, location_at}
use Rattle.semantics.specs.Scales.{station_scale}
use Rattle.semantics.specs.Events.{Event}
use Rattle.semantics.specs.Runs.{Act, Rules, Run}
use Rattle.semantics.specs.ModelRules.{ModelState, ModelRun}
use Rattle.semantics.specs.ModelRules as model
use Rattle.semantics.specs.AutomatonRules.{AutomatonState}
use Rattle.semantics.specs.AutomatonRules as automata
use Rattle.semantics.specs.Print.{print, print_station}
use Rattle.semantics.specs.Machine.{Meaning}
use Rattle.semantics.specs.Meanings.{station_meaning, automaton_meaning}
use Rattle.semantics.specs.Calls.{Made, make, Call, answers, left_by, telling}
use Rattle.semantics.specs.Faithful.{IsTime, model_made}
use Rattle.semantics.specs.LawfulModels.{LawfulModel}

-- A state of either kind goes by the rules of its kind, and stays of it.
module _ {X Y : Type 0} where
  abbrev pub on : {C : Type 0} → (X → C) → (Y → C) → X ⊎ Y → C
  on f g (inl x) = f x
  on f g (inr y) = g y

  abbrev pub keep : (X → X) → (Y → Y) → X ⊎ Y → X ⊎ Y
  keep f g (inl x) = inl (f x)
  keep f g (inr y) = inr (g y)

  abbrev pub Each : (X → Type 0) → (Y → Type 0) → X ⊎ Y → Type 0
  Each P Q (inl x) = P x
  Each P Q (inr y) = Q y

  abbrev pub Alongside : (X → X → Type 0) → (Y → Y → Type 0) → X ⊎ Y → X ⊎ Y → Type 0
  Alongside P Q (inl x) (inl z) = P x z
  Alongside P Q (inl x) (inr z) = ⊥
  Alongside P Q (inr y) (inl z) = ⊥
  Alongside P Q (inr y) (inr z) = Q y z

  abbrev pub either_rules : Rules X → Rules Y → Rules (X ⊎ Y)
  either_rules A B = record {
    busy = on A.busy B.busy;
    due = on A.due B.due;
    phase = on A.phase B.phase;
    may_wait = λ d. on (A.may_wait d) (B.may_wait d);
    later = λ d. keep (A.later d) (B.later d);
    Hears = λ z p v w. Alongside (λ x y. A.Hears x p v y) (λ x y. B.Hears x p v y) z w;
    Deaf = λ z p v. Each (λ x. A.Deaf x p v) (λ y. B.Deaf y p v) z;
    Moves = λ z o w. Alongside (λ x y. A.Moves x o y) (λ x y. B.Moves x o y) z w;
  }

abbrev pub MixedState : Type 0
MixedState = ModelState ⊎ AutomatonState

-- each station's rules, by its place: the model's, or those of its printed automaton
abbrev pub rules_of : ModelNet → ℕ → Rules MixedState
rules_of m i = either_rules (model.rules_of m i) (automata.rules_of (print m) i)

abbrev pub MixedRun : ModelNet → (ℕ → MixedState) → List Act → List Event → (ℕ → MixedState) → Type 0
MixedRun m = Run (rules_of m) (length m.stations) m.order m.paths

-- A station's state is the model's, or one of its automaton with the same phase, words sent and time.
abbrev pub StandsIn : Station → Automaton → ModelState → MixedState → Type 0
StandsIn st a x (inl z) = x ≡ z
StandsIn st a x (inr y) =
    (y.location < length a.locations)
    × ((location_at a y.location).phase ≡ suc x.phase)
    × ((location_at a y.location).sent ≡ x.sent)
    × Proper y.clock
    × Proper x.age
    × IsTime (over y.clock (station_scale st)) x.age

abbrev pub StandIn : ModelNet → (ℕ → ModelState) → (ℕ → MixedState) → Type 0
StandIn m σ ζ = (i : ℕ) → i < length m.stations → StandsIn (station_at m i) (automaton_at (print m) i) (σ i) (ζ i)

-- Whichever stations are replaced, the acts are allowed on both sides or on neither, with the same events and ends.
pub record SameMixedRuns (m : ModelNet) (σ : ℕ → ModelState) (ζ : ℕ → MixedState) (acts : List Act) (es : List Event) : Type 0 where
  pub forth : (τ : ℕ → ModelState) → ModelRun m σ acts es τ → (ω : ℕ → MixedState) × (MixedRun m ζ acts es ω × StandIn m τ ω)
  pub back : (ω : ℕ → MixedState) → MixedRun m ζ acts es ω → (τ : ℕ → ModelState) × (ModelRun m σ acts es τ × StandIn m τ ω)

abbrev pub MixedNetsRunAlike : Type 0
MixedNetsRunAlike = (m : ModelNet) → LawfulModel m → (σ : ℕ → ModelState) (ζ : ℕ → MixedState) → StandIn m σ ζ →
    (acts : List Act) (es : List Event) → SameMixedRuns m σ ζ acts es

-- The machine in which the stations that `replaced` picks, by their places from i on, are their printed automata.
abbrev pub mixed_from : (ℕ → Bool) → Order → ℕ → List Station → Meaning
mixed_from replaced o i [] = []
mixed_from replaced o i (st ∷ sts) =
    cond (replaced i) (automaton_meaning (print_station o st)) (station_meaning o st) ∷ mixed_from replaced o (suc i) sts

abbrev pub mixed_made : (ℕ → Bool) → ModelNet → ℕ → ℕ → Made
mixed_made replaced m q slots = make (mixed_from replaced m.order 0 m.stations) m.paths m.order q slots

-- Its net is made, answers and tells as the model's does.
pub record AnswersAlike (replaced : ℕ → Bool) (m : ModelNet) : Type 0 where
  pub same_making : (q slots : ℕ) → (model_made m q slots).answer ≡ (mixed_made replaced m q slots).answer
  pub same_answers : (q slots : ℕ) (es : List Event) → (model_made m q slots).answer ≡ Ok es → (calls : List Call) →
      answers (model_made m q slots).net m.paths calls (model_made m q slots).state
      ≡ answers (mixed_made replaced m q slots).net m.paths calls (mixed_made replaced m q slots).state
  pub same_tellings : (q slots : ℕ) (es : List Event) → (model_made m q slots).answer ≡ Ok es → (calls : List Call) (k : ℕ) →
      telling (model_made m q slots).net (left_by (model_made m q slots).net m.paths calls (model_made m q slots).state) k
      ≡ telling (mixed_made replaced m q slots).net (left_by (mixed_made replaced m q slots).net m.paths calls (mixed_made replaced m q slots).state) k

abbrev pub MixedNetsAnswerAlike : Type 0
MixedNetsAnswerAlike = (m : ModelNet) → LawfulModel m → (replaced : ℕ → Bool) → AnswersAlike replaced m
