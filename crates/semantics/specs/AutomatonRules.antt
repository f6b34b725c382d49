-- The rules of a timed automaton: a location, and one clock in the automaton's own ticks.
use Rattle.std.specs.Prelude.{◌≡◌, ℕ, ◌/◌, Bool, true, false, cond, List, length, Some, None, Option}
use Rattle.std.specs.List.{AllByRecursion}
use Rattle.semantics.specs.Times.{Fraction, same_time, plus, over, whole, zero_time, inside}
use Rattle.semantics.specs.Trees.{Word, Label, Silent, Hears, Sends, Transition, location_at, Automaton, AutomatonNet, automaton_at}
use Rattle.semantics.specs.Scales.{automaton_scale}
use Rattle.semantics.specs.Fits.{transition_fits, within_bound}
use Rattle.semantics.specs.Events.{Event}
use Rattle.semantics.specs.Runs.{Act, Rules, Run}
use Rattle.semantics.specs.ModelRules.{Any}

-- the location's place, and the clock
pub record AutomatonState : Type 0 where
  pub location : ℕ
  pub clock : Fraction

-- the clock stands at the bound
abbrev pub at_bound : Option ℕ → Fraction → Bool
at_bound None t = false
at_bound (Some b) t = same_time t (whole b)

-- the word that a transition sends as a move; one that hears is no move
abbrev pub MovesWith : Label → Option Word → Type 0
MovesWith Silent w = w ≡ None
MovesWith (Hears port lowest highest) w = ⊥
MovesWith (Sends port value) w = w ≡ Some (record { port = port; value = value })

-- through a transition; only a reset restarts the clock
abbrev pub through : Transition → AutomatonState → AutomatonState
through t x = record { location = t.goal; clock = cond t.resets zero_time x.clock }

-- A committed location is busy: no delay and no word from outside comes there. A location is due with the clock at its
-- bound, and no delay passes the bound. Any hearing transition that the word fits may be taken, and any move whose guard
-- holds. A delay of d net ticks is d / factor of the automaton's own ticks, factor being net scale / scale.
abbrev pub automaton_rules : ℕ → Automaton → Rules AutomatonState
automaton_rules factor a = record {
  busy = λ x. (location_at a x.location).committed;
  due = λ x. at_bound (location_at a x.location).bound x.clock;
  phase = λ x. (location_at a x.location).phase;
  may_wait = λ d x. within_bound (location_at a x.location).bound (plus x.clock (over d factor));
  later = λ d x. record { location = x.location; clock = plus x.clock (over d factor) };
  Hears = λ x p v y.
      Any (λ t. (transition_fits p v x.clock t ≡ true) × (y ≡ through t x)) (location_at a x.location).transitions;
  Deaf = λ x p v. AllByRecursion (λ t. transition_fits p v x.clock t ≡ false) (location_at a x.location).transitions;
  Moves = λ x w y.
      Any (λ t. MovesWith t.label w × (inside whole t.guard x.clock ≡ true) × (y ≡ through t x))
      (location_at a x.location).transitions;
}

-- each automaton's rules in a net, by its place
abbrev pub rules_of : AutomatonNet → ℕ → Rules AutomatonState
rules_of a i = automaton_rules (automaton_scale a / (automaton_at a i).scale) (automaton_at a i)

-- By the automaton rules these acts lead, with these events, from σ to τ.
abbrev pub AutomatonRun : AutomatonNet → (ℕ → AutomatonState) → List Act → List Event → (ℕ → AutomatonState) → Type 0
AutomatonRun a = Run (rules_of a) (length a.automata) a.order a.paths
