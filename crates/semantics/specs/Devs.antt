-- A model station as an atomic DEVS, and a model net as a coupled one, by their parts.
--
-- Where they differ from the general formalism:
-- * A burst. A phase may send up to four words one after another. In the midst of them the station is transitory: its
--   time advance is 0, it hears nothing, and no word from outside and no other station's due move comes between. The age
--   that it tells stays that of the phase.
-- * A word that no edge takes does not restart time. In general an external transition always restarts it; here the
--   external transition may answer nothing, and then the state and the age stay.
-- * At a station's last moment a word from outside comes before its internal transition under word first, and not at
--   all under step first. In general a confluent transition or the order of messages decides.
-- * Of several stations that may act, the lowest transitory one is selected, else the lowest one.
-- * Time advances are fractions of whole numbers or endless, and inputs and outputs are words: a port and a value.
use Rattle.std.specs.Prelude.{◌≡◌, ℕ, zero, suc, ◌<◌, Bool, true, ◌↔◌, List, [], ◌∷◌, map, length, drop, Some, None, filter, Option}
use Rattle.std.specs.Option.{option_map, option_or}
use Rattle.semantics.specs.Times.{Fraction, Proper, plus, over, zero_time, Order}
use Rattle.semantics.specs.Trees.{Word, Phase, lifetime_of, words_of, edges_of, next_of, phase_at, Station, ModelNet}
use Rattle.semantics.specs.Fits.{edge_fits, first}
use Rattle.semantics.specs.Membership.{AtMost, SameTime}
use Rattle.semantics.specs.Events.{leaves}
use Rattle.semantics.specs.Calls.{lowest}
use Rattle.semantics.specs.Runs.{Turn}
use Rattle.semantics.specs.ModelRules.{ModelState, model_rules, rules_of}
use Rattle.semantics.specs.LawfulModels.{LawfulStation}

-- An atomic model on states S: the time advance (none is endless), the output function, and the internal and the
-- external transition, the latter by the time elapsed in the state.
pub record Atomic (S : Type 0) : Type 0 where
  pub start : S
  pub time_advance : S → Option Fraction
  pub output : S → Option Word
  pub internal : S → S
  pub external : S → Fraction → Word → Option S

-- the states of a station: a phase, by its place, and the words sent
pub record Burst : Type 0 where
  pub phase : ℕ
  pub sent : ℕ

abbrev pub burst : ℕ → ℕ → Burst
burst i j = record { phase = i; sent = j }

-- by the words still to send: the first of them, and the state after it
abbrev pub first_word : List Word → Option Word
first_word [] = None
first_word (w ∷ ws) = Some w

abbrev pub after_word : ℕ → ℕ → ℕ → List Word → Burst
after_word i j next [] = burst next 0
after_word i j next (w ∷ []) = burst next 0
after_word i j next (w ∷ x ∷ ws) = burst i (suc j)

abbrev pub advance : List Phase → ℕ → ℕ → Option Fraction
advance phases i zero = lifetime_of (phase_at phases i)
advance phases i (suc j) = Some zero_time

abbrev pub hear : Order → List Phase → ℕ → ℕ → Fraction → Word → Option Burst
hear o phases i zero t w =
    option_map (λ g. burst g 0)
    (first (edge_fits o (lifetime_of (phase_at phases i)) w.port w.value t) (λ e. e.goal) (edges_of (phase_at phases i)))
hear o phases i (suc j) t w = None

-- a station as an atomic model
abbrev pub atomic : Order → Station → Atomic Burst
atomic o st = record {
  start = burst st.opening 0;
  time_advance = λ s. advance st.phases s.phase s.sent;
  output = λ s. first_word (drop s.sent (words_of (phase_at st.phases s.phase)));
  internal = λ s. after_word s.phase s.sent (next_of (phase_at st.phases s.phase)) (drop s.sent (words_of (phase_at st.phases s.phase)));
  external = λ s t w. hear o st.phases s.phase s.sent t w;
}

-- A coupled model: its components; the coupling, which says where a word from a component's port, or from outside (0),
-- goes, in order; and the select function, by which stations are transitory and which are at the end of their time.
pub record Coupled : Type 0 where
  pub components : List (Atomic Burst)
  pub coupling : ℕ → ℕ → List (ℕ × ℕ)
  pub select : (ℕ → Bool) → (ℕ → Bool) → Option ℕ

abbrev pub coupled : ModelNet → Coupled
coupled m = record {
  components = map (atomic m.order) m.stations;
  coupling = λ from port. map (λ p. (p.hearer, p.hearer_port)) (filter (λ p. leaves p from port) m.paths);
  select = λ transitory over. option_or (lowest transitory 0 (length m.stations)) (lowest over 0 (length m.stations));
}

-- the time t is the end of a time advance; it is not past it
abbrev pub EndsAt : Option Fraction → Fraction → Type 0
EndsAt None t = ⊥
EndsAt (Some l) t = SameTime t l

abbrev pub NotPast : Option Fraction → Fraction → Type 0
NotPast None t = Unit {0}
NotPast (Some l) t = AtMost t l

-- a state of the rules as one of the atomic model, and back with an age
abbrev pub state_of : ModelState → Burst
state_of x = burst x.phase x.sent

abbrev pub aged : Burst → Fraction → ModelState
aged s t = record { phase = s.phase; sent = s.sent; age = t }

-- the age after a move, by the words then sent: within a burst it stays, and after it time restarts
abbrev pub age_after : ℕ → Fraction → Fraction
age_after zero t = zero_time
age_after (suc j) t = t

abbrev pub moved : Burst → Fraction → ModelState
moved s t = aged s (age_after s.sent t)

-- A station by the model's rules is that atomic model: it is due at the end of its time advance and waits up to it, moves
-- by output and internal transition, and hears by the external transition.
pub record StepsAsAtomic (o : Order) (scale : ℕ) (st : Station) (x : ModelState) : Type 0 where
  pub due_at_end : ((model_rules o scale st.phases).due x ≡ true) ↔ ((x.sent ≡ 0) × EndsAt ((atomic o st).time_advance (state_of x)) x.age)
  pub waits_to_end : x.sent ≡ 0 → (d : Fraction) →
      ((model_rules o scale st.phases).may_wait d x ≡ true) ↔ NotPast ((atomic o st).time_advance (state_of x)) (plus x.age (over d scale))
  -- it moves in no other way, and out of every phase that ends
  pub moves_so : (w : Option Word) (y : ModelState) → (model_rules o scale st.phases).Moves x w y →
      (w ≡ (atomic o st).output (state_of x)) × (y ≡ moved ((atomic o st).internal (state_of x)) x.age)
  pub may_move : (l : Fraction) → lifetime_of (phase_at st.phases x.phase) ≡ Some l →
      (model_rules o scale st.phases).Moves x ((atomic o st).output (state_of x)) (moved ((atomic o st).internal (state_of x)) x.age)
  pub hears_so : (w : Word) (y : ModelState) →
      (model_rules o scale st.phases).Hears x w.port w.value y ↔ ((s : Burst) × (((atomic o st).external (state_of x) x.age w ≡ Some s) × (y ≡ aged s zero_time)))
  pub deaf_so : (w : Word) →
      (model_rules o scale st.phases).Deaf x w.port w.value ↔ ((atomic o st).external (state_of x) x.age w ≡ None)

pub record ModelsAreDevs : Type 0 where
  pub stations : (o : Order) (scale : ℕ) (st : Station) → LawfulStation o st →
      (x : ModelState) → x.phase < length st.phases → Proper x.age → StepsAsAtomic o scale st x
  -- in a run, a step acts for the station that is selected
  pub turns : (m : ModelNet) (σ : ℕ → ModelState) (i : ℕ) →
      Turn (rules_of m) (length m.stations) m.order m.paths σ i
      ↔ ((coupled m).select (λ k. (rules_of m k).busy (σ k)) (λ k. (rules_of m k).due (σ k)) ≡ Some i)
