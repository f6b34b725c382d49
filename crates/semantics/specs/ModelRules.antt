-- The rules of a model station: a phase, the words sent, and an age in seconds that is compared with the book's own
-- fractions.
use Rattle.std.specs.Prelude.{◌≡◌, ℕ, suc, ◌<◌, Bool, true, false, ◌&&◌, ◌⊎◌, List, [], ◌∷◌, length, drop, Some, None, Option, ◌==◌, nat_lt}
use Rattle.std.specs.List.{AllByRecursion}
use Rattle.semantics.specs.Times.{Fraction, at_most, same_time, plus, over, zero_time, Order}
use Rattle.semantics.specs.Trees.{Word, Phase, endless, lasting, lifetime_of, edges_of, phase_at, ModelNet, station_at}
use Rattle.semantics.specs.Scales.{model_scale}
use Rattle.semantics.specs.Fits.{edge_fits}
use Rattle.semantics.specs.Events.{Event}
use Rattle.semantics.specs.Runs.{Act, Rules, Run}

-- some element has the property
abbrev pub Any : {A : Type 0} → (A → Type 0) → List A → Type 0
Any P [] = ⊥
Any P (x ∷ xs) = P x ⊎ Any P xs

-- the phase's place, the words sent, and the age
pub record ModelState : Type 0 where
  pub phase : ℕ
  pub sent : ℕ
  pub age : Fraction

-- a phase just entered
abbrev pub fresh : ℕ → ModelState
fresh i = record { phase = i; sent = 0; age = zero_time }

-- the age is not past the lifetime; the age is the lifetime
abbrev pub lasts : Option Fraction → Fraction → Bool
lasts None t = true
lasts (Some life) t = at_most t life

abbrev pub is_over : Option Fraction → Fraction → Bool
is_over None t = false
is_over (Some life) t = same_time t life

-- With these words still to send: which word goes out, and the state after it. Within a burst the age stays.
abbrev pub SendsNext : ModelState → ℕ → List Word → Option Word → ModelState → Type 0
SendsNext x next [] w y = (w ≡ None) × (y ≡ fresh next)
SendsNext x next (a ∷ []) w y = (w ≡ Some a) × (y ≡ fresh next)
SendsNext x next (a ∷ b ∷ more) w y = (w ≡ Some a) × (y ≡ record { phase = x.phase; sent = suc x.sent; age = x.age })

-- how the phase f is left; an endless one never is
abbrev pub Leaves : Phase → ModelState → Option Word → ModelState → Type 0
Leaves (endless edges) x w y = ⊥
Leaves (lasting lifetime words next edges) x w y = SendsNext x next (drop x.sent words) w y

-- The station is busy once a word is sent. It hears by any edge that the word fits, with no word sent, and is then fresh
-- in the edge's goal; a word that no edge fits leaves it as it is, its age too. A delay of d net ticks is d / scale
-- seconds, where scale is the net's.
abbrev pub model_rules : Order → ℕ → List Phase → Rules ModelState
model_rules o scale phases = record {
  busy = λ x. nat_lt 0 x.sent;
  due = λ x. (x.sent == 0) && is_over (lifetime_of (phase_at phases x.phase)) x.age;
  phase = λ x. suc x.phase;
  may_wait = λ d x. lasts (lifetime_of (phase_at phases x.phase)) (plus x.age (over d scale));
  later = λ d x. record { phase = x.phase; sent = x.sent; age = plus x.age (over d scale) };
  Hears = λ x p v y.
      (x.sent ≡ 0)
      × Any (λ e. (edge_fits o (lifetime_of (phase_at phases x.phase)) p v x.age e ≡ true) × (y ≡ fresh e.goal))
      (edges_of (phase_at phases x.phase));
  Deaf = λ x p v.
      (0 < x.sent)
      ⊎ AllByRecursion (λ e. edge_fits o (lifetime_of (phase_at phases x.phase)) p v x.age e ≡ false)
      (edges_of (phase_at phases x.phase));
  Moves = λ x w y. Leaves (phase_at phases x.phase) x w y;
}

-- each station's rules in a net, by its place
abbrev pub rules_of : ModelNet → ℕ → Rules ModelState
rules_of m i = model_rules m.order (model_scale m) (station_at m i).phases

-- By the model's rules these acts lead, with these events, from σ to τ.
abbrev pub ModelRun : ModelNet → (ℕ → ModelState) → List Act → List Event → (ℕ → ModelState) → Type 0
ModelRun m = Run (rules_of m) (length m.stations) m.order m.paths
