-- The rules of a station that is known by its meaning alone: a stance, and the elapsed parts, q to a tick. A lifetime is
-- compared with the fraction elapsed / q of a tick; nothing here is a comparison of the net's calls.
use Rattle.std.specs.Prelude.{◌≡◌, ℕ, ◌+◌, ◌*◌, ◌/◌, ◌<◌, cond, not, ◌&&◌, List, length, Some, None}
use Rattle.semantics.specs.Times.{Fraction, fraction}
use Rattle.semantics.specs.Trees.{Path}
use Rattle.semantics.specs.Fits.{within_bound}
use Rattle.semantics.specs.AutomatonRules.{at_bound}
use Rattle.semantics.specs.Machine.{move_to, StationMeaning, meaning_at}
use Rattle.semantics.specs.Events.{Event}
use Rattle.semantics.specs.Net.{Net, in_stance, state_at}
use Rattle.semantics.specs.declared.state.StationState.{StationState}
use Rattle.semantics.specs.Runs.{Rules, Act, Run}

-- a delay, in net ticks, in parts
abbrev pub parts_in : Fraction → ℕ → ℕ
parts_in d q = d.numerator * q / d.denominator

-- It is busy by its stance, and due when quiet and at its lifetime; no delay passes the lifetime. A word that it hears
-- gives the following stance, and time restarts; one that it does not hear leaves it as it is. A move gives the following
-- stance: into a quiet one time restarts, into a busy one it goes on.
abbrev pub station_rules : ℕ → StationMeaning → Rules StationState
station_rules q m = record {
  busy = λ x. (m.stance x.stance).busy;
  due = λ x. not (m.stance x.stance).busy && at_bound (m.stance x.stance).lifetime (fraction x.elapsed q);
  phase = λ x. (m.stance x.stance).phase;
  may_wait = λ d x. within_bound (m.stance x.stance).lifetime (fraction (x.elapsed + parts_in d q) q);
  later = λ d x. in_stance x.stance (x.elapsed + parts_in d q);
  Hears = λ x p v y. ((m.stance x.stance).hears p v x.elapsed q ≡ Some y.stance) × (y.elapsed ≡ 0);
  Deaf = λ x p v. (m.stance x.stance).hears p v x.elapsed q ≡ None;
  Moves = λ x w y.
      ((m.stance x.stance).move ≡ Some (move_to w y.stance))
      × (y.elapsed ≡ cond (m.stance y.stance).busy x.elapsed 0);
}

-- each station's rules in a net, by its place
abbrev pub rules_of : Net → ℕ → Rules StationState
rules_of net i = station_rules net.parts (meaning_at net.stations i)

-- By the rules of its stations' meanings these acts lead, with these events, from σ to τ.
abbrev pub NetRun : Net → List Path → (ℕ → StationState) → List Act → List Event → (ℕ → StationState) → Type 0
NetRun net paths = Run (rules_of net) (length net.stations) net.order paths

-- the list holds the first n states of the function
abbrev pub Shown : ℕ → (ℕ → StationState) → List StationState → Type 0
Shown n ρ σ = (i : ℕ) → i < n → ρ i ≡ state_at σ i
