-- What a call writes of what has passed: its events into the slots, and the states.
use Rattle.std.specs.Prelude.{◌≡◌, ℕ, ◌+◌, ◌≤◌, cond, List, [], ◌++◌, take, drop}
use Rattle.semantics.specs.declared.state.StationState.{StationState}
use Rattle.book.specs.declared.term.Path.{Path}
use Rattle.book.specs.declared.event.Event.{Event}
use Rattle.semantics.specs.Events.{leaves}
use Rattle.semantics.specs.Machine.{Meaning}
use Rattle.semantics.specs.Net.{Passed, passed, arrive}

-- one path of a delivery: the word arrives if it leaves there
abbrev pub along : Meaning → ℕ → ℕ → ℕ → ℕ → Path → List StationState → Passed
along ms q from port v p σ = cond (leaves p from port) (arrive ms q σ p.hearer p.hearer_port v) (passed [] σ)

-- The events of `x` stand in the slots from n up to r, at most k of them. Slots before n and from r on are as they were,
-- and the states are those that `x` leaves.
pub record Told (x : Passed) (before after : List Event) (states : List StationState) (n k r : ℕ) : Type 0 where
  pub low : n ≤ r
  pub high : r ≤ n + k
  pub front : take r after ≡ take n before ++ x.news
  pub rest : drop r after ≡ drop r before
  pub left : states ≡ x.stations
