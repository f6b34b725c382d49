-- What every net keeps.
use Rattle.std.specs.Prelude.{ℕ, ◌≤◌, List}
use Rattle.semantics.specs.declared.state.StationState.{StationState}
use Rattle.semantics.specs.Net.{state_at}

-- no station's elapsed parts are more than the total
abbrev pub Within : List StationState → ℕ → Type 0
Within table total = (i : ℕ) → (state_at table i).elapsed ≤ total
