-- What a net is made from.
use Rattle.std.specs.Prelude.{◌-◌, List, ◌++◌, map, length, replicate}
use Rattle.semantics.specs.declared.state.StationState.{StationState}
use Rattle.semantics.specs.Machine.{Meaning}
use Rattle.semantics.specs.Net.{in_stance}

-- every station in its opening stance, with elapsed 0
abbrev pub opened : Meaning → List StationState
opened ms = map (λ m. in_stance m.opening 0) ms

-- the same in a table for 16 stations; of those that are not there nothing is said
abbrev pub opened_table : Meaning → List StationState
opened_table ms = opened ms ++ replicate (16 - length ms) (in_stance 0 0)
