use Rattle.std.proofs.Common.{◌≡◌, ◌++◌, map, take, drop}
use Rattle.net.specs.Nets.{later}
use Rattle.net.proofs.table.advance.Given as goal

abbrev pub invariant-loop-state : goal.invariant-loop-state
invariant-loop-state l = l.table ≡ map (later l.more) (take l.state-index l.initial.table) ++ drop l.state-index l.initial.table
