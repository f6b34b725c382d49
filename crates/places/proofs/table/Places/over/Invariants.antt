use Rattle.std.proofs.Common.{take}
use Rattle.links.specs.Walks.{left}
use Rattle.visits.specs.Visits.{stations}
use Rattle.places.proofs.Stations.{Filled}
use Rattle.places.proofs.table.Places.over.Given as goal

abbrev pub invariant-loop-i : goal.invariant-loop-i
invariant-loop-i g l =
    (goal.iterator-loop-i g).can_next l.i-iterator
    × (goal.iterator-loop-i g).is_finite l.i-iterator
    × Filled l.book (take 16 (stations l.book)) l.rows l.records l.places (take l.i-iterator.iter.n (left l.i-iterator.iter.iter)) l.used l.stations l.i-iterator.count
