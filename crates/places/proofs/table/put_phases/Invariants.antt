use Rattle.links.specs.Walks.{left}
use Rattle.visits.specs.Visits.{phases}
use Rattle.places.proofs.Filling.{Placing}
use Rattle.places.proofs.table.put_phases.Given as goal

abbrev pub invariant-loop-i : goal.invariant-loop-i
invariant-loop-i g l =
    (goal.iterator-loop-i g).can_next l.i-iterator
    × (goal.iterator-loop-i g).is_finite l.i-iterator
    × Placing (phases l.book l.s) l.used l.initial.records l.initial.places l.records l.places (left l.i-iterator.iter) l.i-iterator.count l.count
