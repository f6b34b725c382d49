use Rattle.book.specs.Chains.{chain_of}
use Rattle.links.specs.Walks.{left}
use Rattle.links.proofs.Chains.{Walked}
use Rattle.links.proofs.walk.walk.Given as goal

abbrev pub invariant-loop-record : goal.invariant-loop-record
invariant-loop-record g l =
    (goal.iterator-loop-record g).can_next l.record-iterator
    × (goal.iterator-loop-record g).is_finite l.record-iterator
    × Walked (chain_of l.book l.first) l.initial.list l.list (left l.record-iterator) l.count
