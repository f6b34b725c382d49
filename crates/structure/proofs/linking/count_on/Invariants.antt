use Rattle.structure.proofs.Counts.{Counting}
use Rattle.structure.proofs.linking.count_on.Given as goal

abbrev pub invariant-loop-link : goal.invariant-loop-link
invariant-loop-link l = Counting l.initial.counts l.links l.link-index l.counts
