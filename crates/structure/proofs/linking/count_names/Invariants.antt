use Rattle.std.proofs.Common.{◌+◌}
use Rattle.links.specs.Fields.{links_of}
use Rattle.structure.proofs.Counts.{Tallied}
use Rattle.structure.proofs.linking.count_names.Given as goal

abbrev pub invariant-loop-i : goal.invariant-loop-i
invariant-loop-i g l = Tallied (links_of g.R.Linked.links l.book) (l.n + 1) l.i l.counts
