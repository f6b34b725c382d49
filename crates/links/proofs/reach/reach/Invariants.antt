use Rattle.std.proofs.Common.{◌+◌, ◌-◌}
use Rattle.links.specs.Fields.{links_of}
use Rattle.links.proofs.Meeting.{Reaching}
use Rattle.links.proofs.reach.reach.Given as goal

abbrev pub invariant-loop-seen : goal.invariant-loop-seen
invariant-loop-seen g l = Reaching (links_of g.R.Linked.links l.book) l.records l.initial.list l.initial.marks l.seen l.count l.list l.marks

abbrev pub decreases-loop-seen : goal.decreases-loop-seen
decreases-loop-seen g l = l.records + 1 - l.seen
