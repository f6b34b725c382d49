use Rattle.std.proofs.Common.{take}
use Rattle.links.specs.Naming.{met_all}
use Rattle.links.specs.Queues.{Grown}
use Rattle.links.proofs.reach.meet_all.Given as goal

abbrev pub invariant-loop-link : goal.invariant-loop-link
invariant-loop-link l = Grown l.n l.start l.initial.list l.initial.marks (met_all l.n (take l.start l.initial.list) (take l.link-index l.links)) l.count l.list l.marks
