use Rattle.std.proofs.Common.{ap, ◌∙◌, arith}
use Rattle.links.specs.Walks.{left}
use Rattle.links.proofs.Chains.{walk_start}
use Rattle.links.proofs.walk.walk.Goals as goal

pub loop-record-init : goal.loop-record-init
loop-record-init g c =
    (tt, tt, walk_start c.args.book.now c.args.first c.args.list.now (omega (arith, c.saturating_sub.ensures, c.if-list-saturating_sub.false)) _ (ap left c.into_iter-record-iterator.ensures.into_iter_gives ∙ c.of-record-items.ensures.records))
