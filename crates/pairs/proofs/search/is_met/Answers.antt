use Rattle.std.proofs.Common.{ap, ◌∙◌}
use Rattle.pairs.specs.Pairs.{meets}
use Rattle.pairs.proofs.search.is_met.Goals as goal

pub returns : goal.returns
returns g c heard acts = c.meets.ensures ∙ ap (meets g.T.Time.time c.args.taker) (c.taker_of.ensures heard acts)
