use Rattle.links.proofs.Closure.{reach_is_least}
use Rattle.links.proofs.reach.reach_is_least.Goals as goal

pub returns : goal.returns
returns c = reach_is_least
