use Rattle.semantics.proofs.Lcm.{least_common}
use Rattle.semantics.proofs.scales_are_least.Goals as goal

pub returns : goal.returns
returns c = least_common
