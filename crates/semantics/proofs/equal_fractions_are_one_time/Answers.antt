use Rattle.semantics.proofs.OneTime.{one_time}
use Rattle.semantics.proofs.equal_fractions_are_one_time.Goals as goal

pub returns : goal.returns
returns c = one_time
