use Rattle.semantics.proofs.Membership.{membership}
use Rattle.semantics.proofs.tests_decide.Goals as goal

pub returns : goal.returns
returns c = membership
