use Rattle.stepping.proofs.AnyMachine.{reached_are_known}
use Rattle.stepping.proofs.reached_are_known.Goals as goal

pub returns : goal.returns
returns c = reached_are_known
