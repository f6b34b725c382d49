use Rattle.stepping.proofs.AnyMachine.{machine_nets_step}
use Rattle.stepping.proofs.machine_nets_step.Goals as goal

pub returns : goal.returns
returns c = machine_nets_step
