use Rattle.stepping.proofs.ModelSteps.{model_steps}
use Rattle.stepping.proofs.model_nets_step.Goals as goal

pub returns : goal.returns
returns c = model_steps
