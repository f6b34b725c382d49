use Rattle.stepping.proofs.AutomatonSteps.{automaton_steps}
use Rattle.stepping.proofs.automaton_nets_step.Goals as goal

pub returns : goal.returns
returns c = automaton_steps
