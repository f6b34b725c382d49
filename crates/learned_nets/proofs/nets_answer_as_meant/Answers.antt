use Rattle.learned_nets.proofs.Meant.{nets_answer_as_meant}
use Rattle.learned_nets.proofs.nets_answer_as_meant.Goals as goal

pub returns : goal.returns
returns c = nets_answer_as_meant
