use Rattle.faithful.proofs.MixedCalls.{mixed_nets_answer_alike}
use Rattle.faithful.proofs.mixed_nets_answer_alike.Goals as goal

pub returns : goal.returns
returns c = mixed_nets_answer_alike
