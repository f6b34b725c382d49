use Rattle.gearing.proofs.Gearing.{geared_machines_answer}
use Rattle.gearing.proofs.geared_machines_answer.Goals as goal

pub returns : goal.returns
returns c = geared_machines_answer
