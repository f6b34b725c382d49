use Rattle.semantics.proofs.Sound.{stance_numbers}
use Rattle.semantics.proofs.stance_numbers.Goals as goal

pub returns : goal.returns
returns c = stance_numbers
