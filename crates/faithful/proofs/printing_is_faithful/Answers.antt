use Rattle.faithful.proofs.Faithful.{printing_is_faithful}
use Rattle.faithful.proofs.printing_is_faithful.Goals as goal

pub returns : goal.returns
returns c = printing_is_faithful
