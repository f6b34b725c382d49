use Rattle.semantics.proofs.Devs.{models_are_devs}
use Rattle.semantics.proofs.models_are_devs.Goals as goal

pub returns : goal.returns
returns c = models_are_devs
