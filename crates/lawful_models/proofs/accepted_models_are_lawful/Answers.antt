use Rattle.lawful_models.proofs.Accepted.{accepted_models_are_lawful}
use Rattle.lawful_models.proofs.accepted_models_are_lawful.Goals as goal

pub returns : goal.returns
returns c = accepted_models_are_lawful
