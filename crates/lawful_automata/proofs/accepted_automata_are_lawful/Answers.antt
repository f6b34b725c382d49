use Rattle.lawful_automata.proofs.Accepted.{accepted_automata_are_lawful}
use Rattle.lawful_automata.proofs.accepted_automata_are_lawful.Goals as goal

pub returns : goal.returns
returns c = accepted_automata_are_lawful
