use Rattle.printing.proofs.Renumbered.{numbers_do_not_matter}
use Rattle.printing.proofs.numbers_do_not_matter.Goals as goal

pub returns : goal.returns
returns c = numbers_do_not_matter
