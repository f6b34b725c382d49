use Rattle.faithful.proofs.PrintedLawful.{printed_is_lawful}
use Rattle.faithful.proofs.printed_is_lawful.Goals as goal

pub returns : goal.returns
returns c = printed_is_lawful
