use Rattle.printing.proofs.Sizes.{printed_fits}
use Rattle.printing.proofs.printed_fits.Goals as goal

pub returns : goal.returns
returns c = printed_fits
