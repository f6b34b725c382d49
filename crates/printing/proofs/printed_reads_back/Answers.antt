use Rattle.printing.proofs.ReadsBack.{printed_reads_back}
use Rattle.printing.proofs.printed_reads_back.Goals as goal

pub returns : goal.returns
returns c = printed_reads_back
