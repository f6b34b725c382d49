use Rattle.std.proofs.Common.{refl}
use Rattle.semantics.proofs.relay_reads.Goals as goal

pub returns : goal.returns
returns c = record { reads = refl; prints = refl; reads_back = refl }
