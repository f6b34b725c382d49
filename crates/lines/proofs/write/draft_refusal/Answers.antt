use Rattle.std.proofs.Common.{arith}
use Rattle.lines.proofs.Lengths.{two_short}
use Rattle.lines.proofs.write.draft_refusal.Goals as goal

pub draft_of-requires : goal.draft_of-requires
draft_of-requires c = two_short 45 c.from-number.result c.args.refusal.place (omega arith) (omega arith)
