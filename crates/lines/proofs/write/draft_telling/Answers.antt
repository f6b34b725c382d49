use Rattle.std.proofs.Common.{arith}
use Rattle.lines.proofs.Lengths.{three_short}
use Rattle.lines.proofs.write.draft_telling.Goals as goal

pub draft_of-requires : goal.draft_of-requires
draft_of-requires c = three_short 61 c.from-phase.result c.from-sent.result c.args.telling.elapsed (omega arith) (omega arith) (omega arith)
