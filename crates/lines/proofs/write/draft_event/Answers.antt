use Rattle.std.proofs.Common.{arith}
use Rattle.lines.proofs.Lengths.{three_short}
use Rattle.lines.proofs.write.draft_event.Goals as goal

pub draft_of-requires : goal.draft_of-requires
draft_of-requires c = three_short 0 c.from-station.result c.from-port.result c.from-value.result (omega arith) (omega arith) (omega arith)
