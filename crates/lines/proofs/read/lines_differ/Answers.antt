use Rattle.lines.proofs.Marks.{differ}
use Rattle.lines.proofs.read.lines_differ.Goals as goal

pub returns : goal.returns
returns c = differ
