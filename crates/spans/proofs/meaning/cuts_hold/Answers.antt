use Rattle.spans.proofs.Holding.{holds_exactly}
use Rattle.spans.proofs.meaning.cuts_hold.Goals as goal

pub returns : goal.returns
returns c = holds_exactly
