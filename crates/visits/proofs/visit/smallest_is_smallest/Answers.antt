use Rattle.visits.proofs.Least.{smallest_is_smallest}
use Rattle.visits.proofs.visit.smallest_is_smallest.Goals as goal

pub returns : goal.returns
returns c = smallest_is_smallest
