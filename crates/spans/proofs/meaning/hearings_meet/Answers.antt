use Rattle.semantics.specs.Times.{itself, whole}
use Rattle.spans.proofs.Taking.{meet_exactly, takes_as_cut}
use Rattle.spans.proofs.meaning.hearings_meet.Goals as goal

pub returns-clause-windows : goal.returns-clause-windows
returns-clause-windows c = meet_exactly itself

pub returns-clause-guards : goal.returns-clause-guards
returns-clause-guards c = meet_exactly whole

pub returns-clause-taking : goal.returns-clause-taking
returns-clause-taking c = takes_as_cut
