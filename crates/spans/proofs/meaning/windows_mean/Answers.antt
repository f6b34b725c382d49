use Rattle.semantics.specs.Times.{itself, whole}
use Rattle.spans.proofs.Windows.{windows_mean}
use Rattle.spans.proofs.meaning.windows_mean.Goals as goal

pub returns : goal.returns
returns c = record { windows = windows_mean itself; guards = windows_mean whole }
