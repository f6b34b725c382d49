use Rattle.spans.proofs.Windows.{windows_count, guards_count}
use Rattle.spans.proofs.meaning.cuts_count.Goals as goal

pub returns : goal.returns
returns c = record { windows = windows_count; guards = guards_count }
