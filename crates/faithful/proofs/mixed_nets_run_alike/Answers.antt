use Rattle.faithful.proofs.Mixed.{mixed_nets_run_alike}
use Rattle.faithful.proofs.mixed_nets_run_alike.Goals as goal

pub returns : goal.returns
returns c = mixed_nets_run_alike
