use Rattle.stepping.proofs.Makings.{makings_decline}
use Rattle.stepping.proofs.makings_decline.Goals as goal

pub returns : goal.returns
returns c = makings_decline
