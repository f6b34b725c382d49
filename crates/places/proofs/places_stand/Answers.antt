use Rattle.places.proofs.Standing.{places_stand}
use Rattle.places.proofs.places_stand.Goals as goal

pub returns : goal.returns
returns c = places_stand
