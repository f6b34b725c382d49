use Rattle.scales.proofs.Multiples.{grows}
use Rattle.scales.proofs.meaning.scales_grow.Goals as goal

pub returns : goal.returns
returns c = grows
