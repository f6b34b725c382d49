use Rattle.semantics.proofs.Sound.{gearing_sound}
use Rattle.semantics.proofs.gearing_keeps_sound.Goals as goal

pub returns : goal.returns
returns c = gearing_sound
