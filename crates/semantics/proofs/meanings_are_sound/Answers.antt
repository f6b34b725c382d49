use Rattle.semantics.proofs.Sound.{meanings_sound}
use Rattle.semantics.proofs.meanings_are_sound.Goals as goal

pub returns : goal.returns
returns c = meanings_sound
