use Rattle.structure.proofs.Soundness.{passes_sound}
use Rattle.structure.proofs.passes_sound.Goals as goal

pub returns : goal.returns
returns c = passes_sound
