use Rattle.structure.proofs.Rewriting.{sound_books_rewritten}
use Rattle.structure.proofs.sound_books_rewritten.Goals as goal

pub returns : goal.returns
returns c = sound_books_rewritten
