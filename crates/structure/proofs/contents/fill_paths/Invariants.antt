use Rattle.structure.specs.Heads.{path_at}
use Rattle.structure.proofs.Filling.{Filling}
use Rattle.structure.proofs.contents.fill_paths.Given as goal

abbrev pub invariant-loop-i : goal.invariant-loop-i
invariant-loop-i l = Filling (path_at l.book) l.numbers l.initial.list l.i l.list
