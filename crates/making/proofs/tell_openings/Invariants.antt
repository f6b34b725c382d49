use Rattle.making.proofs.Openings.{Telling}
use Rattle.making.proofs.tell_openings.Given as goal

abbrev pub invariant-loop-place : goal.invariant-loop-place
invariant-loop-place g l = Telling (g.M.Machine.meaning l.machine) l.initial.slots l.slots l.place
