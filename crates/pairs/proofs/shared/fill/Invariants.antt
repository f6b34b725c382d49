use Rattle.std.proofs.Common.{◌≡◌, ℕ, length, take}
use Rattle.std.specs.Iterator.{ActsAs}
use Rattle.links.specs.Walks.{left}
use Rattle.pairs.specs.Pairs.{Heard, takers}
use Rattle.pairs.proofs.shared.fill.Given as goal

abbrev pub invariant-loop-i : goal.invariant-loop-i
invariant-loop-i g l =
    (heard : ℕ → Heard g.row.T.Denot) → ActsAs g.F.Fn l.hearing_of heard
    → take (length l.yielded) l.table ≡ takers heard (take (length l.yielded) (left l.edges))
