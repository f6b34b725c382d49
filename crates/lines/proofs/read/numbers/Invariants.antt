use Rattle.std.proofs.Common.{◌≡◌, length, take}
use Rattle.lines.proofs.Numbers.{IsRead}
use Rattle.lines.proofs.read.numbers.Given as goal

abbrev pub invariant-loop-number : goal.invariant-loop-number
invariant-loop-number g l = (length l.number-items ≡ g.row.N) × IsRead l.bytes l.rest (take l.number-index l.number-items)
