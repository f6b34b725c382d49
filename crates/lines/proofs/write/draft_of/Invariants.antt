use Rattle.std.proofs.Common.{◌≡◌, ◌++◌, drop}
use Rattle.lines.specs.Lines.{ended, marked}
use Rattle.lines.proofs.write.draft_of.Given as goal

-- the draft with the remaining numbers behind it is the whole line
abbrev pub invariant-loop-number : goal.invariant-loop-number
invariant-loop-number l = l.draft ++ ended (drop l.number-index l.numbers) ≡ marked l.mark l.numbers
