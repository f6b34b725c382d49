use Rattle.std.proofs.Common.{[], ◌∷◌, length, ap, arith, length-append}
use Rattle.lines.proofs.Lengths.{next_room}
use Rattle.lines.proofs.write.draft_of.Goals as goal

pub push-requires-in-loop-number : goal.push-requires-in-loop-number
push-requires-in-loop-number c = omega (arith, next_room c.loop-number.draft _ c.args.numbers.now c.loop-number.number-index c.loop-number.invariant (omega arith), c.requires)

pub push_number-requires : goal.push_number-requires
push_number-requires c = omega (arith, ap length c.push-in-loop-number.ensures, length-append c.loop-number.draft (32 ∷ []), next_room c.loop-number.draft _ c.args.numbers.now c.loop-number.number-index c.loop-number.invariant (omega arith), c.requires)
