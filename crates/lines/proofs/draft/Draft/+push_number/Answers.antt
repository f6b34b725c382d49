use Rattle.std.proofs.Common.{◌/◌, length, decimal, ap, ◌∙◌, arith, length-append}
use Rattle.lines.proofs.Digits.{length_more, length_one, written_more, written_one}
use Rattle.lines.proofs.draft.Draft.+push_number.Goals as goal
use Rattle.lines.proofs.draft.Draft.+push_number.Goals.{then-number-ge10, else-number-ge10}

pub push_number-requires : goal.push_number-requires
push_number-requires t c = (omega arith, omega (arith, length_more c.args.number (omega arith) (omega arith)))

pub push-requires : goal.push-requires
push-requires t c =
    elim c.if-number-ge10.branch [
      | then-number-ge10 w ↦
          let front = decimal (c.args.number / 10) in
          omega (arith, length_more c.args.number (omega arith) (omega arith), ap length (w.self-is ∙ w.push_number.ensures), length-append c.args.self.now front)
      | else-number-ge10 w ↦ omega (arith, length_one c.args.number (omega arith), ap length w.self-is)
    ]

pub returns : goal.returns
returns t c =
    elim c.if-number-ge10.branch [
      | then-number-ge10 w ↦ c.push.ensures ∙ written_more c.args.number c.args.self.now c.if-number-ge10.self (omega arith) (omega arith) (w.self-is ∙ w.push_number.ensures)
      | else-number-ge10 w ↦ c.push.ensures ∙ written_one c.args.number c.args.self.now c.if-number-ge10.self (omega arith) w.self-is
    ]
