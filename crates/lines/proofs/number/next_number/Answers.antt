use Rattle.std.proofs.Common.{◌∙◌}
use Rattle.lines.proofs.Numbers.{no_number}
use Rattle.lines.proofs.number.next_number.Goals as goal

pub returns-in_err-n : goal.returns-in_err-n
returns-in_err-n c =
    let s = c.in_ok-space in
    let d = c.digit_count in
    rw c.from_residual-in_err-n.ensures
    (no_number c.args.bytes.now s.rest.now s.space.now d.result s.ensures.cases.0 d.ensures.digits d.ensures.stops (λ n fits e. c.in_err-n.ensures n fits (c.split_at.ensures.front ∙ e)))
