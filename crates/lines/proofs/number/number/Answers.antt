use Rattle.std.proofs.Common.{◌≡◌, ◌≤◌, length, get_or, subst}
use Rattle.std.specs.Str.Parse.{ParsesUnsigned}
use Rattle.lines.proofs.Numbers.{no_zero_first, digits_utf8, reads}
use Rattle.lines.proofs.number.number.Goals as goal
use Rattle.lines.proofs.number.number.Goals.{else-digits-gt1-via-then-digits-gt1+else-digits-eq48, else-digits-gt1-via-else-digits-gt1}

pub returns-then-digits-eq48 : goal.returns-then-digits-eq48
returns-then-digits-eq48 c = no_zero_first c.args.digits.now c.if-digits-gt1.true c.if-digits-eq48.true

pub returns : goal.returns
returns c =
    let one : get_or c.args.digits.now 0 0 ≡ 48 → length c.args.digits.now ≤ 1 =
    elim c.else-digits-gt1.branch [
      | else-digits-gt1-via-then-digits-gt1+else-digits-eq48 w ↦ λ z. absurd (w.if-digits-eq48.false z)
      | else-digits-gt1-via-else-digits-gt1 w ↦ λ _. w.if-digits-gt1.false
    ]
    in
    let same = c.in-Ok.ensures.cases.0 in
    let read = subst (λ l. ParsesUnsigned 64 10 l c.parse.result) same c.parse.ensures.value.0 in
    rw c.ok.ensures.value (reads c.args.digits.now c.parse.result read c.requires one)

pub returns-in_default : goal.returns-in_default
returns-in_default c = absurd (c.in_default.ensures.cases.0 (digits_utf8 c.args.digits.now c.requires))
