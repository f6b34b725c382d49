use Rattle.std.proofs.Common.{◌≡◌, length, subst, ◌∙◌, arith, length-set}
use Rattle.std.proofs.lemmas.List.{take_all, take_more_set, length-take-le}
use Rattle.std.specs.Cmp.Lexicographic.{same_text}
use Rattle.lines.specs.Numbers.{Are}
use Rattle.lines.proofs.Numbers.{next_read, has_next, all_read}
use Rattle.lines.proofs.read.numbers.Goals as goal

pub returns-in_err-read : goal.returns-in_err-read
returns-in_err-read g c =
    let l = c.loop-number in
    rw c.from_residual.ensures
    (λ ns n are.
    let m : length ns ≡ g.row.N = n in
    has_next _ _ _ l.invariant.1 ns (omega (arith, m, l.invariant.0, length-take-le l.number-index l.number-items (omega (arith, l.invariant.0)))) are c.in_err-read.ensures)

pub loop-number-preserved : goal.loop-number-preserved
loop-number-preserved g c =
    let l = c.loop-number in (
      length-set l.number-items l.number-index _ ∙ l.invariant.0,
      rw (take_more_set l.number-items l.number-index _ (omega (arith, l.invariant.0)))
          (next_read _ _ _ l.invariant.1 _ _ c.in_ok-read.ensures),
    )

pub returns-then-eq : goal.returns-then-eq
returns-then-eq g c =
    let l = c.loop-number in
    let feed = same_text l.rest.now c.as_slice.result.now c.if-eq.ensures ∙ c.as_slice.ensures in
    subst (Are c.args.bytes.now) (take_all l.number-index l.number-items (omega (arith, l.invariant.0))) (all_read _ _ _ l.invariant.1 feed)
