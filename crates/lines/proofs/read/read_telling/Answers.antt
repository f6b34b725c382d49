use Rattle.std.proofs.Common.{[], ◌∷◌, get_or, refl, ap, arith}
use Rattle.lines.proofs.Marks.{no_telling}
use Rattle.lines.proofs.Numbers.{same_numbers, converts}
use Rattle.lines.proofs.read.read_telling.Goals as goal

pub returns-in_err-phase : goal.returns-in_err-phase
returns-in_err-phase c =
    rw c.from_residual.ensures
    (no_telling c.args.bytes.now (λ p s t hp hs are. c.in_err-phase.ensures (p ∷ s ∷ t ∷ []) refl are))

pub returns-in_err-ok : goal.returns-in_err-ok
returns-in_err-ok c =
    rw c.from_residual-in_err-ok.ensures
    (no_telling c.args.bytes.now
    (λ p s t hp hs are.
    let e = same_numbers c.args.bytes.now c.in_ok-phase.field-0 (p ∷ s ∷ t ∷ []) c.in_ok-phase.ensures are in
    converts _ _ c.try_from.result c.ok.result c.try_from.ensures c.ok.ensures.value c.in_err-ok.was (omega (arith, hp, ap (λ l. get_or l 0 0) e))))

pub returns-in_err-ok-2 : goal.returns-in_err-ok-2
returns-in_err-ok-2 c =
    rw c.from_residual-in_err-ok-2.ensures
    (no_telling c.args.bytes.now
    (λ p s t hp hs are.
    let e = same_numbers c.args.bytes.now c.in_ok-phase.field-0 (p ∷ s ∷ t ∷ []) c.in_ok-phase.ensures are in
    converts _ _ c.try_from-2.result c.ok-2.result c.try_from-2.ensures c.ok-2.ensures.value c.in_err-ok-2.was (omega (arith, hs, ap (λ l. get_or l 1 0) e))))
