use Rattle.std.proofs.Common.{[], ◌∷◌, get_or, refl, ap, arith}
use Rattle.lines.proofs.Marks.{no_event}
use Rattle.lines.proofs.Numbers.{same_numbers, converts}
use Rattle.lines.proofs.read.read_event.Goals as goal

pub returns-in_err-station : goal.returns-in_err-station
returns-in_err-station c =
    rw c.from_residual.ensures
    (no_event c.args.kind c.args.bytes.now (λ s p v hs hp hv are. c.in_err-station.ensures (s ∷ p ∷ v ∷ []) refl are))

pub returns-in_err-ok : goal.returns-in_err-ok
returns-in_err-ok c =
    rw c.from_residual-in_err-ok.ensures
    (no_event c.args.kind c.args.bytes.now
    (λ s p v hs hp hv are.
    let e = same_numbers c.args.bytes.now c.in_ok-station.field-0 (s ∷ p ∷ v ∷ []) c.in_ok-station.ensures are in
    converts _ _ c.try_from.result c.ok.result c.try_from.ensures c.ok.ensures.value c.in_err-ok.was (omega (arith, hs, ap (λ l. get_or l 0 0) e))))

pub returns-in_err-ok-2 : goal.returns-in_err-ok-2
returns-in_err-ok-2 c =
    rw c.from_residual-in_err-ok-2.ensures
    (no_event c.args.kind c.args.bytes.now
    (λ s p v hs hp hv are.
    let e = same_numbers c.args.bytes.now c.in_ok-station.field-0 (s ∷ p ∷ v ∷ []) c.in_ok-station.ensures are in
    converts _ _ c.try_from-2.result c.ok-2.result c.try_from-2.ensures c.ok-2.ensures.value c.in_err-ok-2.was (omega (arith, hp, ap (λ l. get_or l 1 0) e))))

pub returns-in_err-ok-3 : goal.returns-in_err-ok-3
returns-in_err-ok-3 c =
    rw c.from_residual-in_err-ok-3.ensures
    (no_event c.args.kind c.args.bytes.now
    (λ s p v hs hp hv are.
    let e = same_numbers c.args.bytes.now c.in_ok-station.field-0 (s ∷ p ∷ v ∷ []) c.in_ok-station.ensures are in
    converts _ _ c.try_from-3.result c.ok-3.result c.try_from-3.ensures c.ok-3.ensures.value c.in_err-ok-3.was (omega (arith, hv, ap (λ l. get_or l 2 0) e))))
