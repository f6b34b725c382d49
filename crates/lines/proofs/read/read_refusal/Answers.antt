use Rattle.std.proofs.Common.{[], ◌∷◌, get_or, refl, sym, ap, ◌∙◌, arith}
use Rattle.book.specs.Refusals.{fault_number}
use Rattle.lines.proofs.Marks.{no_refusal}
use Rattle.lines.proofs.Numbers.{same_numbers, converts, converted}
use Rattle.lines.proofs.read.read_refusal.Goals as goal

pub returns-in_err-number : goal.returns-in_err-number
returns-in_err-number c =
    rw c.from_residual.ensures
    (no_refusal c.args.bytes.now (λ f p hf are. c.in_err-number.ensures (fault_number f ∷ p ∷ []) refl are))

pub returns-in_err-ok : goal.returns-in_err-ok
returns-in_err-ok c =
    rw c.from_residual-in_err-ok.ensures
    (no_refusal c.args.bytes.now
    (λ f p hf are.
    let e = same_numbers c.args.bytes.now c.in_ok-number.field-0 (fault_number f ∷ p ∷ []) c.in_ok-number.ensures are in
    converts _ _ c.try_from.result c.ok.result c.try_from.ensures c.ok.ensures.value c.in_err-ok.was (omega (arith, hf, ap (λ l. get_or l 0 0) e))))

pub returns-in_err-fault : goal.returns-in_err-fault
returns-in_err-fault c =
    rw c.from_residual-in_err-fault.ensures
    (no_refusal c.args.bytes.now
    (λ f p hf are.
    let e = same_numbers c.args.bytes.now c.in_ok-number.field-0 (fault_number f ∷ p ∷ []) c.in_ok-number.ensures are in
    let n = converted _ _ c.try_from.result c.ok.result c.in_ok-ok.field-0 c.try_from.ensures c.ok.ensures.value c.in_ok-ok.was in
    c.in_err-fault.ensures f (sym (n ∙ ap (λ l. get_or l 0 0) e))))
