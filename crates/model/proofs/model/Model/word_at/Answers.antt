use Rattle.std.proofs.Common.{rules, Some, ap, ◌∙◌}
use Rattle.records.specs.Model.{word_in}
use Rattle.model.proofs.Words.{word_told}
use Rattle.model.proofs.model.Model.word_at.Goals as goal

pub returns-in_err-found : goal.returns-in_err-found
returns-in_err-found c =
    c.from_residual.ensures
    ∙ word_told _ c.args.k c.args.place c.phase_at-phase.result _ c.phase_at-phase.ensures c.if-is_endless.ensures (c.in_err-found.ensures _ (λ x r q k. search rules))

pub returns : goal.returns
returns c =
    ap Some (c.word_in.ensures ∙ ap word_in c.parts_at.ensures.rest)
    ∙ word_told _ c.args.k c.args.place c.phase_at-phase.result _ c.phase_at-phase.ensures c.if-is_endless.ensures (c.in_ok-found.ensures _ (λ x r q k. search rules))
