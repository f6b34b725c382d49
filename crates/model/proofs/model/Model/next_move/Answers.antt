use Rattle.std.proofs.Common.{rules, ap, ◌∙◌}
use Rattle.book.specs.declared.record.Phase.{Phase}
use Rattle.semantics.specs.Meanings.{stance_number}
use Rattle.places.specs.Tables.{place_of}
use Rattle.model.proofs.Words.{move_more, move_last}
use Rattle.model.proofs.model.Model.next_move.Goals as goal

pub returns-then-is_some : goal.returns-then-is_some
returns-then-is_some c = move_more _ c.args.k c.args.place c.args.sent _ c.word_at-word.result c.word_at-word.ensures (search rules)

pub returns-else-is_some : goal.returns-else-is_some
returns-else-is_some c =
    let place = c.place_of.ensures ∙ ap (λ (p : Phase). place_of c.args.self.now.places p.next_phase) c.phase_at.ensures in
    let next = c.quiet_number-next.ensures ∙ ap (λ n. stance_number n 0) place in
    move_last _ c.args.k c.args.place c.args.sent _ c.word_at-word.result c.word_at-word.ensures c.quiet_number-next.result next (search rules)
