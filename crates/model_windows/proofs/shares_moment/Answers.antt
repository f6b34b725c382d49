use Rattle.std.proofs.Common.{rules, ℕ, Some, ap, ◌∙◌}
use Rattle.book.specs.Bytes.{two}
use Rattle.semantics.specs.Times.{itself}
use Rattle.visits.specs.Visits.{followed}
use Rattle.pairs.specs.Pairs.{meeting_another}
use Rattle.model_windows.specs.Rules.{hearing_at}
use Rattle.model_windows.proofs.shares_moment.Goals as goal

pub returns : goal.returns
returns c =
    let b = c.args.book.now in
    let heard = λ (k : ℕ). Some (hearing_at b c.args.p k) in
    c.meets_another.ensures heard (λ k r q h. (search rules, search rules))
    ∙ ap (λ i. meeting_another itself heard c.args.e (followed b i)) (c.two_at-first.ensures ∙ ap (λ l. two l 4) c.row_of.ensures)
