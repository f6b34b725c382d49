use Rattle.std.proofs.Common.{rules, ap, ◌∙◌}
use Rattle.book.specs.Bytes.{two}
use Rattle.semantics.specs.Times.{whole}
use Rattle.visits.specs.Visits.{followed}
use Rattle.pairs.specs.Pairs.{meeting_another}
use Rattle.automaton_windows.specs.Rules.{hearing_at}
use Rattle.automaton_windows.proofs.shares_moment.Goals as goal

pub returns : goal.returns
returns c =
    let b = c.args.book.now in
    let heard = hearing_at b c.args.l in
    c.meets_another.ensures heard (λ k r q h. (search rules, search rules))
    ∙ ap (λ i. meeting_another whole heard c.args.t (followed b i)) (c.two_at-first.ensures ∙ ap (λ l. two l 4) c.row_of.ensures)
