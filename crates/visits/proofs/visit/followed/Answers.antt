use Rattle.std.proofs.Common.{◌≡◌, ◌≤◌, length, subst, sym, ap, ◌∙◌}
use Rattle.book.specs.Chains.{chain_of}
use Rattle.links.specs.Walks.{left}
use Rattle.visits.specs.Visits.{followed}
use Rattle.visits.proofs.Following.{followed_long, followed_short, followed_few}
use Rattle.visits.proofs.visit.followed.Goals.{then-records-gt-MOST, else-records-gt-MOST}
use Rattle.visits.proofs.visit.followed.Goals as goal

pub returns : goal.returns
returns g c =
    let b = c.args.book.now in
    let first = c.args.first in
    let n = c.saturating_sub-records.result in
    let same = c.saturating_sub-records.ensures in
    let records : left c.of.result ≡ followed b first = elim c.if-records-gt-MOST.branch [
      | then-records-gt-MOST w ↦ c.of.ensures.records ∙ ap (chain_of b) w.of-is ∙ followed_long b first n same w.if-records-gt-MOST.true
      | else-records-gt-MOST w ↦ c.of.ensures.records ∙ ap (chain_of b) w.of-is ∙ followed_short b first n same w.if-records-gt-MOST.false
    ] in
    record { records = records; few = subst (λ l. length l ≤ 2000) (sym records) (followed_few b first) }
