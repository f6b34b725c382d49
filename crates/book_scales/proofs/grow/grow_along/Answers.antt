use Rattle.std.proofs.lemmas.Iterator.Consumers.{YieldsList-from_first, fold_from_yields_List}
use Rattle.std.proofs.Common.{◌∙◌}
use Rattle.links.specs.Walks.{left}
use Rattle.scales.specs.Limited.{grown_all}
use Rattle.visits.specs.Visits.{followed}
use Rattle.book_scales.proofs.Growing.{grown_along}
use Rattle.book_scales.proofs.grow.grow_along.Goals as goal

pub returns : goal.returns
returns g c standing acts =
    let ks = followed c.args.book.now c.args.first in
    fold_from_yields_List _ (λ scale k. grown_all scale (standing k)) c.args.start c.fold.result c.fold.ensures.ran (YieldsList-from_first (λ x. x) left ks c.followed.ensures.records) acts
    ∙ grown_along standing c.args.start ks
