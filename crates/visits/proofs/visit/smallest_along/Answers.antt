use Rattle.std.proofs.Common.{ℕ, sym, ◌∙◌}
use Rattle.std.proofs.lemmas.Iterator.Adapters.{option_map_id}
use Rattle.std.proofs.lemmas.Iterator.Consumers.{YieldsList-from_first, YieldsList-from_enumerate, YieldsList-from_filter_map, YieldsList-at, min_from_yields_List}
use Rattle.links.specs.Walks.{left}
use Rattle.visits.specs.Smallest.{smallest}
use Rattle.visits.specs.Visits.{followed}
use Rattle.visits.proofs.Least.{min_along}
use Rattle.visits.proofs.visit.smallest_along.Goals as goal

pub returns : goal.returns
returns g c found acts =
    let ks = followed c.args.book.now c.args.first in
    let road = YieldsList-from_filter_map _ (λ (p : ℕ × ℕ). smallest (found p.0 p.1))
    (YieldsList-at c.filter_map.ensures.source (YieldsList-from_enumerate (YieldsList-at c.enumerate.ensures.source (YieldsList-from_first (λ x. x) left ks c.followed.ensures.records)) c.enumerate.ensures.count))
    c.filter_map.ensures.closure acts in
    sym (option_map_id c.min.result) ∙ min_from_yields_List c.filter_map.result c.min.result c.min.ensures.ran road ∙ min_along found ks
