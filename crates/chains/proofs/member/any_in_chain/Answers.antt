use Rattle.std.proofs.Common.{ℕ, ◌∙◌}
use Rattle.std.proofs.lemmas.Iterator.Consumers.{YieldsList-from_first, YieldsList-from_enumerate, YieldsList-at}
use Rattle.std.proofs.lemmas.Iterator.Search.{any_from_yields_List}
use Rattle.links.specs.Walks.{left}
use Rattle.visits.specs.Visits.{followed}
use Rattle.chains.proofs.Members.{any_some}
use Rattle.chains.proofs.member.any_in_chain.Goals as goal

pub returns : goal.returns
returns g c passes acts =
    let ks = followed c.args.book.now c.args.first in
    let road = YieldsList-from_enumerate (YieldsList-at c.enumerate.ensures.source (YieldsList-from_first (λ x. x) left ks c.followed.ensures.records)) c.enumerate.ensures.count in
    any_from_yields_List (λ (p : ℕ × ℕ). passes p.0 p.1) c.any.new.self _ c.any.result c.any.ensures.ran road acts ∙ any_some passes 0 ks
