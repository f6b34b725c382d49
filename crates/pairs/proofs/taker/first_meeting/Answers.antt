use Rattle.std.proofs.Common.{rules, sym, ◌∙◌}
use Rattle.std.specs.Bool.{then_some}
use Rattle.std.proofs.lemmas.Iterator.{YieldsList-from_slice}
use Rattle.std.proofs.lemmas.Iterator.Adapters.{option_map_id}
use Rattle.std.proofs.lemmas.Iterator.Consumers.{YieldsList-from_filter_map, YieldsList-at, min_from_yields_List}
use Rattle.pairs.specs.Pairs.{some_meets}
use Rattle.pairs.proofs.Meeting.{first_met}
use Rattle.pairs.proofs.taker.first_meeting.Goals as goal

pub returns : goal.returns
returns g c =
    let time = g.T.Time.time in
    let all = c.args.takers.now in
    sym (option_map_id c.min.result)
    ∙ min_from_yields_List c.filter_map.result c.min.result c.min.ensures.ran
    (YieldsList-from_filter_map _ (λ x. then_some (some_meets time x all) x.edge)
    (YieldsList-at c.filter_map.ensures.source (YieldsList-from_slice all cc))
    c.filter_map.ensures.closure (λ x r q k. search rules))
    ∙ first_met time all all
