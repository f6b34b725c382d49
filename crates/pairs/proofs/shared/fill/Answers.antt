use borrow.Author.Rules.{scaled_Fits}
use Rattle.std.proofs.Common.{rules, ◌≡◌, ◌<◌, length, take, slice_set, subst, sym, ◌∙◌, arith}
use Rattle.std.proofs.lemmas.List.{length_push}
use Rattle.std.proofs.lemmas.List.FromFn.{length-enumerate_from}
use Rattle.std.proofs.lemmas.Iterator.Consumers.{YieldsList-turn, YieldsList-end}
use Rattle.links.specs.Walks.{left}
use Rattle.pairs.specs.Pairs.{takers}
use Rattle.pairs.proofs.Tables.{places_road, numbered, fill_more, fill_all}
use Rattle.pairs.proofs.shared.fill.Goals as goal

pub bounds-table-i : goal.bounds-table-i
bounds-table-i g c =
    let es = left c.args.edges in
    let road = places_road c.args.edges c.into_iter-i-iterator.ensures.into_iter_gives c.enumerate-i-items.ensures.source c.enumerate-i-items.ensures.count in
    let here = numbered es _ (c.in-Some.i, c.in-Some.edge) (YieldsList-turn road c.loop-i.yielded c.loop-i.i-iterator c.loop-i.yielded_by c.next.result c.next.new.self (c.in-Some.i, c.in-Some.edge) c.in-Some.is c.next.ensures.steps) in
    omega (arith, here.more, here.here, c.requires.room, c.loop-i.auto.table)

pub offset_bounds-table-i : goal.offset_bounds-table-i
offset_bounds-table-i g c =
    let es = left c.args.edges in
    let road = places_road c.args.edges c.into_iter-i-iterator.ensures.into_iter_gives c.enumerate-i-items.ensures.source c.enumerate-i-items.ensures.count in
    let here = numbered es _ (c.in-Some.i, c.in-Some.edge) (YieldsList-turn road c.loop-i.yielded c.loop-i.i-iterator c.loop-i.yielded_by c.next.result c.next.new.self (c.in-Some.i, c.in-Some.edge) c.in-Some.is c.next.ensures.steps) in
    let low : c.in-Some.i < length c.loop-i.table = omega (arith, here.more, here.here, c.requires.room, c.loop-i.auto.table) in
    scaled_Fits _ (length c.loop-i.table) _ low (search rules)

pub loop-i-preserved : goal.loop-i-preserved
loop-i-preserved g c heard acts =
    let es = left c.args.edges in
    let road = places_road c.args.edges c.into_iter-i-iterator.ensures.into_iter_gives c.enumerate-i-items.ensures.source c.enumerate-i-items.ensures.count in
    let here = numbered es _ (c.in-Some.i, c.in-Some.edge) (YieldsList-turn road c.loop-i.yielded c.loop-i.i-iterator c.loop-i.yielded_by c.next.result c.next.new.self (c.in-Some.i, c.in-Some.edge) c.in-Some.is c.next.ensures.steps) in
    let filled = fill_more heard es c.loop-i.table (length c.loop-i.yielded) (c.loop-i.invariant heard acts) (c.in-Some.i, c.in-Some.edge) c.taker_of.result
    (omega (arith, here.more, c.requires.room, c.loop-i.auto.table)) here (c.taker_of.ensures heard acts) in
    subst (λ k. take k (slice_set c.loop-i.table c.in-Some.i c.taker_of.result) ≡ takers heard (take k es)) (sym (length_push c.loop-i.yielded (c.in-Some.i, c.in-Some.edge))) filled

pub returns : goal.returns
returns g c heard acts =
    let es = left c.args.edges in
    let road = places_road c.args.edges c.into_iter-i-iterator.ensures.into_iter_gives c.enumerate-i-items.ensures.source c.enumerate-i-items.ensures.count in
    let all = (YieldsList-end road c.loop-i.yielded c.loop-i.i-iterator c.loop-i.yielded_by c.next.result c.next.new.self c.in-None.is c.next.ensures.steps).1 in
    let same : length c.loop-i.yielded ≡ length es = all ∙ length-enumerate_from 0 es in
    fill_all heard es c.loop-i.table (length c.loop-i.yielded) (c.loop-i.invariant heard acts) (omega (arith, c.requires.room, c.loop-i.auto.table)) (omega arith)
