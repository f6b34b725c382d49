use Rattle.std.proofs.Common.{rules, ◌≡◌, take, ap, ◌∙◌}
use Rattle.links.specs.Walks.{left}
use Rattle.visits.specs.Visits.{stations, followed}
use Rattle.places.proofs.Stations.{filled_none, take_first, take_none, filled_more, filled_all}
use Rattle.places.proofs.table.Places.over.Goals as goal

pub loop-i-init : goal.loop-i-init
loop-i-init g c =
    let it = c.into_iter-i-iterator.result in
    let b = c.args.book.now in
    let same = c.into_iter-i-iterator.ensures.into_iter_gives in
    let chain : left it.iter.iter ≡ stations b = ap (λ e. left e.iter.iter) same ∙ ap (λ t. left t.iter) c.enumerate-i-items.ensures.source ∙ ap left c.take.ensures.source ∙ c.followed.ensures.records ∙ ap (followed b) c.two_at.ensures in
    let most : it.iter.n ≡ 16 = ap (λ e. e.iter.n) same ∙ ap (λ t. t.n) c.enumerate-i-items.ensures.source ∙ c.take.ensures.count in (
      search rules,
      tt,
      filled_none b (stations b) (take it.iter.n (left it.iter.iter)) it.count c.default-rows.result
          (ap (take it.iter.n) chain ∙ ap (λ n. take n (stations b)) most) (ap (λ e. e.count) same ∙ c.enumerate-i-items.ensures.count) (search rules),
    )

pub loop-i-preserved : goal.loop-i-preserved
loop-i-preserved g c =
    let done = c.put_phases-count.ensures in
    let f = c.loop-i.invariant.2 in (
      search rules,
      tt,
      filled_more _ _ _ _ _ _ _ _ _ f _ _ _ c.in-Some.s _ c.in-Some.i _ (take_first _ _ _ _ _ (search rules) (search rules)) (search rules) (search rules)
          done.count done.few c.put_phases-count.auto.records c.put_phases-count.auto.places done.listing done.placing,
    )

pub returns : goal.returns
returns g c = filled_all _ _ _ _ _ _ _ _ _ c.loop-i.invariant.2 (take_none _ _ (search rules))
