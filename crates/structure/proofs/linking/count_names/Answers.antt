use Rattle.std.proofs.Common.{◌≡◌, length, arith, rules}
use Rattle.structure.proofs.Counts.{tallied_none, tallied_more, tallied_all}
use Rattle.structure.proofs.linking.count_names.Goals as goal

pub loop-i-init : goal.loop-i-init
loop-i-init g c = tallied_none _ _

pub loop-i-preserved : goal.loop-i-preserved
loop-i-preserved g c =
    let three : length c.links_of.result ≡ 3 = search rules in
    tallied_more _ _ _ _ _ _ c.loop-i.invariant c.loop-i-test.true three c.links_of.ensures c.count_on.auto.counts c.count_on.ensures
