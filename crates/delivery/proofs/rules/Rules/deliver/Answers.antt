use Rattle.std.proofs.Common.{◌+◌, ◌≤◌, length, arith}
use Rattle.std.proofs.lemmas.List.{get_or_default}
use Rattle.delivery.proofs.Telling.{told_within, going_none, going_more, going_all}
use Rattle.delivery.proofs.rules.Rules.deliver.Goals as goal

pub loop-path-init : goal.loop-path-init
loop-path-init g c = going_none _ _ _ _ _ _ _ _ _

pub loop-path-preserved : goal.loop-path-preserved
loop-path-preserved g c =
    let t = c.loop-path.told in
    let room : t + 2 ≤ length c.loop-path.events = omega arith in
    going_more _ _ _ _ _ _ _ _ _ _ _ _ _ _ _ _ _ c.loop-path.invariant c.loop-path-test.true (get_or_default _ _ _ _ c.loop-path-test.true)
    (told_within _ c.loop-path.events c.follow-told.new.events _ t 2 c.follow-told.result room c.follow-told.auto.events c.follow-told.ensures)

pub returns : goal.returns
returns g c = going_all _ _ _ _ _ _ _ _ _ _ _ _ c.loop-path.path-index (omega arith) c.loop-path.invariant
