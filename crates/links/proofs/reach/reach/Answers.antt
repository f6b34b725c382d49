use Rattle.std.proofs.Common.{◌+◌, ◌≤◌, arith}
use Rattle.links.proofs.Meeting.{reaching_start, reaching_whole, reaching_more, reach_told, queue_few}
use Rattle.links.proofs.reach.reach.Goals as goal

pub loop-seen-init : goal.loop-seen-init
loop-seen-init g c = reaching_start _ _ _ _ c.if-list-records.false c.if-marks-records.false _ c.unmark.ensures

pub overflow_add-seen : goal.overflow_add-seen
overflow_add-seen g c = omega (arith, queue_few _ _ _ _ c.loop-seen.invariant.queue, c.loop-seen-test.true, c.loop-seen.invariant.queue.within)

pub loop-seen-smaller : goal.loop-seen-smaller
loop-seen-smaller g c =
    let few : c.loop-seen.count ≤ c.saturating_sub-records.result + 1 = queue_few _ _ _ _ c.loop-seen.invariant.queue in
    omega (arith, c.loop-seen-test.true)

pub loop-seen-preserved : goal.loop-seen-preserved
loop-seen-preserved g c = reaching_more _ _ _ _ _ _ _ _ _ _ _ _ c.loop-seen.invariant c.loop-seen-test.true c.links_of-links.ensures c.meet_all-count.ensures

pub returns : goal.returns
returns g c =
    let whole = reaching_whole _ _ _ _ c.if-list-records.false c.if-marks-records.false _ c.unmark.ensures _ _ _ _ c.loop-seen.invariant in
    let told = reach_told g.R.Linked.links c.args.book.now _ _ _ _ _ _ _ c.saturating_sub-records.ensures c.if-list-records.false c.if-marks-records.false whole c.loop-seen-test.false in
    record { answer = told.answer; slots = told.slots; flags = told.flags; within = told.within }
