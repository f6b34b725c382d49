use Rattle.std.proofs.Common.{◌≡◌, ◌<◌, ◌++◌, length, take, drop, ap, ◌∙◌, ap₂, append-nil, arith}
use Rattle.std.proofs.lemmas.List.{length-take-le, drop_all}
use Rattle.semantics.specs.Calls.{created}
use Rattle.making.proofs.Openings.{opening_told, telling_more, telling_all}
use Rattle.making.proofs.tell_openings.Goals as goal

pub loop-place-preserved : goal.loop-place-preserved
loop-place-preserved g c =
    let ms = g.M.Machine.meaning c.args.machine.now in
    let slots = take c.stations.result c.args.events.now in
    let i = c.loop-place.place in
    let long : length slots ≡ c.stations.result = length-take-le c.stations.result c.args.events.now (omega arith) in
    let there : i < length ms = omega arith in
    telling_more ms slots c.loop-place.slots i c.loop-place.invariant _ _ there (omega arith) (omega arith)
    (opening_told ms (g.M.Machine.sound c.args.machine.now) i c.opening_at-stance.result c.stance_of.result there c.opening_at-stance.ensures c.stance_of.ensures)

pub returns : goal.returns
returns g c =
    let ms = g.M.Machine.meaning c.args.machine.now in
    let slots = take c.stations.result c.args.events.now in
    let long : length slots ≡ c.stations.result = length-take-le c.stations.result c.args.events.now (omega arith) in
    ap₂ (λ a k. a ++ drop k c.args.events.now)
    (telling_all ms slots c.loop-place.slots c.loop-place.place c.loop-place.invariant (omega arith)
    ∙ ap (λ z. created 1 ms ++ z) (drop_all (length ms) slots (omega arith)) ∙ append-nil (created 1 ms))
    c.stations.ensures
