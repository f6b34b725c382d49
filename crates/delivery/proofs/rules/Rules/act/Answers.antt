use Rattle.std.proofs.Common.{◌+◌, ◌≤◌, length, sym, ap, ◌∙◌, arith}
use Rattle.delivery.specs.Known.{known_net}
use Rattle.delivery.proofs.Telling.{told_within, told_acted, told_idle}
use Rattle.delivery.proofs.rules.Rules.act.Goals as goal

pub returns-in_default : goal.returns-in_default
returns-in_default g c =
    let net = known_net g.M.Machine.meaning c.args.self.now in
    told_idle net.stations net.parts c.args.paths.now c.args.place c.args.events.now c.args.events.now c.args.states.now c.args.states.now _
    (sym c.in_default.is ∙ ap (λ x. x.next_move) c.stance_of.ensures)

pub returns : goal.returns
returns g c =
    let net = known_net g.M.Machine.meaning c.args.self.now in
    let sent = c.send-told.new.events in
    let t = c.send-told.result in
    let room : t + 1 ≤ length sent = let h = c.send-told.ensures.high in omega arith in
    told_acted net.stations net.parts c.args.paths.now c.args.place c.args.events.now _ c.args.states.now _ _ c.in-Some.step _ _ _ _
    (sym c.in-Some.is ∙ ap (λ x. x.next_move) c.stance_of.ensures) c.send-told.ensures
    (told_within _ sent c.land.new.events _ t 1 c.land.result room c.land.auto.events c.land.ensures)
