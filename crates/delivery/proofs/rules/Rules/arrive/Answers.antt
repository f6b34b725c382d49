use Rattle.std.proofs.Common.{◌≡◌, suc, ◌-◌, length, Some, None, sym, ap, ◌∙◌, ⊎_elim, arith}
use lib.ListN.{length-map}
use Rattle.delivery.specs.Known.{only_known, known_net}
use Rattle.delivery.proofs.Telling.{told_same, told_one, told_two, unheard_outside, unheard_past, heard_at, heard_event, unheard_event}
use Rattle.delivery.proofs.rules.Rules.arrive.Goals as goal

pub returns-then-hearer-eq0 : goal.returns-then-hearer-eq0
returns-then-hearer-eq0 g c =
    let net = known_net g.M.Machine.meaning c.args.self.now in
    let path = c.args.path in
    let many : length net.stations ≡ length (g.M.Machine.meaning c.args.self.now.machine) = length-map (g.M.Machine.meaning c.args.self.now.machine) only_known in
    told_same _ _ c.args.events.now _ c.args.states.now 0 2 _
    (⊎_elim
    (λ z. unheard_outside net.stations net.parts c.args.states.now path.hearer path.hearer_port c.args.value z)
    (λ w. unheard_past net.stations net.parts c.args.states.now path.hearer path.hearer_port c.args.value
    (let l = w.1 in omega (arith, c.requires.there)))
    c.then-hearer-eq0.either)
    (told_one c.args.events.now c.args.states.now 0 2 _ (omega arith) (omega arith))

pub returns-in_default : goal.returns-in_default
returns-in_default g c =
    let net = known_net g.M.Machine.meaning c.args.self.now in
    let path = c.args.path in
    let z : path.hearer ≡ suc (path.hearer - 1) = omega arith in
    told_same _ _ c.args.events.now _ c.args.states.now 0 2 _
    (unheard_event net.stations c.args.states.now path.hearer_port c.args.value (path.hearer - 1) _ z
    ∙ heard_at net.stations net.parts c.args.states.now path.hearer path.hearer_port c.args.value (path.hearer - 1) z
    None (sym c.in_default.is ∙ c.heard.ensures))
    (told_one c.args.events.now c.args.states.now 0 2 _ (omega arith) (omega arith))

pub returns : goal.returns
returns g c =
    let net = known_net g.M.Machine.meaning c.args.self.now in
    let path = c.args.path in
    let z : path.hearer ≡ suc (path.hearer - 1) = omega arith in
    told_same _ _ c.args.events.now _ _ 0 2 _
    (heard_event net.stations c.args.states.now path.hearer_port c.args.value (path.hearer - 1) _ c.in-Some.stance _ z
    (ap (λ x. x.phase) c.stance_of.ensures)
    ∙ heard_at net.stations net.parts c.args.states.now path.hearer path.hearer_port c.args.value (path.hearer - 1) z
    (Some c.in-Some.stance) c.in-Some.ensures)
    (told_two c.args.events.now _ 0 _ _ (omega arith))
