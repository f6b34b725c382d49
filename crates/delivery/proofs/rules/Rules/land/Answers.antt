use Rattle.std.proofs.Common.{sym, ap, ◌∙◌, arith}
use Rattle.semantics.specs.Machine.{meaning_at}
use Rattle.delivery.specs.Known.{known_net}
use Rattle.delivery.proofs.Telling.{landed_busy, landed_quiet}
use Rattle.delivery.proofs.rules.Rules.land.Goals as goal

pub returns-then-info : goal.returns-then-info
returns-then-info g c =
    let next = c.args.next in
    landed_busy c.args.place next.stance next.elapsed ((meaning_at (known_net g.M.Machine.meaning c.args.self.now).stations c.args.place).stance next.stance)
    c.args.events.now c.args.states.now 0 (sym c.if-info.true ∙ ap (λ x. x.busy) c.stance_of-info.ensures)

pub returns : goal.returns
returns g c =
    let next = c.args.next in
    landed_quiet c.args.place next.stance next.elapsed ((meaning_at (known_net g.M.Machine.meaning c.args.self.now).stations c.args.place).stance next.stance)
    c.args.events.now c.args.states.now 0 _ _ (omega arith)
    (ap (λ x. x.phase) c.stance_of-info.ensures) (omega arith) (sym c.if-info.false ∙ ap (λ x. x.busy) c.stance_of-info.ensures)
