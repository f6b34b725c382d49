use Rattle.std.proofs.Common.{◌∙◌, arith}
use Rattle.delivery.proofs.Learned.{heard_told}
use Rattle.delivery.proofs.rules.Rules.heard.Goals as goal

pub returns : goal.returns
returns g c =
    let x = c.args.self.now in
    c.flatten.ensures
    ∙ heard_told (g.M.Machine.meaning x.machine) (g.M.Machine.sound x.machine) c.args.place _ _ _ _ _ _ (omega arith) x.parts.some x.parts.few _ c.hearing.ensures
