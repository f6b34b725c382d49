use Rattle.std.proofs.Common.{sym, ◌∙◌}
use Rattle.gearing.proofs.Gearing.{length_from}
use Rattle.machine.proofs.gear.GearMachine.stations.Goals as goal

pub returns : goal.returns
returns g c = c.stations.ensures ∙ sym (length_from 0 (g.M.Machine.meaning c.args.self.now.below) c.args.self.now.factors)
