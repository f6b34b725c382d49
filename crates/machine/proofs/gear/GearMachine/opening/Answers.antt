use Rattle.gearing.proofs.Gearing.{geared_station}
use Rattle.machine.proofs.gear.GearMachine.opening.Goals as goal

pub returns : goal.returns
returns g c =
    let geared = geared_station (g.M.Machine.meaning c.args.self.now.below) c.args.self.now.factors c.args.station (λ m. m.opening) in
    cc
