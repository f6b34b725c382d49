use Rattle.std.proofs.Common.{◌∙◌, arith}
use Rattle.machine.proofs.Asked.{gear_scale, product_fits, unknown_station}
use Rattle.machine.proofs.gear.GearMachine.scale.Goals as goal

pub returns-in_err-scale : goal.returns-in_err-scale
returns-in_err-scale g c =
    c.from_residual.ensures
    ∙ unknown_station (g.M.Machine.meaning c.args.self.now.below) c.args.self.now.factors c.args.station (λ m. m.scale) (λ m. m.scale) c.in_err-scale.ensures

pub overflow_mul-result : goal.overflow_mul-result
overflow_mul-result g c =
    let h =
    product_fits (g.M.Machine.meaning c.args.self.now.below) (g.M.Machine.sound c.args.self.now.below) c.args.self.now.factors
    c.args.station c.in_ok-scale.scale c.factor_in_use.result c.in_ok-scale.ensures c.factor_in_use.ensures
    in
    omega arith

pub returns : goal.returns
returns g c =
    gear_scale (g.M.Machine.meaning c.args.self.now.below) (g.M.Machine.sound c.args.self.now.below) c.args.self.now.factors
    c.args.station c.in_ok-scale.scale c.factor_in_use.result c.in_ok-scale.ensures c.factor_in_use.ensures
