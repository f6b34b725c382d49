use Rattle.std.proofs.Common.{◌∙◌}
use Rattle.machine.proofs.Asked.{gear_hearing, too_fine, unknown_hearing}
use Rattle.machine.proofs.gear.GearMachine.hearing.Goals as goal

pub returns-in_err-scale : goal.returns-in_err-scale
returns-in_err-scale g c =
    c.from_residual.ensures
    ∙ unknown_hearing (g.M.Machine.meaning c.args.self.now.below) c.args.self.now.factors c.args.station (g.M.Machine.sound c.args.self.now.below)
    c.args.stance c.args.word.port c.args.word.value c.args.elapsed c.args.per_tick (λ m. m.scale) c.in_err-scale.ensures

pub returns-then-per_tick-gt1000000000 : goal.returns-then-per_tick-gt1000000000
returns-then-per_tick-gt1000000000 g c = too_fine _ c.args.station c.args.stance c.args.word.port c.args.word.value c.args.elapsed c.args.per_tick c.if-per_tick-gt1000000000.true

pub returns : goal.returns
returns g c =
    c.hearing.ensures
    ∙ gear_hearing (g.M.Machine.meaning c.args.self.now.below) (g.M.Machine.sound c.args.self.now.below) c.args.self.now.factors
    c.args.station c.in_ok-scale.scale c.factor_in_use-factor.result c.in_ok-scale.ensures c.factor_in_use-factor.ensures
    c.args.stance c.args.word.port c.args.word.value c.args.elapsed c.args.per_tick
