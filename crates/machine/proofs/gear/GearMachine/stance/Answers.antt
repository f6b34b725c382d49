use Rattle.std.proofs.Common.{Some, ap, ◌∙◌}
use Rattle.machine.specs.Stances.{told}
use Rattle.machine.proofs.Asked.{gear_stance_told, lifetime_fits, unknown_stance, untold_stance}
use Rattle.machine.proofs.gear.GearMachine.stance.Goals as goal

pub returns-in_err-scale : goal.returns-in_err-scale
returns-in_err-scale g c =
    c.from_residual.ensures
    ∙ unknown_stance (g.M.Machine.meaning c.args.self.now.below) c.args.self.now.factors c.args.station c.args.stance
    (λ m. m.scale) told c.in_err-scale.ensures

pub returns-in_err-below : goal.returns-in_err-below
returns-in_err-below g c =
    c.from_residual-in_err-below.ensures
    ∙ untold_stance (g.M.Machine.meaning c.args.self.now.below) c.args.self.now.factors c.args.station c.args.stance c.in_err-below.ensures

pub in_finer_ticks-requires : goal.in_finer_ticks-requires
in_finer_ticks-requires g c =
    lifetime_fits (g.M.Machine.meaning c.args.self.now.below) (g.M.Machine.sound c.args.self.now.below) c.args.self.now.factors
    c.args.station c.in_ok-scale.scale c.factor_in_use-factor.result c.in_ok-scale.ensures c.factor_in_use-factor.ensures
    c.args.stance c.in_ok-below.below c.in_ok-below.ensures

pub returns : goal.returns
returns g c =
    ap Some c.in_finer_ticks.ensures
    ∙ gear_stance_told (g.M.Machine.meaning c.args.self.now.below) (g.M.Machine.sound c.args.self.now.below) c.args.self.now.factors
    c.args.station c.in_ok-scale.scale c.factor_in_use-factor.result c.in_ok-scale.ensures c.factor_in_use-factor.ensures
    c.args.stance c.in_ok-below.below c.in_ok-below.ensures
