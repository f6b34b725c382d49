use Rattle.std.proofs.Common.{◌∙◌, sym, refl}
use Rattle.gearing.proofs.Gearing.{geared_as_asked}
use Rattle.machine.proofs.gear.Gear.new.Goals as goal

pub returns : goal.returns
returns g c =
    let fit = sym c.lowest_misfit.ensures ∙ c.in_default.is in
    record {
      value = (fit, refl, refl);
      as_asked = geared_as_asked (g.M.Machine.meaning c.args.below) c.args.factors fit;
    }
