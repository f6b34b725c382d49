use Rattle.std.proofs.Common.{sym, ◌∙◌, arith}
use lib.ListN.{length-map}
use Rattle.gearing.specs.Gearing.{geared_by}
use Rattle.gearing.proofs.Gearing.{geared_sound}
use Rattle.delivery.specs.Known.{only_known}
use Rattle.net.proofs.table.count.Goals as goal

pub returns : goal.returns
returns g c =
    let ms = g.M.Machine.meaning c.args.machine.now.below in
    let fs = c.args.machine.now.factors in
    let few = (geared_sound ms fs (g.M.Machine.sound c.args.machine.now.below)).few_stations in
    record { value = c.stations.ensures ∙ sym (length-map (geared_by ms fs) only_known); few = omega (arith, c.stations.ensures) }
