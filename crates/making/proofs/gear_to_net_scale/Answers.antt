use Rattle.std.proofs.Common.{◌≡◌, Err, ap, ◌∙◌, rules}
use Rattle.delivery.proofs.Given.{given, not_given}
use Rattle.making.proofs.NetScale.{limit_passed, gear_made, refused_made}
use Rattle.making.proofs.gear_to_net_scale.Goals as goal

pub returns-in_err-scale : goal.returns-in_err-scale
returns-in_err-scale g c =
    let ms = g.M.Machine.meaning c.args.machine in
    let none = not_given c.common_scale.result c.at.result c.in_err-scale.field-0.0 c.in_err-scale.ensures.value in
    let is : c.from_residual.result ≡ Err c.in_err-scale.field-0.0 = search rules in
    refused_made g.M.Machine.meaning c.args.machine (g.M.Machine.sound c.args.machine) (limit_passed _ (none.0 ∙ c.common_scale.ensures)) c.from_residual.result
    (is ∙ ap Err (none.1 ∙ c.at.ensures))

pub returns : goal.returns
returns g c =
    let scale = given c.common_scale.result c.at.result c.in_ok-scale.scale c.in_ok-scale.ensures.value in
    gear_made g.M.Machine.meaning c.args.machine (g.M.Machine.sound c.args.machine) c.in_ok-scale.scale (scale ∙ c.common_scale.ensures)
    c.factors_to-factors.result c.factors_to-factors.ensures c.new.result c.new.ensures.value c.new.ensures.as_asked
