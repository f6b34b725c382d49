use Rattle.std.proofs.Common.{◌≡◌, suc, ◌+◌, length, Some, None, sym, ap, ◌∙◌, arith, rules}
use Rattle.gearing.specs.Gearing.{misfit_at}
use Rattle.semantics.specs.Calls.{number}
use Rattle.semantics.proofs.Lowest.{is_lowest}
use Rattle.machine.proofs.Lowest.{lowest_from_find}
use Rattle.machine.proofs.gear.lowest_misfit.Goals as goal

pub returns-in_err-place : goal.returns-in_err-place
returns-in_err-place g c =
    let p = misfit_at (g.M.Machine.meaning c.args.below.now) c.args.factors.now in
    c.from_residual.ensures ∙ ap number (lowest_from_find p (length (g.M.Machine.meaning c.args.below.now)) _ _ _ None (search rules) c.in_err-place.ensures.ran (λ x b q k. search rules))

pub overflow_add-result : goal.overflow_add-result
overflow_add-result g c =
    let p = misfit_at (g.M.Machine.meaning c.args.below.now) c.args.factors.now in
    let few = (g.M.Machine.sound c.args.below.now).few_stations in
    let under =
    (is_lowest p 0 (length (g.M.Machine.meaning c.args.below.now)) c.in_ok-place.place
    (sym (lowest_from_find p (length (g.M.Machine.meaning c.args.below.now)) _ _ _ (Some c.in_ok-place.place) (search rules) c.in_ok-place.ensures.ran (λ x b q k. search rules)))).under
    in
    omega arith

pub returns : goal.returns
returns g c =
    let p = misfit_at (g.M.Machine.meaning c.args.below.now) c.args.factors.now in
    let next : c.in_ok-place.place + 1 ≡ suc c.in_ok-place.place = omega arith in
    ap Some next
    ∙ ap number (lowest_from_find p (length (g.M.Machine.meaning c.args.below.now)) _ _ _ (Some c.in_ok-place.place) (search rules) c.in_ok-place.ensures.ran (λ x b q k. search rules))
