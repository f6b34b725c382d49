use Rattle.std.proofs.Common.{◌≡◌, ◌+◌, Some, None, sym, ap, ◌∙◌, arith, rules}
use Rattle.std.specs.Option.{option_map}
use Rattle.std.proofs.lemmas.Iterator.{YieldsList-from_slice}
use Rattle.std.proofs.lemmas.Iterator.Search.{position_from_yields_List}
use Rattle.semantics.specs.Calls.{bad_path}
use Rattle.calls.proofs.Paths.{first_bad_at}
use Rattle.calls.proofs.first_bad_path.Goals as goal

pub returns-in_err-place : goal.returns-in_err-place
returns-in_err-place c =
    let bad = bad_path c.args.stations in
    c.from_residual.ensures
    ∙ ap (option_map (λ i. 1 + i)) (position_from_yields_List bad _ _ None c.in_err-place.ensures.ran (YieldsList-from_slice c.args.paths.now cc) (λ x b q k. search rules))
    ∙ sym (first_bad_at bad 1 c.args.paths.now)

pub returns : goal.returns
returns c =
    let bad = bad_path c.args.stations in
    let next : c.in_ok-place.place + 1 ≡ 1 + c.in_ok-place.place = omega arith in
    ap Some next
    ∙ ap (option_map (λ i. 1 + i))
    (position_from_yields_List bad _ _ (Some c.in_ok-place.place) c.in_ok-place.ensures.ran (YieldsList-from_slice c.args.paths.now cc) (λ x b q k. search rules))
    ∙ sym (first_bad_at bad 1 c.args.paths.now)
