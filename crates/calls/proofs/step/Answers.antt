use Rattle.std.proofs.Common.{◌≡◌, ℕ, ◌≤◌, length, Some, None, Ok, Err, sym, ap, ◌∙◌, arith, rules}
use lib.ListN.{length-map}
use Rattle.delivery.specs.Known.{only_known, known_net}
use Rattle.delivery.proofs.Given.{given, not_given}
use Rattle.calls.specs.Slots.{counted, written, state_of, turn, opening}
use Rattle.calls.proofs.Paths.{passed_room}
use Rattle.calls.proofs.Steps.{step_refused, step_goes, told_count, told_written, turn_under}
use Rattle.calls.proofs.step.Goals as goal

pub returns-in_err-test_paths : goal.returns-in_err-test_paths
returns-in_err-test_paths g c =
    let net = known_net g.M.Machine.meaning c.args.rules.now in
    let ps = c.args.paths.now in
    let es = c.args.events.now in
    let σ = c.args.states.now in
    let as_many : length σ ≡ length net.stations = c.requires ∙ sym (length-map (g.M.Machine.meaning c.args.rules.now.machine) only_known) in
    let is : c.from_residual.result ≡ Err c.in_err-test_paths.field-0.0 = search rules in
    let eq = λ (t : ℕ). step_refused net ps (length es) (state_of σ t) _ (c.in_err-test_paths.ensures ∙ ap (λ n. opening n ps (length es)) as_many) in
    record { answer = λ t. is ∙ ap (λ o. counted o.answer) (eq t); states_left = λ t. ap (λ o. o.state) (eq t); slots = λ t. ap (λ o. written o.answer es) (eq t) }

pub returns-in_err-place : goal.returns-in_err-place
returns-in_err-place g c =
    let net = known_net g.M.Machine.meaning c.args.rules.now in
    let ps = c.args.paths.now in
    let es = c.args.events.now in
    let σ = c.args.states.now in
    let as_many : length σ ≡ length net.stations = c.requires ∙ sym (length-map (g.M.Machine.meaning c.args.rules.now.machine) only_known) in
    let none = not_given c.next_to_act.result c.at.result c.in_err-place.field-0.0 c.in_err-place.ensures.value in
    let is : c.from_residual-in_err-place.result ≡ Err c.in_err-place.field-0.0 = search rules in
    let eq = λ (t : ℕ).
    step_goes net ps (length es) (state_of σ t) (c.in_ok-test_paths.ensures ∙ ap (λ n. opening n ps (length es)) as_many) None
    (none.0 ∙ c.next_to_act.ensures ∙ ap (turn net.stations net.parts σ) as_many)
    in
    record {
      answer = λ t. is ∙ ap Err (none.1 ∙ c.at.ensures) ∙ ap (λ o. counted o.answer) (eq t);
      states_left = λ t. ap (λ o. o.state) (eq t);
      slots = λ t. ap (λ o. written o.answer es) (eq t);
    }

pub act-requires : goal.act-requires
act-requires g c =
    let net = known_net g.M.Machine.meaning c.args.rules.now in
    let place = given c.next_to_act.result _ c.in_ok-place.place c.in_ok-place.ensures.value in
    let room = passed_room _ (length c.args.events.now) _ c.in_ok-test_paths.ensures in
    record {
      there = (c.requires, turn_under net.stations net.parts c.args.states.now _ c.in_ok-place.place (place ∙ c.next_to_act.ensures));
      room = room;
    }

pub returns : goal.returns
returns g c =
    let net = known_net g.M.Machine.meaning c.args.rules.now in
    let ps = c.args.paths.now in
    let es = c.args.events.now in
    let σ = c.args.states.now in
    let as_many : length σ ≡ length net.stations = c.requires ∙ sym (length-map (g.M.Machine.meaning c.args.rules.now.machine) only_known) in
    let place = given c.next_to_act.result _ c.in_ok-place.place c.in_ok-place.ensures.value in
    let eq = λ (t : ℕ).
    step_goes net ps (length es) (state_of σ t) (c.in_ok-test_paths.ensures ∙ ap (λ n. opening n ps (length es)) as_many) (Some c.in_ok-place.place)
    (place ∙ c.next_to_act.ensures ∙ ap (turn net.stations net.parts σ) as_many)
    in
    let room = passed_room _ (length es) _ c.in_ok-test_paths.ensures in
    let h : c.act.result ≤ length c.act.new.events = omega (arith, c.act.ensures.high, c.act.auto.events) in
    record {
      answer = λ t. ap Ok (told_count _ es _ _ _ _ h c.act.ensures) ∙ ap (λ o. counted o.answer) (eq t);
      states_left = λ t. ap (λ τ. state_of τ t) c.act.ensures.left ∙ ap (λ o. o.state) (eq t);
      slots = λ t. told_written _ es _ _ _ _ h c.act.ensures ∙ ap (λ o. written o.answer es) (eq t);
    }
