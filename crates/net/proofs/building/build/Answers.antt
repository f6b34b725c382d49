use Rattle.std.proofs.Common.{◌≡◌, ◌≤◌, List, length, Ok, Err, rules, sym, ap, ap₂, ◌∙◌, subst, arith}
use lib.ListN.{length-map}
use Rattle.semantics.specs.declared.state.StationState.{StationState}
use Rattle.semantics.specs.Calls.{bad_paths}
use Rattle.gearing.specs.Gearing.{geared_by}
use Rattle.gearing.proofs.Gearing.{geared_sound}
use Rattle.delivery.specs.Known.{only_known, learned}
use Rattle.calls.specs.Slots.{counted, written, state_of}
use Rattle.calls.specs.Slots as slots
use Rattle.making.proofs.Openings.{length_created}
use Rattle.net.specs.Invariant.{Within}
use Rattle.net.specs.Nets.{count_built}
use Rattle.net.proofs.Makings.{make_at_paths, make_at_room, make_at_parts, make_goes, wrong_parts, right_parts, as_many, created_written, opened_front, table_long, opened_within}
use Rattle.net.proofs.building.build.Goals as goal

pub returns-in-Some : goal.returns-in-Some
returns-in-Some g c =
    let ms = g.M.Machine.meaning c.args.machine in
    let ps = c.args.paths.now in
    let es = c.args.events.now in
    let made = c.in_ok-machine.ensures in
    let many = as_many ms _ made.2 in
    let eq =
    make_at_paths ms ps c.args.order c.args.parts (length es) made.0 c.in-Some.place
    (c.in-Some.ensures ∙ ap (λ n. bad_paths n ps) (c.stations-stations.ensures ∙ many))
    in
    record { answer = ap Err c.at.ensures ∙ ap counted eq; slots = ap (λ a. written a es) eq; net = tt }

pub returns-then-events-stations : goal.returns-then-events-stations
returns-then-events-stations g c =
    let ms = g.M.Machine.meaning c.args.machine in
    let ps = c.args.paths.now in
    let es = c.args.events.now in
    let made = c.in_ok-machine.ensures in
    let many = as_many ms _ made.2 in
    let eq =
    make_at_room ms ps c.args.order c.args.parts (length es) made.0
    (sym c.in_default.is ∙ c.first_bad_path.ensures ∙ ap (λ n. bad_paths n ps) (c.stations-stations.ensures ∙ many))
    (omega (arith, c.stations-stations.ensures, c.if-events-stations.true))
    in
    record { answer = ap Err c.at-then-events-stations.ensures ∙ ap counted eq; slots = ap (λ a. written a es) eq; net = tt }

pub returns-in_err-parts : goal.returns-in_err-parts
returns-in_err-parts g c =
    let ms = g.M.Machine.meaning c.args.machine in
    let ps = c.args.paths.now in
    let es = c.args.events.now in
    let made = c.in_ok-machine.ensures in
    let many = as_many ms _ made.2 in
    let wrong = c.in_err-parts.ensures in
    let eq =
    make_at_parts ms ps c.args.order c.args.parts (length es) made.0
    (sym c.in_default.is ∙ c.first_bad_path.ensures ∙ ap (λ n. bad_paths n ps) (c.stations-stations.ensures ∙ many))
    (omega (arith, c.stations-stations.ensures, c.if-events-stations.false))
    (wrong_parts c.args.parts wrong.0)
    in
    let is : c.from_residual-in_err-parts.result ≡ Err c.in_err-parts.field-0.0 = search rules in
    let refused_is = is ∙ ap Err wrong.1 in
    record { answer = ap (count_built g.M.Machine.meaning) refused_is ∙ ap counted eq; slots = ap (λ a. written a es) eq; net = rw refused_is tt }

pub invariant_of-result : goal.invariant_of-result
invariant_of-result g c =
    let x = c.in_ok-machine.machine in
    let finer = geared_by (g.M.Machine.meaning x.below) x.factors in
    let few = (geared_sound (g.M.Machine.meaning x.below) x.factors (g.M.Machine.sound x.below)).few_stations in
    let is = c.opening_states-table.ensures in
    record {
      long = ap length is ∙ table_long finer few;
      fits = omega arith;
      within = subst (λ (t : List StationState). Within t 0) (sym is) (opened_within _ finer);
    }

pub returns : goal.returns
returns g c =
    let ms = g.M.Machine.meaning c.args.machine in
    let x = c.in_ok-machine.machine in
    let ps = c.args.paths.now in
    let es = c.args.events.now in
    let made = c.in_ok-machine.ensures in
    let many = as_many ms _ made.2 in
    let parts = c.in_ok-parts.parts in
    let is : parts.number ≡ c.args.parts = c.in_ok-parts.ensures in
    let some : 1 ≤ c.args.parts = omega (arith, parts.some) in
    let few : c.args.parts ≤ 1000 = omega (arith, parts.few) in
    let eq =
    make_goes ms ps c.args.order c.args.parts (length es) made.0
    (sym c.in_default.is ∙ c.first_bad_path.ensures ∙ ap (λ n. bad_paths n ps) (c.stations-stations.ensures ∙ many))
    (omega (arith, c.stations-stations.ensures, c.if-events-stations.false))
    (right_parts c.args.parts some few)
    in
    record {
      answer = ap Ok (length-map (geared_by (g.M.Machine.meaning x.below) x.factors) only_known ∙ many ∙ sym (length_created 1 ms)) ∙ ap counted eq;
      slots = c.tell_openings.ensures ∙ created_written ms _ made.2 es ∙ ap (λ a. written a es) eq;
      net = record {
        over = made.1;
        net = ap₂ (λ y q. slots.net_of (learned y) c.args.order q) made.2 is;
        state = ap (λ σ. state_of σ 0) (opened_front ms _ made.2 c.opening_states-table.result c.opening_states-table.ensures);
      };
    }
