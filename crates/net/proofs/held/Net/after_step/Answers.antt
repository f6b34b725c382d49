use Rattle.std.proofs.Common.{◌≡◌, List, length, take, sym, ap, ◌∙◌, subst, arith}
use lib.ListN.{length-map}
use Rattle.std.proofs.lemmas.List.{length-take-le}
use Rattle.semantics.specs.declared.state.StationState.{StationState}
use Rattle.semantics.specs.Calls.{answer_call, step}
use Rattle.gearing.specs.Gearing.{geared_by}
use Rattle.delivery.specs.Known.{only_known}
use Rattle.calls.specs.Slots.{counted, written, state_of}
use Rattle.net.specs.Invariant.{Within}
use Rattle.net.specs.Nets.{net_of}
use Rattle.net.proofs.Tables.{front, length_front, within_front, within_take, step_within}
use Rattle.net.proofs.held.Net.after_step.Goals as goal

pub step-answer-requires : goal.step-answer-requires
step-answer-requires g c =
    let x = c.args.self.now in
    let n = c.count-stations.result in
    let many : length (take n x.table) ≡ n = length-take-le n x.table (omega (arith, x.long, c.count-stations.ensures.few)) in
    many ∙ c.count-stations.ensures.value ∙ length-map (geared_by (g.M.Machine.meaning x.rules.machine.below) x.rules.machine.factors) only_known

pub returns : goal.returns
returns g c =
    let x = c.args.self.now in
    let ps = c.args.paths.now in
    let es = c.args.events.now in
    let net = net_of g.M.Machine.meaning x in
    let n = c.count-stations.result in
    let is = c.count-stations.ensures.value in
    let states = c.step-answer.new.states in
    let many : length states ≡ n = c.step-answer.auto.states ∙ length-take-le n x.table (omega (arith, x.long, c.count-stations.ensures.few)) in
    let eq = ap (λ k. answer_call net ps (step (length es)) (state_of (take k x.table) x.total)) is in
    let kept =
    subst (λ (σ : List StationState). Within σ x.total) (sym (ap (λ t. t.stations) (c.step-answer.ensures.states_left x.total)))
    (step_within net ps (state_of (take n x.table) x.total) (within_take x.table n x.total x.within) (length es))
    in
    record {
      answer = c.step-answer.ensures.answer x.total ∙ ap (λ o. counted o.answer) eq;
      slots = c.step-answer.ensures.slots x.total ∙ ap (λ o. written o.answer es) eq;
      state =
          ap (λ σ. state_of σ x.total) (front states x.table n many (length net.stations) (sym is))
          ∙ c.step-answer.ensures.states_left x.total ∙ ap (λ o. o.state) eq;
      within = within_front states x.table n many x.total kept x.within;
      long = length_front states x.table n many x.long c.count-stations.ensures.few;
    }
