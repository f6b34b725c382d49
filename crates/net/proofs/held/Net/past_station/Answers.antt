use Rattle.std.proofs.Common.{◌≡◌, suc, ◌+◌, length, Some, None, ap, ◌∙◌, arith}
use Rattle.semantics.specs.Net.{past_at}
use Rattle.semantics.specs.Calls.{lowest}
use Rattle.net.specs.Nets.{net_of, state_of}
use Rattle.net.proofs.Asked.{place_under, searched}
use Rattle.net.proofs.held.Net.past_station.Goals as goal

pub returns-in_err-place : goal.returns-in_err-place
returns-in_err-place g c =
    let net = net_of g.M.Machine.meaning c.args.self.now in
    let state = state_of g.M.Machine.meaning c.args.self.now in
    c.from_residual.ensures
    ∙ searched (past_at net.stations net.parts state.stations c.args.more) _ (length net.stations) c.states.ensures.long None (c.in_err-place.ensures ∙ ap (λ σ. lowest (past_at net.stations net.parts σ c.args.more) 0 (length c.states.result.now)) c.states.ensures.value)

pub overflow_add-result : goal.overflow_add-result
overflow_add-result g c =
    let net = net_of g.M.Machine.meaning c.args.self.now in
    let under = place_under (past_at net.stations net.parts c.states.result.now c.args.more) _ _ c.in_ok-place.ensures in
    omega (arith, c.states.ensures.few)

pub returns : goal.returns
returns g c =
    let net = net_of g.M.Machine.meaning c.args.self.now in
    let state = state_of g.M.Machine.meaning c.args.self.now in
    let next : c.in_ok-place.place + 1 ≡ suc c.in_ok-place.place = omega arith in
    ap Some next
    ∙ searched (past_at net.stations net.parts state.stations c.args.more) _ (length net.stations) c.states.ensures.long (Some c.in_ok-place.place)
    (c.in_ok-place.ensures ∙ ap (λ σ. lowest (past_at net.stations net.parts σ c.args.more) 0 (length c.states.result.now)) c.states.ensures.value)
