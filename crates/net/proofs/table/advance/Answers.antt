use Rattle.std.proofs.Common.{◌≡◌, ◌<◌, ◌≤◌, length, ap, ◌∙◌, arith, rules}
use Rattle.semantics.specs.Net.{in_stance, state_at}
use Rattle.net.specs.Nets.{later}
use Rattle.net.proofs.Advance.{over_read, over_more, over_all}
use Rattle.net.proofs.table.advance.Goals as goal

pub overflow_add-state : goal.overflow_add-state
overflow_add-state c =
    let l : c.loop-state.state-index < length c.args.table.now = search rules in
    let e : state_at c.loop-state.table c.loop-state.state-index ≡ state_at c.args.table.now c.loop-state.state-index =
    ap (λ t. state_at t c.loop-state.state-index) c.loop-state.invariant ∙ over_read (later c.args.more) c.args.table.now c.loop-state.state-index (in_stance 0 0) l
    in
    let q = ap (λ x. x.elapsed) e in
    let h = c.requires c.loop-state.state-index in
    omega arith

pub loop-state-preserved : goal.loop-state-preserved
loop-state-preserved c =
    let l : c.loop-state.state-index < length c.args.table.now = search rules in
    over_more (later c.args.more) c.args.table.now c.loop-state.table c.loop-state.state-index (in_stance 0 0) l c.loop-state.invariant

pub returns : goal.returns
returns c =
    let l : length c.args.table.now ≤ c.loop-state.state-index = search rules in
    c.loop-state.invariant ∙ over_all (later c.args.more) c.args.table.now c.loop-state.state-index l
