use Rattle.std.proofs.Common.{inl, inr, arith}
use Rattle.net.specs.Nets.{net_of}
use Rattle.net.proofs.Asked.{tells_nothing, tells_all}
use Rattle.net.proofs.held.Net.told_by.Goals as goal
use Rattle.net.proofs.held.Net.told_by.Goals.{then-station-eq0-via-then-station-eq0, then-station-eq0-via-else-station-eq0+then-station-count}

pub returns-then-station-eq0 : goal.returns-then-station-eq0
returns-then-station-eq0 g c =
    let x = c.args.self.now in
    tells_nothing (net_of g.M.Machine.meaning x) x.table x.total c.args.station
    (elim c.then-station-eq0.branch [
      | then-station-eq0-via-then-station-eq0 w ↦ inl w.if-station-eq0.true
      | then-station-eq0-via-else-station-eq0+then-station-count w ↦ inr (omega (arith, w.count.ensures.value, w.if-station-count.true))
    ])

pub returns : goal.returns
returns g c =
    let x = c.args.self.now in
    tells_all (net_of g.M.Machine.meaning x) x.table x.total c.args.station (omega (arith, c.if-station-eq0.false))
    (omega (arith, c.count.ensures.value, c.if-station-count.false)) c.stance_of-info.result c.stance_of-info.ensures
