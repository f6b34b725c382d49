use Rattle.std.proofs.Common.{◌+◌, List, length, take, sym, ap, ◌∙◌, subst}
use Rattle.std.proofs.lemmas.List.{take-map}
use Rattle.semantics.specs.declared.state.StationState.{StationState}
use Rattle.calls.specs.Slots.{state_of}
use Rattle.net.specs.Invariant.{Within}
use Rattle.net.specs.Nets.{net_of, later}
use Rattle.net.proofs.Tables.{within_later}
use Rattle.net.proofs.held.Net.after_wait.Goals as goal

pub returns : goal.returns
returns g c =
    let x = c.args.self.now in
    let d = c.args.d in
    let n = length (net_of g.M.Machine.meaning x).stations in
    record {
      state = ap (λ σ. state_of σ (x.total + d)) (ap (take n) c.advance.ensures ∙ take-map (later d) n x.table);
      within = subst (λ (t : List StationState). Within t (x.total + d)) (sym c.advance.ensures) (within_later x.table x.total d x.within);
      long = c.advance.array_long;
    }
