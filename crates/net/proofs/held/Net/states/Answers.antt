use Rattle.std.proofs.Common.{◌≡◌, length, take, ap, ◌∙◌, arith}
use Rattle.std.proofs.lemmas.List.{length-take-le}
use Rattle.net.proofs.held.Net.states.Goals as goal

pub returns : goal.returns
returns g c =
    let x = c.args.self.now in
    let n = c.count.result in
    let long : length (take n x.table) ≡ n = length-take-le n x.table (omega (arith, x.long, c.count.ensures.few)) in
    record { value = ap (λ k. take k x.table) c.count.ensures.value; long = long ∙ c.count.ensures.value; few = omega (arith, c.count.ensures.few) }
