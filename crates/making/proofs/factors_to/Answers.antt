use Rattle.std.proofs.Common.{arith, rules}
use Rattle.semantics.specs.Machine.{meaning_at, factor}
use Rattle.machine.proofs.Arrays.{made_at}
use Rattle.making.proofs.factors_to.Goals as goal

pub returns : goal.returns
returns g c =
    let ms = g.M.Machine.meaning c.args.machine.now in
    let few = (g.M.Machine.sound c.args.machine.now).few_stations in
    λ i l. made_at _ c.from_fn.result (λ i. factor c.args.scale (meaning_at ms i)) (λ i y q k. search rules) 16 0 i 0 c.from_fn.ensures.items.each (omega arith) (omega arith)
