use Rattle.std.proofs.Common.{arith, rules}
use Rattle.semantics.specs.Machine.{meaning_at}
use Rattle.semantics.specs.Net.{in_stance}
use Rattle.machine.proofs.Arrays.{made_at}
use Rattle.making.proofs.Openings.{opened_all}
use Rattle.making.proofs.opening_states.Goals as goal

pub returns : goal.returns
returns g c =
    let ms = g.M.Machine.meaning c.args.machine.now in
    let few = (g.M.Machine.sound c.args.machine.now).few_stations in
    opened_all ms c.from_fn.result few c.from_fn.ensures.items.long
    (λ k d l. made_at _ c.from_fn.result (λ i. in_stance (meaning_at ms i).opening 0) (λ i y q k. search rules) 16 0 k d c.from_fn.ensures.items.each (omega arith) (omega arith))
