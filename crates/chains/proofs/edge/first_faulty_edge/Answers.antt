use Rattle.std.proofs.Common.{rules}
use Rattle.chains.proofs.edge.first_faulty_edge.Goals as goal

pub returns : goal.returns
returns g c broken acts = c.first_faulty_in_phases.ensures broken (λ x r q k. (search rules, search (rules, acts)))
