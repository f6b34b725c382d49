use Rattle.std.proofs.Common.{length, rules}
use Rattle.semantics.specs.Net.{past_at}
use Rattle.delivery.specs.Known.{known_net}
use Rattle.machine.proofs.Lowest.{lowest_from_find}
use Rattle.delivery.proofs.rules.Rules.lowest_past.Goals as goal

pub returns : goal.returns
returns g c =
    let net = known_net g.M.Machine.meaning c.args.self.now in
    lowest_from_find (past_at net.stations net.parts c.args.states.now c.args.more) (length c.args.states.now) _ _ _ _ (search rules) c.find.ensures.ran (λ x b q k. search rules)
