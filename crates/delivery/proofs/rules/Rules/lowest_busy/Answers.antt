use Rattle.std.proofs.Common.{length, rules}
use Rattle.semantics.specs.Net.{busy_at}
use Rattle.delivery.specs.Known.{known_net}
use Rattle.machine.proofs.Lowest.{lowest_from_find}
use Rattle.delivery.proofs.rules.Rules.lowest_busy.Goals as goal

pub returns : goal.returns
returns g c =
    let net = known_net g.M.Machine.meaning c.args.self.now in
    lowest_from_find (busy_at net.stations c.args.states.now) (length c.args.states.now) _ _ _ _ (search rules) c.find.ensures.ran (λ x b q k. search rules)
