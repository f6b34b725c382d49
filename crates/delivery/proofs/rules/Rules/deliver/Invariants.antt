use Rattle.delivery.specs.Known.{known_net}
use Rattle.delivery.proofs.Telling.{Going}
use Rattle.delivery.proofs.rules.Rules.deliver.Given as goal

abbrev pub invariant-loop-path : goal.invariant-loop-path
invariant-loop-path g l =
    let net = known_net g.M.Machine.meaning l.self in
    Going net.stations net.parts l.from l.word.port l.word.value l.paths l.initial.events l.events l.initial.states l.states 0 l.told l.path-index
