use Rattle.std.proofs.Common.{length, ◌+◌, ◌*◌, ◌≤◌, set, arith}
use Rattle.semantics.specs.Events.{event, Output}
use Rattle.delivery.specs.Known.{known_net}
use Rattle.std.proofs.lemmas.List.{length-set}
use Rattle.delivery.proofs.Telling.{told_within, told_sent, told_unsent}
use Rattle.delivery.proofs.rules.Rules.send.Goals as goal

pub returns-in_default : goal.returns-in_default
returns-in_default g c =
    let net = known_net g.M.Machine.meaning c.args.self.now in
    told_unsent net.stations net.parts c.args.paths.now c.args.place c.args.events.now c.args.events.now c.args.states.now c.args.states.now c.args.word
    c.in_default.is

pub returns : goal.returns
returns g c =
    let net = known_net g.M.Machine.meaning c.args.self.now in
    let word = c.in-Some.word in
    let es = set c.args.events.now 0 (event Output (c.args.place + 1) word.port word.value) in
    let room : 1 + 2 * length c.args.paths.now ≤ length es = rw length-set (omega arith) in
    told_sent net.stations net.parts c.args.paths.now c.args.place c.args.events.now _ c.args.states.now _ c.args.word word _ _ (omega arith) c.in-Some.is (omega arith)
    (told_within _ es c.deliver.new.events _ 1 (2 * length c.args.paths.now) c.deliver.result room c.deliver.auto.events c.deliver.ensures)
