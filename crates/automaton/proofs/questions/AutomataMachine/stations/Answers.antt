use Rattle.std.proofs.Common.{◌∙◌}
use Rattle.automaton.proofs.Answers.{stations_told}
use Rattle.automaton.proofs.questions.AutomataMachine.stations.Goals as goal

pub returns : goal.returns
returns c =
    let self = c.args.self.now in
    c.stations.ensures ∙ stations_told self.book.now self.bytes self.accepted self.places self.placed
