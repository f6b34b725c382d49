use Rattle.std.proofs.Common.{◌∙◌}
use Rattle.model.proofs.Answers.{stations_told}
use Rattle.model.proofs.questions.ModelMachine.stations.Goals as goal

pub returns : goal.returns
returns c =
    let self = c.args.self.now in
    c.stations.ensures ∙ stations_told self.book.now self.bytes self.accepted self.places self.placed
