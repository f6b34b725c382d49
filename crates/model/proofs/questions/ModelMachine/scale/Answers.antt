use Rattle.std.proofs.Common.{◌∙◌}
use Rattle.places.proofs.Asking.{unknown_station}
use Rattle.model.proofs.Answers.{stations_told, scale_told}
use Rattle.model.proofs.questions.ModelMachine.scale.Goals as goal

pub returns-in_err-place : goal.returns-in_err-place
returns-in_err-place c =
    let self = c.args.self.now in
    c.from_residual.ensures
    ∙ unknown_station _ self.places.stations c.args.station (stations_told self.book.now self.bytes self.accepted self.places self.placed)
    c.in_err-place.ensures (λ m. m.scale)

pub returns : goal.returns
returns c =
    let self = c.args.self.now in
    scale_told self.book.now self.bytes self.accepted self.places self.placed c.args.station c.in_ok-place.place c.in_ok-place.ensures
    self.scales self.scaled
