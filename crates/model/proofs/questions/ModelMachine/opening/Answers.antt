use Rattle.std.proofs.Common.{ap, ◌∙◌}
use Rattle.book.specs.declared.record.Station.{Station}
use Rattle.semantics.specs.Meanings.{stance_number}
use Rattle.places.specs.Tables.{place_of}
use Rattle.places.proofs.Asking.{unknown_station}
use Rattle.model.proofs.Answers.{stations_told, opening_told}
use Rattle.model.proofs.questions.ModelMachine.opening.Goals as goal

pub returns-in_err-place : goal.returns-in_err-place
returns-in_err-place c =
    let self = c.args.self.now in
    c.from_residual.ensures
    ∙ unknown_station _ self.places.stations c.args.station (stations_told self.book.now self.bytes self.accepted self.places self.placed)
    c.in_err-place.ensures (λ m. m.opening)

pub returns : goal.returns
returns c =
    let self = c.args.self.now in
    opening_told self.book.now self.bytes self.accepted self.places self.placed c.args.station c.in_ok-place.place c.in_ok-place.ensures
    c.station_at.result c.quiet_number.result c.station_at.ensures
    (c.quiet_number.ensures ∙ ap (λ x. stance_number x 0) (c.place_of.ensures ∙ ap (λ (s : Station). place_of self.places s.opening) c.station_at-opening.ensures))
