use Rattle.std.proofs.Common.{ap, ◌∙◌}
use Rattle.book.specs.declared.record.Automaton.{Automaton}
use Rattle.places.specs.Tables.{place_of}
use Rattle.places.proofs.Asking.{unknown_station}
use Rattle.automaton.proofs.Answers.{stations_told, opening_told}
use Rattle.automaton.proofs.questions.AutomataMachine.opening.Goals as goal

pub returns-in_err-place : goal.returns-in_err-place
returns-in_err-place c =
    let self = c.args.self.now in
    c.from_residual.ensures
    ∙ unknown_station _ self.places.stations c.args.station (stations_told self.book.now self.bytes self.accepted self.places self.placed)
    c.in_err-place.ensures (λ m. m.opening)

pub returns : goal.returns
returns c =
    let self = c.args.self.now in
    opening_told self.book.now self.bytes self.accepted self.places self.placed c.args.station c.in_ok-place.place c.in_ok-place.ensures
    c.station_at.result _ c.station_at.ensures
    (c.from.ensures ∙ c.place_of.ensures ∙ ap (λ (a : Automaton). place_of self.places a.opening) c.automaton_at-opening.ensures)
