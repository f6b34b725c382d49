use Rattle.std.proofs.Common.{◌*◌, ap, ◌∙◌}
use Rattle.places.proofs.Asking.{unknown_hearing}
use Rattle.model.proofs.Answers.{stations_told, station_there, known_here, unknown_heard, too_fine, deaf, hearing_told}
use Rattle.model.proofs.Known.{as_phase_of}
use Rattle.model.proofs.questions.ModelMachine.hearing.Goals as goal

pub returns-in_err-place : goal.returns-in_err-place
returns-in_err-place c =
    let self = c.args.self.now in
    c.from_residual.ensures
    ∙ unknown_hearing _ self.places.stations c.args.station (stations_told self.book.now self.bytes self.accepted self.places self.placed)
    c.in_err-place.ensures c.args.stance c.args.word.port c.args.word.value c.args.elapsed c.args.per_tick

pub known_phase-requires : goal.known_phase-requires
known_phase-requires c =
    let self = c.args.self.now in
    station_there self.book.now self.bytes self.accepted self.places self.placed c.args.station c.in_ok-place.place c.in_ok-place.ensures

pub returns-in_err-k : goal.returns-in_err-k
returns-in_err-k c =
    let self = c.args.self.now in
    c.from_residual-in_err-k.ensures
    ∙ unknown_heard self.book.now self.bytes self.accepted self.places self.placed c.args.station c.in_ok-place.place c.in_ok-place.ensures
    self.scales self.scaled c.args.stance c.args.word.port c.args.word.value c.args.elapsed c.args.per_tick c.in_err-k.ensures

pub returns-then-not-may_ask_parts : goal.returns-then-not-may_ask_parts
returns-then-not-may_ask_parts c =
    let self = c.args.self.now in
    too_fine self.book.now self.bytes self.accepted self.places self.placed c.args.station c.in_ok-place.place c.in_ok-place.ensures
    self.scales self.scaled c.args.stance c.args.word.port c.args.word.value c.args.elapsed c.args.per_tick c.in_ok-k.k c.in_ok-k.ensures
    c.may_ask_parts.result c.may_ask_parts.ensures.value c.if-not-may_ask_parts.true

pub returns-then-stance-ne0 : goal.returns-then-stance-ne0
returns-then-stance-ne0 c =
    let self = c.args.self.now in
    deaf self.book.now self.bytes self.accepted self.places self.placed c.args.station c.in_ok-place.place c.in_ok-place.ensures
    self.scales self.scaled c.args.stance c.args.word.port c.args.word.value c.args.elapsed c.args.per_tick c.in_ok-k.k c.in_ok-k.ensures
    c.may_ask_parts.result c.may_ask_parts.ensures.value c.if-not-may_ask_parts.false c.if-stance-ne0.true

pub heard-requires : goal.heard-requires
heard-requires c =
    let self = c.args.self.now in
    let some = c.in_ok-place.ensures in
    let i = c.in_ok-place.place in
    let here = known_here self.book.now self.bytes self.accepted self.places self.placed c.args.station i some self.scales self.scaled c.args.stance c.in_ok-k.k
    c.in_ok-k.ensures in
    record { phase = as_phase_of _ i _ _ _ (station_there self.book.now self.bytes self.accepted self.places self.placed c.args.station i some) here }

pub returns : goal.returns
returns c =
    let self = c.args.self.now in
    hearing_told self.book.now self.bytes self.accepted self.places self.placed c.args.station c.in_ok-place.place c.in_ok-place.ensures
    self.scales self.scaled c.args.stance c.args.word.port c.args.word.value c.args.elapsed c.args.per_tick c.in_ok-k.k c.in_ok-k.ensures
    c.may_ask_parts.result c.may_ask_parts.ensures.value c.if-not-may_ask_parts.false c.if-stance-ne0.false c.heard.result _
    (ap (λ n. c.args.per_tick * n) c.from.ensures) c.heard.ensures
