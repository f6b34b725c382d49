use Rattle.std.proofs.Common.{Some, Option, ap, ◌∙◌, ap₂}
use Rattle.book.specs.declared.record.Location.{Location}
use Rattle.semantics.specs.declared.state.Move.{Move}
use Rattle.machine.specs.Stances.{told}
use Rattle.machine.specs.declared.stance.StanceInfo.{StanceInfo}
use Rattle.places.proofs.Asking.{unknown_stance}
use Rattle.automaton.proofs.Answers.{stations_told, unknown_told, location_of, stance_told}
use Rattle.automaton.proofs.questions.AutomataMachine.stance.Goals as goal

abbrev info : Location → Option Move → StanceInfo
info l m = record { phase = l.phase; sent = l.sent; busy = l.committed; lifetime = l.bound; next_move = m }

pub returns-in_err-place : goal.returns-in_err-place
returns-in_err-place c =
    let self = c.args.self.now in
    c.from_residual.ensures
    ∙ unknown_stance _ self.places.stations c.args.station (stations_told self.book.now self.bytes self.accepted self.places self.placed)
    c.in_err-place.ensures c.args.stance told

pub returns-in_err-k : goal.returns-in_err-k
returns-in_err-k c =
    let self = c.args.self.now in
    c.from_residual-in_err-k.ensures
    ∙ unknown_told self.book.now self.bytes self.accepted self.places self.placed c.args.station c.in_ok-place.place c.in_ok-place.ensures
    c.args.stance c.in_err-k.ensures.value told

pub next_move-requires : goal.next_move-requires
next_move-requires c =
    let self = c.args.self.now in
    location_of self.book.now self.bytes self.accepted self.places self.placed c.args.station c.in_ok-place.place c.in_ok-place.ensures
    c.args.stance c.in_ok-k.k c.in_ok-k.ensures.value

pub returns : goal.returns
returns c =
    let self = c.args.self.now in
    ap Some (ap₂ info c.location_at-location.ensures c.next_move.ensures)
    ∙ stance_told self.book.now self.bytes self.accepted self.places self.placed c.args.station c.in_ok-place.place c.in_ok-place.ensures
    c.args.stance c.in_ok-k.k c.in_ok-k.ensures.value told
