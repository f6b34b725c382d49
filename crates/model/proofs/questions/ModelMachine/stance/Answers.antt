use Rattle.std.proofs.Common.{Some, ap, ◌∙◌, arith}
use Rattle.machine.specs.Stances.{told}
use Rattle.places.proofs.Asking.{unknown_stance}
use Rattle.model.proofs.Answers.{stations_told, station_there, place_low, unknown_told, known_here, phase_low, quiet_answer, busy_answer}
use Rattle.model.proofs.Known.{as_phase_of}
use Rattle.model.proofs.questions.ModelMachine.stance.Goals as goal

pub returns-in_err-place : goal.returns-in_err-place
returns-in_err-place c =
    let self = c.args.self.now in
    c.from_residual.ensures
    ∙ unknown_stance _ self.places.stations c.args.station (stations_told self.book.now self.bytes self.accepted self.places self.placed)
    c.in_err-place.ensures c.args.stance told

pub known_phase-requires : goal.known_phase-requires
known_phase-requires c =
    let self = c.args.self.now in
    station_there self.book.now self.bytes self.accepted self.places self.placed c.args.station c.in_ok-place.place c.in_ok-place.ensures

pub returns-in_err-k : goal.returns-in_err-k
returns-in_err-k c =
    let self = c.args.self.now in
    c.from_residual-in_err-k.ensures
    ∙ unknown_told self.book.now self.bytes self.accepted self.places self.placed c.args.station c.in_ok-place.place c.in_ok-place.ensures
    self.scales self.scaled c.args.stance told c.in_err-k.ensures

pub quiet-requires : goal.quiet-requires
quiet-requires c =
    let self = c.args.self.now in
    let some = c.in_ok-place.ensures in
    let i = c.in_ok-place.place in
    let here = known_here self.book.now self.bytes self.accepted self.places self.placed c.args.station i some self.scales self.scaled c.args.stance c.in_ok-k.k
    c.in_ok-k.ensures in
    record {
      phase = as_phase_of _ i _ _ _ (station_there self.book.now self.bytes self.accepted self.places self.placed c.args.station i some) here;
      low = phase_low self.book.now self.bytes self.accepted self.places self.placed c.args.station i some self.scales self.scaled c.args.stance c.in_ok-k.k
          c.in_ok-k.ensures;
      few = place_low self.book.now self.bytes self.accepted self.places self.placed c.args.station i some;
    }

pub busy-requires : goal.busy-requires
busy-requires c =
    let self = c.args.self.now in
    let some = c.in_ok-place.ensures in
    let i = c.in_ok-place.place in
    let here = known_here self.book.now self.bytes self.accepted self.places self.placed c.args.station i some self.scales self.scaled c.args.stance c.in_ok-k.k
    c.in_ok-k.ensures in
    record {
      phase = as_phase_of _ i _ _ _ (station_there self.book.now self.bytes self.accepted self.places self.placed c.args.station i some) here;
      lasts = here.lasts c.if-stance-eq0.false;
      low = (
        phase_low self.book.now self.bytes self.accepted self.places self.placed c.args.station i some self.scales self.scaled c.args.stance c.in_ok-k.k
            c.in_ok-k.ensures,
        omega arith,
      );
    }

pub returns-then-stance-eq0 : goal.returns-then-stance-eq0
returns-then-stance-eq0 c =
    let self = c.args.self.now in
    ap Some c.quiet.ensures
    ∙ quiet_answer self.book.now self.bytes self.accepted self.places self.placed c.args.station c.in_ok-place.place c.in_ok-place.ensures
    self.scales self.scaled c.args.stance c.in_ok-k.k c.in_ok-k.ensures told c.if-stance-eq0.true

pub returns-else-stance-eq0 : goal.returns-else-stance-eq0
returns-else-stance-eq0 c =
    let self = c.args.self.now in
    ap Some c.busy.ensures
    ∙ busy_answer self.book.now self.bytes self.accepted self.places self.placed c.args.station c.in_ok-place.place c.in_ok-place.ensures
    self.scales self.scaled c.args.stance c.in_ok-k.k c.in_ok-k.ensures told c.if-stance-eq0.false
