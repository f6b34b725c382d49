use Rattle.std.proofs.Common.{sym, ap, ◌∙◌}
use Rattle.book.specs.declared.record.Automaton.{Automaton}
use Rattle.book.specs.declared.record.Location.{Location}
use Rattle.semantics.specs.Times.{fraction}
use Rattle.semantics.specs.Fits.{within_bound}
use Rattle.places.proofs.Asking.{unknown_hearing}
use Rattle.automaton.proofs.Answers.{stations_told, unknown_heard, location_of, too_fine, past_bound, hearing_told}
use Rattle.automaton.proofs.questions.AutomataMachine.hearing.Goals as goal

pub returns-in_err-place : goal.returns-in_err-place
returns-in_err-place c =
    let self = c.args.self.now in
    c.from_residual.ensures
    ∙ unknown_hearing _ self.places.stations c.args.station (stations_told self.book.now self.bytes self.accepted self.places self.placed)
    c.in_err-place.ensures c.args.stance c.args.word.port c.args.word.value c.args.elapsed c.args.per_tick

pub returns-in_err-k : goal.returns-in_err-k
returns-in_err-k c =
    let self = c.args.self.now in
    c.from_residual-in_err-k.ensures
    ∙ unknown_heard self.book.now self.bytes self.accepted self.places self.placed c.args.station c.in_ok-place.place c.in_ok-place.ensures
    c.args.stance c.in_err-k.ensures.value c.args.word.port c.args.word.value c.args.elapsed c.args.per_tick

pub heard-requires : goal.heard-requires
heard-requires c =
    let self = c.args.self.now in
    location_of self.book.now self.bytes self.accepted self.places self.placed c.args.station c.in_ok-place.place c.in_ok-place.ensures
    c.args.stance c.in_ok-k.k c.in_ok-k.ensures.value

pub returns-then-not-may_ask_parts : goal.returns-then-not-may_ask_parts
returns-then-not-may_ask_parts c =
    let self = c.args.self.now in
    too_fine self.book.now self.bytes self.accepted self.places self.placed c.args.station c.in_ok-place.place c.in_ok-place.ensures
    c.args.stance c.in_ok-k.k c.in_ok-k.ensures.value c.args.word.port c.args.word.value c.args.elapsed c.args.per_tick
    c.station_at.result _ c.station_at.ensures (ap (λ (a : Automaton). a.scale) c.automaton_at-scale.ensures) c.may_ask_parts.result c.may_ask_parts.ensures.value c.if-not-may_ask_parts.true

pub returns-then-not-is_within_bound : goal.returns-then-not-is_within_bound
returns-then-not-is_within_bound c =
    let self = c.args.self.now in
    let clock = fraction c.args.elapsed c.args.per_tick in
    let bound = c.is_within_bound.ensures ∙ ap (λ (l : Location). within_bound l.bound clock) c.location_at.ensures in
    past_bound self.book.now self.bytes self.accepted self.places self.placed c.args.station c.in_ok-place.place c.in_ok-place.ensures
    c.args.stance c.in_ok-k.k c.in_ok-k.ensures.value c.args.word.port c.args.word.value c.args.elapsed c.args.per_tick
    c.station_at.result _ c.station_at.ensures (ap (λ (a : Automaton). a.scale) c.automaton_at-scale.ensures) c.may_ask_parts.result c.may_ask_parts.ensures.value c.if-not-may_ask_parts.false (sym bound ∙ c.if-not-is_within_bound.true)

pub returns : goal.returns
returns c =
    let self = c.args.self.now in
    let clock = fraction c.args.elapsed c.args.per_tick in
    let bound = c.is_within_bound.ensures ∙ ap (λ (l : Location). within_bound l.bound clock) c.location_at.ensures in
    hearing_told self.book.now self.bytes self.accepted self.places self.placed c.args.station c.in_ok-place.place c.in_ok-place.ensures
    c.args.stance c.in_ok-k.k c.in_ok-k.ensures.value c.args.word.port c.args.word.value c.args.elapsed c.args.per_tick
    c.station_at.result _ c.station_at.ensures (ap (λ (a : Automaton). a.scale) c.automaton_at-scale.ensures) c.may_ask_parts.result c.may_ask_parts.ensures.value c.heard.result c.if-not-may_ask_parts.false (sym bound ∙ c.if-not-is_within_bound.false) c.heard.ensures
