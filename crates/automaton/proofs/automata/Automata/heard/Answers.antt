use Rattle.std.proofs.Common.{rules, ap, ◌∙◌}
use Rattle.book.specs.declared.record.Transition.{Transition}
use Rattle.moments.specs.Moments.{time_of}
use Rattle.places.specs.Tables.{place_of}
use Rattle.automaton.proofs.Locations.{heard_none, heard_some}
use Rattle.automaton.proofs.automata.Automata.heard.Goals as goal

pub returns-in_err-found : goal.returns-in_err-found
returns-in_err-found c =
    let self = c.args.self.now in
    c.from_residual.ensures
    ∙ heard_none self.book.now self.bytes self.accepted self.places self.placed c.args.station c.args.k c.requires c.location_at-first.result
    c.location_at-first.ensures c.args.word.port c.args.word.value (time_of c.args.clock) (c.in_err-found.ensures _ (λ x r q k. search rules))

pub returns : goal.returns
returns c =
    let self = c.args.self.now in
    heard_some self.book.now self.bytes self.accepted self.places self.placed c.args.station c.args.k c.requires c.location_at-first.result
    c.location_at-first.ensures c.args.word.port c.args.word.value (time_of c.args.clock) c.in_ok-found.found _ (c.in_ok-found.ensures _ (λ x r q k. search rules))
    (c.from.ensures ∙ c.place_of.ensures ∙ ap (λ (x : Transition). place_of self.places x.goal) c.transition_at.ensures)
