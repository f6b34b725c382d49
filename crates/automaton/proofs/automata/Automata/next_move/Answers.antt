use Rattle.std.proofs.Common.{rules, ◌∙◌}
use Rattle.automaton.proofs.Locations.{move_none, move_some}
use Rattle.automaton.proofs.automata.Automata.next_move.Goals as goal

pub returns-in_err-found : goal.returns-in_err-found
returns-in_err-found c =
    let self = c.args.self.now in
    c.from_residual.ensures
    ∙ move_none self.book.now self.bytes self.accepted self.places self.placed c.args.station c.args.k c.requires c.location_at-first.result
    c.location_at-first.ensures (c.in_err-found.ensures _ (λ x r q k. search rules))

pub returns : goal.returns
returns c =
    let self = c.args.self.now in
    move_some self.book.now self.bytes self.accepted self.places self.placed c.args.station c.args.k c.requires c.location_at-first.result
    c.location_at-first.ensures c.in_ok-found.found _ _ c.transition_at-transition.result (c.in_ok-found.ensures _ (λ x r q k. search rules)) c.transition_at-transition.ensures
    c.word_sent.ensures (c.from.ensures ∙ c.place_of.ensures)
