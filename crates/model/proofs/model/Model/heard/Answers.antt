use Rattle.std.proofs.Common.{rules, refl, ap, ◌∙◌}
use Rattle.book.specs.declared.record.Edge.{Edge}
use Rattle.records.specs.Heads.{order_in}
use Rattle.moments.specs.Moments.{time_of}
use Rattle.semantics.specs.Meanings.{stance_number}
use Rattle.places.specs.Tables.{place_of}
use Rattle.model.proofs.Phases.{heard_none, heard_some}
use Rattle.model.proofs.model.Model.heard.Goals as goal

pub returns-in_err-edge : goal.returns-in_err-edge
returns-in_err-edge c =
    let self = c.args.self.now in
    c.from_residual.ensures
    ∙ heard_none self.book.now self.bytes self.accepted self.places self.placed c.args.station c.args.k c.requires.phase
    (order_in self.book.now) c.lifetime_at-lifetime.result c.phase_at-first.result c.args.word.port c.args.word.value (time_of c.args.moment)
    refl c.lifetime_at-lifetime.ensures c.phase_at-first.ensures (c.in_err-edge.ensures _ (λ x r q k. search rules))

pub returns : goal.returns
returns c =
    let self = c.args.self.now in
    let place = c.place_of.ensures ∙ ap (λ (x : Edge). place_of self.places x.goal) c.edge_at.ensures in
    let n = c.quiet_number.ensures ∙ ap (λ x. stance_number x 0) place in
    heard_some self.book.now self.bytes self.accepted self.places self.placed c.args.station c.args.k c.requires.phase
    (order_in self.book.now) c.lifetime_at-lifetime.result c.phase_at-first.result c.args.word.port c.args.word.value (time_of c.args.moment)
    refl c.lifetime_at-lifetime.ensures c.phase_at-first.ensures c.in_ok-edge.edge c.quiet_number.result (c.in_ok-edge.ensures _ (λ x r q k. search rules)) n
