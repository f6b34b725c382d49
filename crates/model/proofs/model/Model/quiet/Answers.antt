use Rattle.std.proofs.Common.{get_or, ap, ◌∙◌}
use Rattle.book.specs.declared.record.Phase.{Phase}
use Rattle.semantics.specs.Books.{read_order}
use Rattle.semantics.specs.Scales.{ticks}
use Rattle.model.proofs.Words.{lasts_read}
use Rattle.model.proofs.Phases.{quiet_told}
use Rattle.model.proofs.model.Model.quiet.Goals as goal

pub returns : goal.returns
returns c =
    let self = c.args.self.now in
    let b = self.book.now in
    let scale = get_or self.scales c.args.station 0 in
    let lasts = lasts_read b c.args.k c.phase_at.result c.phase_at.ensures c.if-is_endless.ensures in
    quiet_told b self.bytes self.accepted self.places self.placed c.args.station c.args.k c.requires.phase (read_order b) scale c.args.place _ _ lasts
    (c.in_ticks.ensures ∙ ap (λ (p : Phase). ticks scale p.lifetime) c.phase_at.ensures) c.next_move.ensures
