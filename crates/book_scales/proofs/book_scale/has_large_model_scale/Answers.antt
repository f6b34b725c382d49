use Rattle.std.proofs.Common.{rules}
use Rattle.book_scales.specs.Scales.{fitting_scale}
use Rattle.book_scales.proofs.book_scale.has_large_model_scale.Goals as goal

pub returns : goal.returns
returns c = c.has_large_scale.ensures (fitting_scale c.args.book.now) (λ s r q k. search rules)
