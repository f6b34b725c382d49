use Rattle.std.proofs.Common.{◌*◌, take, drop, ap, ◌∙◌}
use Rattle.book.proofs.Rows.{held}
use Rattle.book.proofs.bytes.row_of.Goals as goal

pub returns : goal.returns
returns c =
    let b = c.args.book.now in
    held b (32 * c.from-start.result) 32 c.min-from.result c.min-to.result c.min-from.ensures c.min-to.ensures
    ∙ ap (λ k. take 32 (drop (32 * k) b)) c.from-start.ensures
