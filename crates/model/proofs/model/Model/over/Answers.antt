use Rattle.book.specs.declared.term.BookKind.TheVariants.{Model}
use Rattle.accepted.proofs.Accepted.{kind_accepts}
use Rattle.model.proofs.model.Model.over.Goals as goal

pub invariant_of-result : goal.invariant_of-result
invariant_of-result c = record {
  bytes = λ i. (c.type_inv.book i).fits;
  accepted = kind_accepts c.args.book.now Model c.requires;
  placed = c.over-places.ensures;
  scaled = c.scales_of-scales.ensures;
}
