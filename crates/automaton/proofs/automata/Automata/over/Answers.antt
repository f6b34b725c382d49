use Rattle.book.specs.declared.term.BookKind.TheVariants.{Automaton}
use Rattle.accepted.proofs.Accepted.{kind_accepts}
use Rattle.automaton.proofs.automata.Automata.over.Goals as goal

pub invariant_of-result : goal.invariant_of-result
invariant_of-result c = record {
  bytes = λ i. (c.type_inv.book i).fits;
  accepted = kind_accepts c.args.book.now Automaton c.requires;
  placed = c.over-places.ensures;
}
