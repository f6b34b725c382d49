use Rattle.std.proofs.Common.{rules}
use Rattle.fields.specs.Fields.{automaton_at}
use Rattle.book_scales.proofs.book_scale.has_large_automaton_scale.Goals as goal

pub returns : goal.returns
returns c = c.has_large_scale.ensures (λ a. (automaton_at c.args.book.now a).scale) (λ s r q k. search rules)
