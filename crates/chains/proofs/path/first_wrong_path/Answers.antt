use Rattle.std.proofs.Common.{rules, ℕ, length, ap, ◌∙◌}
use Rattle.book.specs.Bytes.{two}
use Rattle.visits.specs.Smallest.{smallest, along, only_if}
use Rattle.visits.specs.Visits.{followed}
use Rattle.fields.specs.Fields.{path_at}
use Rattle.visits.proofs.Least.{smallest_if}
use Rattle.chains.specs.Paths.{wrong_path}
use Rattle.chains.proofs.path.first_wrong_path.Goals as goal

pub returns : goal.returns
returns g c =
    let b = c.args.book.now in
    let wrong : ℕ → ℕ → ℕ → _ = λ n i k. only_if (wrong_path n (path_at b k)) k in
    c.smallest_along.ensures (wrong c.chain_length-stations.result) (λ x r q k. search (rules, smallest_if))
    ∙ ap (λ n. smallest (along (wrong n) 0 (followed b c.two_at-2.result))) (c.chain_length-stations.ensures ∙ ap (λ i. length (followed b i)) c.two_at.ensures)
    ∙ ap (λ i. smallest (along (wrong (length (followed b (two b 6)))) 0 (followed b i))) c.two_at-2.ensures
