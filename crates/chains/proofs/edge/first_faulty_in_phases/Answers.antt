use Rattle.std.proofs.Common.{rules, ◌≡◌, ℕ, List, ap, ◌∙◌}
use Rattle.std.specs.Iterator.{ActsAs}
use Rattle.visits.specs.Smallest.{smallest, along}
use Rattle.visits.specs.Visits.{phases, followed}
use Rattle.chains.specs.EdgeRules.{broken_edges}
use Rattle.chains.proofs.Nested.{nested}
use Rattle.chains.proofs.edge.first_faulty_in_phases.Goals as goal

pub returns : goal.returns
returns g c broken acts =
    let b = c.args.book.now in
    let found : ℕ → ℕ → _ = λ i s. along (λ j p. broken_edges b broken p) 0 (phases b s) in
    c.smallest_along.ensures found (λ x r q k.
    let gives : (f : ℕ → List ℕ) → ActsAs g.F.Fn c.args.first_broken (λ p. smallest (f p)) → r ≡ smallest (along (λ i p. f p) 0 (phases b x.1)) = search rules in
    (search rules, gives (broken_edges b broken) acts))
    ∙ ap (λ i. smallest (along found 0 (followed b i))) c.two_at.ensures
    ∙ ap smallest (nested b broken)
