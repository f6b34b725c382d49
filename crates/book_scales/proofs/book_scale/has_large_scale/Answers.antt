use Rattle.std.proofs.Common.{rules, ℕ, sym, List, [], ◌∷◌, is_some, ap, ◌∙◌}
use Rattle.std.specs.List.{flat_map}
use Rattle.semantics.specs.Scales.{lcm_all}
use Rattle.scales.specs.Limited.{limited}
use Rattle.visits.specs.Visits.{followed}
use Rattle.book_scales.proofs.Growing.{grown_whole, other_way}
use Rattle.book_scales.proofs.book_scale.has_large_scale.Goals as goal

pub returns : goal.returns
returns g c scales acts =
    let b = c.args.book.now in
    let standing : ℕ → List ℕ = λ s. scales s ∷ [] in
    other_way _ _ (sym c.is_none.ensures
    ∙ ap is_some (c.grow_along-scale.ensures standing (λ scale s r q k. (search rules, search (rules, acts)))
    ∙ grown_whole (flat_map standing (followed b c.two_at.result))
    ∙ ap (λ i. limited (lcm_all 1 (flat_map standing (followed b i)))) c.two_at.ensures))
