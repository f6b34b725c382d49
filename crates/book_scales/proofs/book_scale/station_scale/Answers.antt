use Rattle.std.proofs.Common.{rules, ap, ◌∙◌}
use Rattle.std.specs.List.{flat_map}
use Rattle.book.specs.Bytes.{two}
use Rattle.semantics.specs.Scales.{lcm_all}
use Rattle.scales.specs.Limited.{limited}
use Rattle.visits.specs.Visits.{followed}
use Rattle.book_scales.specs.Scales.{phase_denominators}
use Rattle.book_scales.proofs.Growing.{grown_whole}
use Rattle.book_scales.proofs.book_scale.station_scale.Goals as goal

pub returns : goal.returns
returns c =
    let b = c.args.book.now in
    c.grow_along.ensures (phase_denominators b) (λ scale p r q k. search rules)
    ∙ grown_whole (flat_map (phase_denominators b) (followed b c.two_at-first.result))
    ∙ ap (λ i. limited (lcm_all 1 (flat_map (phase_denominators b) (followed b i)))) (c.two_at-first.ensures ∙ ap (λ l. two l 4) c.row_of.ensures)
