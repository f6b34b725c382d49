use Rattle.std.proofs.Common.{rules, ◌≡◌, ℕ, ap, ◌∙◌}
use Rattle.std.specs.Iterator.{ActsAs}
use Rattle.visits.specs.Visits.{followed}
use Rattle.chains.specs.Some.{some}
use Rattle.pairs.specs.Pairs.{Heard, taker_of, meets}
use Rattle.pairs.proofs.search.meets_another.Goals as goal

pub returns : goal.returns
returns g c heard acts =
    let time = g.T.Time.time in
    let taker = c.taker_of-taker.result in
    c.any_in_chain.ensures (λ i k. meets time taker (taker_of heard k)) (λ x r q k.
    let gives : (h : ℕ → Heard _) → ActsAs g.F.Fn c.args.hearing_of h → r ≡ meets time taker (taker_of h x.1) = search rules in
    (search rules, gives heard acts))
    ∙ ap (λ t. some (λ k. meets time t (taker_of heard k)) (followed c.args.book.now c.args.first)) (c.taker_of-taker.ensures heard acts)
