use Rattle.std.proofs.Common.{◌≡◌, ℕ, ◌+◌, ◌<◌, ◌≤◌, true, false, Some, None, Option, MatchOption, sym, arith, rules}
use Rattle.std.proofs.lemmas.Iterator.{first_from_Range}
use Rattle.structure.specs.Search.{first_of}
use Rattle.structure.proofs.Stages.{first_found, fails_none}
use Rattle.structure.proofs.rule.first_broken.Goals as goal

pub returns : goal.returns
returns g c broken acts =
    go c.find.result
    (first_from_Range _ _ _ _ (λ x. broken x ≡ true) (λ x. broken x ≡ false) c.find.ensures.ran (λ x q h. sym (search rules)) (λ x q h. (search rules, sym (search rules))))
  where
    go : (o : Option ℕ) → MatchOption o ((k : ℕ) → 0 ≤ k → k < c.args.n + 1 → broken k ≡ false) (λ i. (0 ≤ i) × (i < c.args.n + 1) × (broken i ≡ true) × ((k : ℕ) → 0 ≤ k → k < i → broken k ≡ false)) → o ≡ first_of broken c.args.n
    go None h = sym (fails_none broken c.args.n (λ i w. h i (omega arith) (omega arith)))
    go (Some i) h = sym (first_found broken c.args.n i (record { within = omega (arith, h.1); fails = h.2; first = λ k l. h.3 k (omega arith) l }))
