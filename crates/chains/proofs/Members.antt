-- Some record of a chain passes a test exactly if a search along its places finds one.
use Rattle.std.proofs.Common.{◌≡◌, ℕ, suc, Bool, ◌||◌, List, [], ◌∷◌, refl, ap, ◌∙◌, arith}
use Rattle.std.specs.List.{list_any, enumerate_from}
use Rattle.chains.specs.Some.{some_at}

pub any_some : (f : ℕ → ℕ → Bool) (i : ℕ) (ks : List ℕ) → list_any (λ p. f p.0 p.1) (enumerate_from i ks) ≡ some_at f i ks
any_some f i [] = refl
any_some f i (k ∷ ks) = ap (λ t. f i k || t) (ap (λ j. list_any (λ p. f p.0 p.1) (enumerate_from j ks)) (omega arith) ∙ any_some f (suc i) ks)
