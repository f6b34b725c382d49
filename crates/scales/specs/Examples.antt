-- Scales and ticks that are worked out.
use Rattle.std.specs.Prelude.{◌≡◌, [], ◌∷◌, Some, None}
use Rattle.semantics.specs.Times.{fraction}
use Rattle.semantics.specs.Scales.{lcm_all, ticks}
use Rattle.scales.specs.Limited.{limited}

pub record ScalesWork : Type 0 where
  pub four_and_six : limited (lcm_all 1 (4 ∷ 6 ∷ [])) ≡ Some 12
  pub five_sixths : ticks 12 (fraction 5 6) ≡ 10
  pub none : limited (lcm_all 1 []) ≡ Some 1
  pub zero_counts_for_nothing : limited (lcm_all 1 (0 ∷ 4 ∷ 0 ∷ [])) ≡ Some 4
  pub large : limited (lcm_all 1 (999 ∷ 1000 ∷ [])) ≡ Some 999000
  pub too_large : limited (lcm_all 1 (999 ∷ 1000 ∷ 7 ∷ [])) ≡ None
  pub common_factors : limited (lcm_all 1 (64 ∷ 625 ∷ 1000 ∷ [])) ≡ Some 40000
  pub at_limit : limited (lcm_all 1 (1000000 ∷ 64 ∷ [])) ≡ Some 1000000
  pub just_over : limited (lcm_all 1 (1000001 ∷ [])) ≡ None
