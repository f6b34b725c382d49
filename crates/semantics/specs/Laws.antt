-- Laws of scales, stance numbers and meanings, each on the contract of a function.
use Rattle.std.specs.Prelude.{◌≡◌, ℕ, ◌*◌, ◌<◌, ◌≤◌, List}
use Rattle.std.specs.Int.{◌∣◌}
use Rattle.std.specs.List.{AllByRecursion}
use Rattle.semantics.specs.Trees.{ModelNet, AutomatonNet}
use Rattle.semantics.specs.Scales.{lcm_all}
use Rattle.semantics.specs.Machine.{StationMeaning, SoundStation, Meaning, Sound, net_scale, gear, geared}
use Rattle.semantics.specs.Questions.{parts_fit}
use Rattle.semantics.specs.Meanings.{stance_number, phase_of, sent_of, model_meaning, automata_meaning}
use Rattle.semantics.specs.LawfulModels.{LawfulModel}
use Rattle.semantics.specs.LawfulAutomata.{LawfulAutomata}

-- A scale is the least common multiple of the nonzero numbers among ds.
pub record LeastCommon (ds : List ℕ) (scale : ℕ) : Type 0 where
  pub some : 1 ≤ scale
  pub common : AllByRecursion (λ d. 1 ≤ d → d ∣ scale) ds
  pub least : (c : ℕ) → 1 ≤ c → AllByRecursion (λ d. 1 ≤ d → d ∣ c) ds → scale ≤ c

abbrev pub ScalesAreLeast : Type 0
ScalesAreLeast = (ds : List ℕ) → LeastCommon ds (lcm_all 1 ds)

-- A stance's number tells its phase and words sent, and every number is that of a stance so told.
pub record StanceNumbers : Type 0 where
  pub phase_back : (i j : ℕ) → j < 4 → phase_of (stance_number i j) ≡ i
  pub sent_back : (i j : ℕ) → j < 4 → sent_of (stance_number i j) ≡ j
  pub number_back : (s : ℕ) → stance_number (phase_of s) (sent_of s) ≡ s

-- The meanings of lawful nets are sound.
pub record MeaningsAreSound : Type 0 where
  pub models : (m : ModelNet) → LawfulModel m → Sound (model_meaning m)
  pub automata : (a : AutomatonNet) → LawfulAutomata a → Sound (automata_meaning a)

-- Gearing keeps soundness; and a sound machine is geared exactly to its net scale.
pub record GearingKeepsSound : Type 0 where
  pub one_station : (f : ℕ) (m : StationMeaning) → 1 ≤ f → m.scale * f ≤ 1000000 → SoundStation m → SoundStation (gear f m)
  pub to_net_scale : (ms : Meaning) → Sound ms → AllByRecursion (λ m. m.scale ≡ net_scale ms) (geared ms)
  pub whole_machine : (ms : Meaning) → Sound ms → net_scale ms ≤ 1000000 → Sound (geared ms)
  -- the parts per tick that may be asked of a geared station are those that it may ask below
  pub parts_alike : (f q : ℕ) (m : StationMeaning) → 1 ≤ f → 1 ≤ m.scale → parts_fit (gear f m) q ≡ parts_fit m (q * f)
