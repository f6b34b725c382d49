-- What gearing a whole machine keeps, and what a geared machine answers.
use Rattle.std.specs.Prelude.{◌≡◌, ℕ, suc, ◌-◌, ◌*◌, ◌<◌, List, length, None}
use Rattle.semantics.specs.Machine.{Meaning, Sound, meaning_at, gear}
use Rattle.semantics.specs.Questions.{ask_hearing}
use Rattle.gearing.specs.Gearing.{in_use, wanted, geared_by, as_wanted, lowest_misfit}

-- the factor in use at the station of number k
abbrev pub used_at : Meaning → List ℕ → ℕ → ℕ
used_at ms fs k = in_use (meaning_at ms (k - 1)).scale (wanted fs (k - 1))

-- A geared machine is sound, and is geared as wanted if every factor fits. Each of its stations is the one below, geared
-- by the factor in use. What it hears at q parts per tick, it asks below at q × factor: unknown there is unknown here.
pub record GearedMachinesAnswer : Type 0 where
  pub sound : (ms : Meaning) (fs : List ℕ) → Sound ms → Sound (geared_by ms fs)
  pub as_asked : (ms : Meaning) (fs : List ℕ) → lowest_misfit ms fs ≡ None → geared_by ms fs ≡ as_wanted ms fs
  pub as_many : (ms : Meaning) (fs : List ℕ) → length (geared_by ms fs) ≡ length ms
  pub each_station : (ms : Meaning) (fs : List ℕ) (i : ℕ) → i < length ms →
      meaning_at (geared_by ms fs) i ≡ gear (used_at ms fs (suc i)) (meaning_at ms i)
  pub hearing : (ms : Meaning) (fs : List ℕ) → Sound ms → (k s p v e q : ℕ) →
      ask_hearing (geared_by ms fs) k s p v e q ≡ ask_hearing ms k s p v e (q * used_at ms fs k)
