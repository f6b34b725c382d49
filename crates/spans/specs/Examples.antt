-- Windows that are worked out.
use Rattle.std.specs.Prelude.{◌≡◌, ℕ, true, false, Some, None}
use Rattle.semantics.specs.Times.{Fraction, fraction, HighEnd, Closed, Open, Absent, Window, StepFirst, WordFirst, itself, whole}
use Rattle.spans.specs.Spans.{counted, bounded, no_time, shares_moment}
use Rattle.spans.specs.Hearings.{hearing, meet}

abbrev pub seconds : ℕ → Fraction
seconds n = fraction n 1

-- windows that let their low end in, and one that leaves it out
abbrev pub from : {T : Type 0} → T → HighEnd T → Window T
from low high = record { low = low; low_open = false; high = high }

abbrev pub past : {T : Type 0} → T → HighEnd T → Window T
past low high = record { low = low; low_open = true; high = high }

-- from 1 to 5 seconds, both let in
abbrev pub one_to_five : Window Fraction
one_to_five = from (seconds 1) (Closed (seconds 5))

pub record WindowsWork : Type 0 where
  -- at lifetime 3, and in an endless phase
  pub cut_step_first : counted itself StepFirst (Some (seconds 3)) one_to_five ≡ from (seconds 1) (Open (seconds 3))
  pub cut_word_first : counted itself WordFirst (Some (seconds 3)) one_to_five ≡ from (seconds 1) (Closed (seconds 3))
  pub not_cut : counted itself StepFirst None one_to_five ≡ one_to_five
  -- an open end at the lifetime stays open under word first
  pub open_stays : counted itself WordFirst (Some (fraction 6 2)) (from (seconds 1) (Open (seconds 3))) ≡ from (seconds 1) (Open (seconds 3))
  -- low end 3 at lifetime 3
  pub late_step_first : no_time itself (counted itself StepFirst (Some (seconds 3)) (from (seconds 3) (Closed (seconds 5)))) ≡ true
  pub late_word_first : no_time itself (counted itself WordFirst (Some (seconds 3)) (from (seconds 3) (Closed (seconds 5)))) ≡ false
  -- one moment, and the same with one end open
  pub one_moment : no_time itself (from (fraction 7 3) (Closed (fraction 14 6))) ≡ false
  pub open_low : no_time itself (past (fraction 7 3) (Closed (fraction 14 6))) ≡ true
  pub high_open : no_time itself (from (fraction 7 3) (Open (fraction 14 6))) ≡ true
  -- 2 and 3 ticks, both left out: no whole tick lies between, but moments do
  pub between_ticks : no_time whole (past 2 (Open 3)) ≡ false
  pub past_bound : no_time whole (bounded whole (Some 3) (past 3 Absent)) ≡ true
  pub at_bound : no_time whole (bounded whole (Some 3) (from 3 Absent)) ≡ false
  -- windows that meet at 2, or at 7/3
  pub apart : shares_moment itself (from (seconds 0) (Open (seconds 2))) (from (seconds 2) (Closed (seconds 4))) ≡ false
  pub together : shares_moment itself (from (seconds 0) (Closed (seconds 2))) (from (seconds 2) (Closed (seconds 4))) ≡ true
  pub at_thirds : shares_moment itself (from (seconds 0) (Closed (fraction 7 3))) (from (fraction 14 6) Absent) ≡ true
  pub past_thirds : shares_moment itself (from (seconds 0) (Closed (fraction 7 3))) (past (fraction 14 6) Absent) ≡ false
  -- the values 1 to 5 and 5 to 9 have 5 in common; 5 to 1 has none with itself
  pub one_value : meet whole (hearing 1 1 5 (from 0 Absent)) (hearing 1 5 9 (from 0 Absent)) ≡ true
  pub other_port : meet whole (hearing 1 1 5 (from 0 Absent)) (hearing 2 5 9 (from 0 Absent)) ≡ false
  pub other_values : meet whole (hearing 1 1 4 (from 0 Absent)) (hearing 1 5 9 (from 0 Absent)) ≡ false
  pub no_value : meet whole (hearing 1 5 1 (from 0 Absent)) (hearing 1 0 9 (from 0 Absent)) ≡ false
