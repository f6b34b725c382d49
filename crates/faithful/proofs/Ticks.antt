-- Ages in seconds and clocks in ticks are compared alike.
use Rattle.std.proofs.Common.{◌≡◌, ℕ, ◌*◌, ◌≤◌, Bool, true, false, cond, ◌&&◌, ltb, leb, Some, None, Option, sym, refl, ap, ◌∙◌, ap₂, mul-le-mul_right, mul-lt-mul_of_pos_right, arith}
use Prim.Native.Nat.{◌∣◌}
use native.Mathlib.Nat.{div-mul_cancel, one-le-mul}
use Rattle.std.proofs.lemmas.Bool.Decides.{nat_tests}
use Rattle.std.proofs.lemmas.Bool.{ltb-true, ltb-false, leb-true, leb-false}
use Rattle.records.specs.Fits.{HighFits}
use Rattle.semantics.specs.Times.{Fraction, fraction, Proper, at_most, before, same_time, whole, itself, HighEnd, Closed, Open, Absent, Window, past_low, under_high, inside, Order, StepFirst, WordFirst, counts}
use Rattle.semantics.specs.Scales.{ticks, life_ticks}
use Rattle.semantics.specs.Fits.{within_bound}
use Rattle.semantics.specs.Print.{tick_high, cut_high, hearing_guard}
use Rattle.semantics.proofs.OneTime.{cross_leb, cross_ltb, cross_eqb}

-- the time t is a number of whole ticks, s to the second
abbrev pub InTicks : ℕ → Fraction → Type 0
InTicks s t = Proper t × (t.denominator ∣ t.numerator * s)

abbrev pub LifeInTicks : ℕ → Option Fraction → Type 0
LifeInTicks s None = Unit {0}
LifeInTicks s (Some t) = InTicks s t

abbrev pub HighInTicks : ℕ → HighEnd Fraction → Type 0
HighInTicks s h = HighFits (InTicks s) h

-- The clock shows the age in ticks of the scale s.
pub record Shows (s : ℕ) (age clock : Fraction) : Type 0 where
  pub scale_some : 1 ≤ s
  pub age_some : 1 ≤ age.denominator
  pub clock_some : 1 ≤ clock.denominator
  pub equal : clock.numerator * age.denominator ≡ age.numerator * s * clock.denominator

ticks_exact : (s : ℕ) (t : Fraction) → InTicks s t → ticks s t * t.denominator ≡ t.numerator * s
ticks_exact s t h = div-mul_cancel t.denominator h.1

-- the cut at the lifetime, in ticks
abbrev tick_counts : Order → Option ℕ → Fraction → Bool
tick_counts o None t = true
tick_counts StepFirst (Some b) t = before t (whole b)
tick_counts WordFirst (Some b) t = at_most t (whole b)

and_assoc : (a b c : Bool) → ((a && b) && c) ≡ (a && (b && c))
and_assoc true b c = refl
and_assoc false b c = refl

and_true : (a : Bool) → (a && true) ≡ a
and_true true = refl
and_true false = refl

-- Of a high end h and a cut at b, the earlier is kept.
module _ (x h b n : ℕ) (some : 1 ≤ n) where
  abbrev t : Fraction
  t = fraction x n

  closed_step : (c : Bool) → ltb h b ≡ c → (at_most t (whole h) && before t (whole b)) ≡ under_high whole (cond c (Closed h) (Open b)) t
  closed_step true e = let m = mul-lt-mul_of_pos_right (ltb-true h b e) some in grind (arith, nat_tests)
  closed_step false e = let m = mul-le-mul_right n (ltb-false h b e) in grind (arith, nat_tests)

  open_step : (c : Bool) → ltb h b ≡ c → (before t (whole h) && before t (whole b)) ≡ under_high whole (cond c (Open h) (Open b)) t
  open_step true e = let m = mul-lt-mul_of_pos_right (ltb-true h b e) some in grind (arith, nat_tests)
  open_step false e = let m = mul-le-mul_right n (ltb-false h b e) in grind (arith, nat_tests)

  closed_word : (c : Bool) → leb h b ≡ c → (at_most t (whole h) && at_most t (whole b)) ≡ under_high whole (cond c (Closed h) (Closed b)) t
  closed_word true e = let m = mul-le-mul_right n (leb-true h b e) in grind (arith, nat_tests)
  closed_word false e = let m = mul-lt-mul_of_pos_right (leb-false h b e) some in grind (arith, nat_tests)

  open_word : (c : Bool) → leb h b ≡ c → (before t (whole h) && at_most t (whole b)) ≡ under_high whole (cond c (Open h) (Closed b)) t
  open_word true e = let m = mul-le-mul_right n (leb-true h b e) in grind (arith, nat_tests)
  open_word false e = let m = mul-lt-mul_of_pos_right (leb-false h b e) some in grind (arith, nat_tests)

cut_same : (t : Fraction) → Proper t → (o : Order) (b : Option ℕ) (h : HighEnd ℕ) →
    (under_high whole h t && tick_counts o b t) ≡ under_high whole (cut_high o b h) t
cut_same t some StepFirst None h = and_true _
cut_same t some WordFirst None h = and_true _
cut_same t some StepFirst (Some b) Absent = refl
cut_same t some WordFirst (Some b) Absent = refl
cut_same t some StepFirst (Some b) (Closed h) = closed_step t.numerator h b t.denominator some (ltb h b) refl
cut_same t some StepFirst (Some b) (Open h) = open_step t.numerator h b t.denominator some (ltb h b) refl
cut_same t some WordFirst (Some b) (Closed h) = closed_word t.numerator h b t.denominator some (leb h b) refl
cut_same t some WordFirst (Some b) (Open h) = open_word t.numerator h b t.denominator some (leb h b) refl

module _ (s : ℕ) (age clock : Fraction) (shows : Shows s age clock) where
  module _ (t : Fraction) (fits : InTicks s t) where
    left : age.numerator * t.denominator * (s * clock.denominator) ≡ clock.numerator * 1 * (age.denominator * t.denominator)
    left = let m = ap (λ x. x * t.denominator) shows.equal in omega arith

    right : t.numerator * age.denominator * (s * clock.denominator) ≡ ticks s t * clock.denominator * (age.denominator * t.denominator)
    right = let m = ap (λ x. x * (clock.denominator * age.denominator)) (ticks_exact s t fits) in omega arith

    k_some : 1 ≤ s * clock.denominator
    k_some = one-le-mul shows.scale_some shows.clock_some

    j_some : 1 ≤ age.denominator * t.denominator
    j_some = one-le-mul shows.age_some fits.0

    pub at_most_same : at_most age t ≡ at_most clock (whole (ticks s t))
    at_most_same = cross_leb _ _ _ _ (s * clock.denominator) (age.denominator * t.denominator) k_some j_some left right

    at_least_same : at_most t age ≡ at_most (whole (ticks s t)) clock
    at_least_same = cross_leb _ _ _ _ (s * clock.denominator) (age.denominator * t.denominator) k_some j_some right left

    before_same : before age t ≡ before clock (whole (ticks s t))
    before_same = cross_ltb _ _ _ _ (s * clock.denominator) (age.denominator * t.denominator) k_some j_some left right

    after_same : before t age ≡ before (whole (ticks s t)) clock
    after_same = cross_ltb _ _ _ _ (s * clock.denominator) (age.denominator * t.denominator) k_some j_some right left

    pub at_same : same_time age t ≡ same_time clock (whole (ticks s t))
    at_same = cross_eqb _ _ _ _ (s * clock.denominator) (age.denominator * t.denominator) k_some j_some left right

    past_low_same : (open? : Bool) → past_low itself open? t age ≡ past_low whole open? (ticks s t) clock
    past_low_same true = after_same
    past_low_same false = at_least_same

  under_high_same : (h : HighEnd Fraction) → HighInTicks s h → under_high itself h age ≡ under_high whole (tick_high s h) clock
  under_high_same (Closed h) fits = at_most_same h fits
  under_high_same (Open h) fits = before_same h fits
  under_high_same Absent fits = refl

  counts_same : (o : Order) (l : Option Fraction) → LifeInTicks s l → counts o l age ≡ tick_counts o (life_ticks s l) clock
  counts_same StepFirst None fits = refl
  counts_same WordFirst None fits = refl
  counts_same StepFirst (Some l) fits = before_same l fits
  counts_same WordFirst (Some l) fits = at_most_same l fits

  -- a moment is in the window that counts exactly if the clock is in the printed guard
  pub window_same : (o : Order) (l : Option Fraction) → LifeInTicks s l → (w : Window Fraction) → InTicks s w.low → HighInTicks s w.high →
      (inside itself w age && counts o l age) ≡ inside whole (hearing_guard o s l w) clock
  window_same o l life w low high =
      and_assoc (past_low itself w.low_open w.low age) (under_high itself w.high age) (counts o l age)
      ∙ ap₂ ◌&&◌ (past_low_same w.low low w.low_open)
      (ap₂ ◌&&◌ (under_high_same w.high high) (counts_same o l life) ∙ cut_same clock shows.clock_some o (life_ticks s l) (tick_high s w.high))

  -- what counts lies within the bound
  pub within_life : (o : Order) (l : Option Fraction) → LifeInTicks s l → counts o l age ≡ true → within_bound (life_ticks s l) clock ≡ true
  within_life StepFirst None life h = refl
  within_life WordFirst None life h = refl
  within_life StepFirst (Some l) life h = let k : before clock (whole (ticks s l)) ≡ true = sym (before_same l life) ∙ h in grind (arith, nat_tests)
  within_life WordFirst (Some l) life h = sym (at_most_same l life) ∙ h
