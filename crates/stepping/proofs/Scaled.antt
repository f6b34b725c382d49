-- Elapsed parts against lifetimes: a station's lifetime in ticks, geared, is compared as its time in seconds is.
use Rattle.std.proofs.Common.{◌≡◌, ℕ, ◌+◌, ◌*◌, ◌/◌, ◌≤◌, List, [], ◌∷◌, ◌++◌, Some, None, Option, sym, refl, ap, ◌∙◌, subst, mul-div_cancel, arith}
use Prim.Native.Nat.{◌∣◌}
use native.Mathlib.Nat.{one-le-mul, div-mul_cancel, dvd-mul_left_of_dvd}
use Rattle.std.specs.Option.{option_map}
use Rattle.std.specs.List.{flat_map, AllByRecursion}
use Rattle.semantics.specs.Times.{Fraction, fraction, Proper, plus, over}
use Rattle.semantics.specs.Scales.{ticks, life_ticks}
use Rattle.semantics.specs.Fits.{within_bound}
use Rattle.semantics.specs.AutomatonRules.{at_bound}
use Rattle.semantics.specs.ModelRules.{lasts, is_over}
use Rattle.semantics.specs.OneTime.{AreOneTime}
use Rattle.semantics.proofs.OneTime.{cross_leb, cross_eqb}
use Rattle.stepping.specs.StationRules.{parts_in}

pub all_left : {X : Type 0} (P : X → Type 0) (xs ys : List X) → AllByRecursion P (xs ++ ys) → AllByRecursion P xs
all_left P [] ys h = tt
all_left P (x ∷ xs) ys h = (h.0, all_left P xs ys h.1)

all_right : {X : Type 0} (P : X → Type 0) (xs ys : List X) → AllByRecursion P (xs ++ ys) → AllByRecursion P ys
all_right P [] ys h = h
all_right P (x ∷ xs) ys h = all_right P xs ys h.1

pub all_joined : {X Y : Type 0} (P : Y → Type 0) (f : X → List Y) (xs : List X) → AllByRecursion P (flat_map f xs) → AllByRecursion (λ x. AllByRecursion P (f x)) xs
all_joined P f [] h = tt
all_joined P f (x ∷ xs) h = (all_left P (f x) (flat_map f xs) h, all_joined P f xs (all_right P (f x) (flat_map f xs) h))

-- a lifetime is in whole ticks of the scale s
abbrev pub InTicks : ℕ → Option Fraction → Type 0
InTicks s None = Unit {0}
InTicks s (Some t) = Proper t × (t.denominator ∣ s)

near : (an ad e qL d : ℕ) → an * qL ≡ e * ad → e * 1 * (ad * d) ≡ an * d * qL
near an ad e qL d h = let m = ap (λ x. x * d) h in omega arith

far : (k num den s f q ad : ℕ) → k * den ≡ num * s → k * f * q * (ad * den) ≡ num * ad * (q * (f * s))
far k num den s f q ad h = let m = ap (λ x. x * (f * q * ad)) h in omega arith

-- e parts, q to a tick, of a net scale f × s are the age
module _ (s f L q e : ℕ) (age : Fraction) (exact : f * s ≡ L) (scaled : 1 ≤ L) (few : 1 ≤ q) (one : AreOneTime age (fraction e (q * L))) where
  module _ (t : Fraction) (in_ticks : InTicks s (Some t)) where
    k_some : 1 ≤ q * L
    k_some = one-le-mul few scaled

    j_some : 1 ≤ age.denominator * t.denominator
    j_some = one-le-mul one.left in_ticks.0

    left : e * 1 * (age.denominator * t.denominator) ≡ age.numerator * t.denominator * (q * L)
    left = near age.numerator age.denominator e (q * L) t.denominator one.equal

    right : ticks s t * f * q * (age.denominator * t.denominator) ≡ t.numerator * age.denominator * (q * L)
    right =
        subst (λ x. ticks s t * f * q * (age.denominator * t.denominator) ≡ t.numerator * age.denominator * (q * x)) exact
        (far (ticks s t) t.numerator t.denominator s f q age.denominator (div-mul_cancel t.denominator (dvd-mul_left_of_dvd t.denominator in_ticks.1 t.numerator)))

  pub ends_alike : (l : Option Fraction) → InTicks s l → at_bound (option_map (λ x. x * f) (life_ticks s l)) (fraction e q) ≡ is_over l age
  ends_alike None h = refl
  ends_alike (Some t) h = cross_eqb _ _ _ _ _ _ (j_some t h) (k_some t h) (left t h) (right t h)

  pub lasts_alike : (l : Option Fraction) → InTicks s l → within_bound (option_map (λ x. x * f) (life_ticks s l)) (fraction e q) ≡ lasts l age
  lasts_alike None h = refl
  lasts_alike (Some t) h = cross_leb _ _ _ _ _ _ (j_some t h) (k_some t h) (left t h) (right t h)

pub whole_parts : (q : ℕ) (d : Fraction) → 1 ≤ q → d.denominator ≡ q → parts_in d q ≡ d.numerator
whole_parts q d some e = ap (λ k. d.numerator * q / k) e ∙ mul-div_cancel d.numerator some

later_equal : (an ad e dn qL : ℕ) → an * qL ≡ e * ad → (an * qL + dn * ad) * qL ≡ (e + dn) * (ad * qL)
later_equal an ad e dn qL h = let m = ap (λ x. x * qL) h in omega arith

-- a delay of d parts, q to a net tick, where L is the scale of time
pub later_one : (q L e : ℕ) (t d : Fraction) → 1 ≤ q → 1 ≤ L → d.denominator ≡ q → AreOneTime t (fraction e (q * L)) →
    AreOneTime (plus t (over d L)) (fraction (e + parts_in d q) (q * L))
later_one q L e t d few scaled same one = record {
  left = one-le-mul one.left (one-le-mul (subst (λ k. 1 ≤ k) (sym same) few) scaled);
  right = one-le-mul few scaled;
  equal =
      subst (λ u. (t.numerator * (d.denominator * L) + d.numerator * t.denominator) * (q * L) ≡ (e + u) * (t.denominator * (d.denominator * L))) (sym (whole_parts q d few same))
      (subst (λ k. (t.numerator * (k * L) + d.numerator * t.denominator) * (q * L) ≡ (e + d.numerator) * (t.denominator * (k * L))) (sym same)
      (later_equal t.numerator t.denominator e d.numerator (q * L) one.equal));
}
