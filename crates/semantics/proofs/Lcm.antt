-- The least common multiple is common, and least.
use Rattle.std.proofs.Common.{◌≡◌, ℕ, zero, suc, ◌+◌, ◌*◌, ◌/◌, ◌%◌, ◌<◌, ◌≤◌, min, max, Bool, true, false, cond, eqb, ◌⊎◌, List, [], ◌∷◌, sym, refl, ap, ◌∙◌, subst, ap₂, inl, inr, mod-lt, mul-le-mul_left, mul-one, arith}
use Prim.Native.Nat.{◌∣◌}
use native.Mathlib.Nat.{dvd-mul_right, dvd_trans, dvd_of_mod-eq-zero, mod-eq-zero_of_dvd, one-le-mul, mul-div_cancel', mul-mod_left, dvd-mod_iff, dvd_refl, le_of_dvd, min-eq_left, min-eq_right, max-eq_left, max-eq_right, one-dvd}
use Rattle.std.specs.List.{AllByRecursion}
use Rattle.std.proofs.lemmas.Bool.{eqb-true, eqb-false, cases_eq, cases_lt}
use Rattle.semantics.specs.Scales.{first_multiple, lcm, lcm_all}
use Rattle.semantics.specs.Laws.{LeastCommon}

-- r is a least common multiple of a and d
record Common (a d r : ℕ) : Type 0 where
  left : a ∣ r
  right : d ∣ r
  some : 1 ≤ a → 1 ≤ r
  least : (c : ℕ) → 1 ≤ c → a ∣ c → d ∣ c → r ≤ c

module _ (a d : ℕ) where
  -- no multiple before the k-th will do
  abbrev Before : ℕ → Type 0
  Before k = (j : ℕ) → 1 ≤ j → j < k → d ∣ a * j → ⊥

  found : (k : ℕ) → 1 ≤ k → Before k → d ∣ a * k → Common a d (a * k)
  found k some none h = record {
    left = dvd-mul_right a k;
    right = h;
    some = λ p. one-le-mul p some;
    least = λ c p l r. low c p (mul-div_cancel' a l) r;
  }
    where
      up_to : (c j : ℕ) → 1 ≤ c → a * j ≡ c → d ∣ c → k ≤ j
      up_to c zero p e r = absurd (omega arith)
      up_to c (suc j) p e r = omega (arith, λ (x : suc j < k). none (suc j) (omega arith) x (subst (λ y. d ∣ y) (sym e) r))

      low : (c : ℕ) → 1 ≤ c → a * (c / a) ≡ c → d ∣ c → a * k ≤ c
      low c p e r = let m = mul-le-mul_left a (up_to c (c / a) p e r) in omega arith

  more : (n k : ℕ) → k + suc n ≡ suc d → 1 ≤ k → Before k → (b : Bool) → eqb (a * k % d) 0 ≡ b →
      (k + suc n ≡ suc d → 1 ≤ n → Before (suc k) → Common a d (first_multiple a d (suc k) n)) →
      Common a d (cond b (a * k) (first_multiple a d (suc k) n))
  more n k e p none true h rest = found k p none (dvd_of_mod-eq-zero d (eqb-true _ _ h))
  more zero k e p none false h rest =
      let same : k ≡ d = omega arith in
      absurd (eqb-false _ _ h (ap (λ x. a * x % d) same ∙ mul-mod_left a d))
  more (suc n) k e p none false h rest = rest e (omega arith) (λ j q l. last j q l (cases_eq j k))
    where
      last : (j : ℕ) → 1 ≤ j → j < suc k → (j ≡ k) ⊎ (j ≡ k → ⊥) → d ∣ a * j → ⊥
      last j q l (inl same) v = eqb-false _ _ h (mod-eq-zero_of_dvd d (subst (λ x. d ∣ a * x) same v))
      last j q l (inr other) v = none j q (omega arith) v

  search_on : (n k : ℕ) → k + n ≡ suc d → 1 ≤ n → 1 ≤ k → Before k → Common a d (first_multiple a d k n)
  search_on zero k e some p none = absurd (omega arith)
  search_on (suc n) k e some p none =
      more n k e p none (eqb (a * k % d) 0) refl (λ f q before. search_on n (suc k) (omega arith) q (omega arith) before)

  multiple_common : 1 ≤ d → Common a d (first_multiple a d 1 d)
  multiple_common some = search_on d 1 (omega arith) some (omega arith) (λ j p l v. omega arith)

swapped : (a d r : ℕ) → 1 ≤ d → Common d a r → Common a d r
swapped a d r some c = record { left = c.right; right = c.left; some = λ p. c.some some; least = λ x p l m. c.least x p m l }

-- of the larger number's multiples
lcm_common : (a d : ℕ) → 1 ≤ a → 1 ≤ d → Common a d (lcm a d)
lcm_common a d ap dp = go (cases_lt a d)
  where
    at : (x y : ℕ) → max a d ≡ x → min a d ≡ y → first_multiple x y 1 y ≡ lcm a d
    at x y e f = sym (ap₂ (λ u v. first_multiple u v 1 v) e f)

    go : (a < d) ⊎ (d ≤ a) → Common a d (lcm a d)
    go (inl l) =
        let h : a ≤ d = omega arith in
        subst (Common a d) (at d a (max-eq_right h) (min-eq_left h)) (swapped a d _ dp (multiple_common d a ap))
    go (inr l) = subst (Common a d) (at a d (max-eq_left l) (min-eq_right l)) (multiple_common a d dp)

-- whatever both divide, their least common multiple divides
lcm_divides : (a d r c : ℕ) → 1 ≤ a → Common a d r → a ∣ c → d ∣ c → r ∣ c
lcm_divides a d r c some common l m = go (c % r) refl
  where
    go : (x : ℕ) → c % r ≡ x → r ∣ c
    go zero e = dvd_of_mod-eq-zero r e
    go (suc x) e =
        let low = common.least (c % r) (omega arith) ((dvd-mod_iff a common.left).1 l) ((dvd-mod_iff d common.right).1 m) in
        let high = mod-lt c (common.some some) in
        absurd (omega arith)

record AllCommon (a : ℕ) (ds : List ℕ) (r : ℕ) : Type 0 where
  first : a ∣ r
  each : AllByRecursion (λ d. 1 ≤ d → d ∣ r) ds
  some : 1 ≤ r
  least : (c : ℕ) → 1 ≤ c → a ∣ c → AllByRecursion (λ d. 1 ≤ d → d ∣ c) ds → r ≤ c

-- a 0 among them changes nothing
skip_zero : (a : ℕ) → lcm a 0 ≡ a
skip_zero a = ap₂ (λ u v. first_multiple u v 1 v) (max-eq_left {n = a} {m = 0} (omega arith)) (min-eq_right {n = 0} {m = a} (omega arith)) ∙ mul-one a

all_common : (a : ℕ) (ds : List ℕ) → 1 ≤ a → AllCommon a ds (lcm_all a ds)
all_common a [] some = record { first = dvd_refl a; each = tt; some = some; least = λ c p l m. le_of_dvd p l }
all_common a (zero ∷ ds) some =
    let rest = subst (λ x. AllCommon a ds (lcm_all x ds)) (sym (skip_zero a)) (all_common a ds some) in
    record {
      first = rest.first;
      each = ((λ p. absurd (omega arith)), rest.each);
      some = rest.some;
      least = λ c p l m. rest.least c p l m.1;
    }
all_common a (suc d ∷ ds) some =
    let one = lcm_common a (suc d) some (omega arith) in
    let rest = all_common (lcm a (suc d)) ds (one.some some) in
    record {
      first = dvd_trans a one.left rest.first;
      each = ((λ p. dvd_trans (suc d) one.right rest.first), rest.each);
      some = rest.some;
      least = λ c p l m. rest.least c p (lcm_divides a (suc d) (lcm a (suc d)) c some one l (m.0 (omega arith))) m.1;
    }

pub least_common : (ds : List ℕ) → LeastCommon ds (lcm_all 1 ds)
least_common ds =
    let all = all_common 1 ds (omega arith) in
    record { some = all.some; common = all.each; least = λ c p h. all.least c p (one-dvd c) h }
