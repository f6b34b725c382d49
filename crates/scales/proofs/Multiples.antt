-- The least common multiple by the greatest common divisor; and with a limit.
use Rattle.std.proofs.Common.{◌≡◌, ℕ, zero, suc, ◌*◌, ◌/◌, ◌%◌, ◌<◌, ◌≤◌, Bool, true, false, cond, leb, List, [], ◌∷◌, ◌++◌, Some, None, sym, refl, ap, ◌∙◌, subst, ap₂, mod-lt, mul_comm, mul-le-mul_left, mul-one, mul_right_comm, le_of_mul-le-mul_right, arith}
use Prim.Native.Nat.{◌∣◌}
use native.Mathlib.Nat.{dvd_refl, dvd-mul_left, dvd-mul_right, dvd-mod_iff, dvd_of_mod-eq-zero, dvd_of_mul-dvd-mul_left, mul-dvd-mul_left, mul-dvd-mul_right, le_of_dvd, pos_of_dvd_of_pos, mul-div_cancel', div-mul_cancel, one-le-mul, min-eq_right, max-eq_left}
use Rattle.std.specs.List.{fold}
use Rattle.std.proofs.lemmas.Bool.Decides.{nat_tests}
use Rattle.semantics.specs.Scales.{first_multiple, lcm, lcm_all}
use Rattle.semantics.proofs.Lcm.{least_common}
use Rattle.scales.specs.Limited.{limited, grown, grown_all, GrowsAsAWhole}
use Rattle.scales.specs.Divisors.{Greatest}

-- r is the least common multiple of a and b
record Least (a b r : ℕ) : Type 0 where
  some : 1 ≤ r
  left : a ∣ r
  right : b ∣ r
  least : (c : ℕ) → 1 ≤ c → a ∣ c → b ∣ c → r ≤ c

lcm_one : (a : ℕ) → 1 ≤ a → lcm 1 a ≡ a
lcm_one a p =
    let l = least_common (a ∷ []) in
    let low : lcm 1 a ≤ a = l.least a p ((λ q. dvd_refl a), tt) in
    let high : a ≤ lcm 1 a = le_of_dvd l.some (l.common.0 p) in
    omega arith

lcm_least : (a b : ℕ) → 1 ≤ a → 1 ≤ b → Least a b (lcm a b)
lcm_least a b p q =
    let l = least_common (a ∷ b ∷ []) in
    subst (Least a b) (ap (λ x. lcm x b) (lcm_one a p)) (record {
      some = l.some;
      left = l.common.0 p;
      right = l.common.1.0 q;
      least = λ c r s t. l.least c r ((λ _. s), ((λ _. t), tt));
    })

-- a common multiple is a multiple of the least one
least_divides : (a b r c : ℕ) → Least a b r → a ∣ c → b ∣ c → r ∣ c
least_divides a b r c h l m = go (c % r) refl
  where
    go : (x : ℕ) → c % r ≡ x → r ∣ c
    go zero e = dvd_of_mod-eq-zero r e
    go (suc x) e =
        let low = h.least (c % r) (omega arith) ((dvd-mod_iff a h.left).1 l) ((dvd-mod_iff b h.right).1 m) in
        let high = mod-lt c h.some in
        absurd (omega arith)

-- a b is the least common multiple r times some q; q divides both numbers, so it is no more than g, and a / g × b is
-- a common multiple, so it is no less than r
module _ (a b g : ℕ) (pa : 1 ≤ a) (pb : 1 ≤ b) (h : Greatest a b g) where
  pub divisor_some : 1 ≤ g
  divisor_some = pos_of_dvd_of_pos h.0 pa

  by_divisor : (r : ℕ) → Least a b r → a / g * b ≡ r
  by_divisor r l =
      let product : r * (a * b / r) ≡ a * b = mul-div_cancel' r (least_divides a b r (a * b) l (dvd-mul_right a b) (dvd-mul_left b a)) in
      let in_b : a * b / r ∣ b =
      dvd_of_mul-dvd-mul_left (a * b / r) pa (subst (λ x. a * (a * b / r) ∣ x) product (mul-dvd-mul_right a l.left (a * b / r))) in
      let in-a : a * b / r ∣ a =
      dvd_of_mul-dvd-mul_left (a * b / r) pb
      (subst (λ x. b * (a * b / r) ∣ x) (product ∙ mul_comm a b) (mul-dvd-mul_right b l.right (a * b / r))) in
      let small : a * b / r ≤ g = le_of_dvd divisor_some (h.2 (a * b / r) in-a in_b) in
      let some-q : 1 ≤ a * b / r = pos_of_dvd_of_pos in-a pa in
      let back : a / g * g ≡ a = div-mul_cancel g h.0 in
      let over-a : a ∣ a / g * b = subst (λ x. x ∣ a / g * b) back (mul-dvd-mul_left g (a / g) h.1) in
      let all : a / g * b * g ≡ a * b = mul_right_comm (a / g) b g ∙ ap (λ x. x * b) back in
      let some-part : 1 ≤ a / g = pos_of_dvd_of_pos {m = a / g} {n = a} (subst (λ x. a / g ∣ x) back (dvd-mul_right (a / g) g)) pa in
      let low : r ≤ a / g * b = l.least (a / g * b) (one-le-mul some-part pb) over-a (dvd-mul_left b (a / g)) in
      let scaled : a / g * b * (a * b / r) ≤ r * (a * b / r) =
      let m = mul-le-mul_left (a / g * b) small in omega arith in
      let high : a / g * b ≤ r = le_of_mul-le-mul_right {k = a * b / r} scaled some-q in
      omega arith

  pub lcm_by_divisor : a / g * b ≡ lcm a b
  lcm_by_divisor = by_divisor (lcm a b) (lcm_least a b pa pb)

-- with 0 it is the other number
lcm_zero_right : (a : ℕ) → lcm a 0 ≡ a
lcm_zero_right a =
    ap₂ (λ u v. first_multiple u v 1 v) (max-eq_left {n = a} {m = 0} (omega arith)) (min-eq_right {n = 0} {m = a} (omega arith)) ∙ mul-one a

lcm_at_least : (s d : ℕ) → 1 ≤ s → s ≤ lcm s d
lcm_at_least s zero p = let e = lcm_zero_right s in omega arith
lcm_at_least s (suc d) p = let l = lcm_least s (suc d) p (omega arith) in le_of_dvd l.some l.left

pub grown_one : (s d : ℕ) → grown (limited s) d ≡ limited (lcm s d)
grown_one s d = go (leb s 1000000) refl
  where
    over : (n : ℕ) → 1000000 < n → limited n ≡ None
    over n p = grind (arith, nat_tests)

    go : (b : Bool) → leb s 1000000 ≡ b → grown (cond b (Some s) None) d ≡ limited (lcm s d)
    go true e = refl
    go false e =
        let big : 1000000 < s = grind (arith, nat_tests) in
        let more : s ≤ lcm s d = lcm_at_least s d (omega arith) in
        sym (over (lcm s d) (omega arith))

grown_list : (s : ℕ) (ds : List ℕ) → grown_all (limited s) ds ≡ limited (lcm_all s ds)
grown_list s [] = refl
grown_list s (d ∷ ds) = ap (λ x. grown_all x ds) (grown_one s d) ∙ grown_list (lcm s d) ds

-- from the scale of no denominators on
pub scale_by_fold : (ds : List ℕ) → fold grown (Some 1) ds ≡ limited (lcm_all 1 ds)
scale_by_fold ds = grown_list 1 ds

-- one more at the end, for a loop that goes along a list (crate making)
pub lcm_all_push : (a : ℕ) (ds : List ℕ) (d : ℕ) → lcm_all a (ds ++ (d ∷ [])) ≡ lcm (lcm_all a ds) d
lcm_all_push a [] d = refl
lcm_all_push a (e ∷ ds) d = lcm_all_push (lcm a e) ds d

pub grows : GrowsAsAWhole
grows = record { one = grown_one; all = grown_list }
