-- Equal fractions are one time.
use Rattle.std.proofs.Common.{◌≡◌, ℕ, ◌*◌, ◌/◌, ◌<◌, ◌≤◌, Bool, true, false, cond, ◌&&◌, eqb, ltb, leb, List, [], ◌∷◌, Some, None, Option, sym, refl, ap, ◌∙◌, ap₂, mul-le-mul_right, lt_of_mul-lt-mul_right, mul-lt-mul_of_pos_right, le_of_mul-le-mul_right, arith}
use native.Mathlib.Nat.{eq_of_mul-eq-mul_right, mul-div-mul_right, one-le-mul}
use Rattle.std.proofs.lemmas.Bool.Decides.{nat_tests}
use Rattle.semantics.specs.Times.{Fraction, fraction, HighEnd, Closed, Open, Absent, Window, Order, StepFirst, WordFirst, at_most, before, same_time, plus, over, past_low, under_high, inside, counts, itself, whole}
use Rattle.semantics.specs.Trees.{Edge, Phase, lifetime_of, edges_of, Transition, Location}
use Rattle.semantics.specs.Scales.{ticks}
use Rattle.semantics.specs.Fits.{word_fits, label_fits, edge_fits, transition_fits, within_bound, first}
use Rattle.semantics.specs.Meanings.{quiet_stance, location_stance, stance_number}
use Rattle.semantics.specs.ModelRules.{lasts, is_over}
use Rattle.semantics.specs.AutomatonRules.{at_bound}
use Rattle.semantics.specs.OneTime.{AreOneTime, OneLife, OneEnd, OneWindow, OneEdge, EqualFractionsAreOneTime}

leb_same : (a b c d : ℕ) → (a ≤ b → c ≤ d) → (c ≤ d → a ≤ b) → leb a b ≡ leb c d
leb_same a b c d f g = grind (arith, nat_tests)

ltb_same : (a b c d : ℕ) → (a < b → c < d) → (c < d → a < b) → ltb a b ≡ ltb c d
ltb_same a b c d f g = grind (arith, nat_tests)

eqb_same : (a b c d : ℕ) → (a ≡ b → c ≡ d) → (c ≡ d → a ≡ b) → eqb a b ≡ eqb c d
eqb_same a b c d f g = grind (arith, nat_tests)

-- a and b, times k, are c and d, times j
module _ (a b c d k j : ℕ) (kp : 1 ≤ k) (jp : 1 ≤ j) (e : a * k ≡ c * j) (f : b * k ≡ d * j) where
  cross_le : a ≤ b → c ≤ d
  cross_le h = le_of_mul-le-mul_right {k = j} (let m = mul-le-mul_right k h in omega arith) jp

  cross_lt : a < b → c < d
  cross_lt h = lt_of_mul-lt-mul_right j (let m = mul-lt-mul_of_pos_right h kp in omega arith)

  cross_eq : a ≡ b → c ≡ d
  cross_eq h = eq_of_mul-eq-mul_right j jp c d (sym e ∙ ap (λ x. x * k) h ∙ f)

-- Comparisons of numbers that are in the same ratio: what every comparison of times comes down to.
module _ (a b c d k j : ℕ) (kp : 1 ≤ k) (jp : 1 ≤ j) (e : a * k ≡ c * j) (f : b * k ≡ d * j) where
  pub cross_leb : leb a b ≡ leb c d
  cross_leb = leb_same a b c d (cross_le a b c d k j kp jp e f) (cross_le c d a b j k jp kp (sym e) (sym f))

  pub cross_ltb : ltb a b ≡ ltb c d
  cross_ltb = ltb_same a b c d (cross_lt a b c d k j kp jp e f) (cross_lt c d a b j k jp kp (sym e) (sym f))

  pub cross_eqb : eqb a b ≡ eqb c d
  cross_eqb = eqb_same a b c d (cross_eq a b c d k j kp jp e f) (cross_eq c d a b j k jp kp (sym e) (sym f))

module _ (t u x y : Fraction) (one : AreOneTime t u) (two : AreOneTime x y) where
  k_some : 1 ≤ u.denominator * y.denominator
  k_some = one-le-mul one.right two.right

  j_some : 1 ≤ t.denominator * x.denominator
  j_some = one-le-mul one.left two.left

  left : t.numerator * x.denominator * (u.denominator * y.denominator) ≡ u.numerator * y.denominator * (t.denominator * x.denominator)
  left = let m = ap (λ z. z * (x.denominator * y.denominator)) one.equal in omega arith

  right : x.numerator * t.denominator * (u.denominator * y.denominator) ≡ y.numerator * u.denominator * (t.denominator * x.denominator)
  right = let m = ap (λ z. z * (t.denominator * u.denominator)) two.equal in omega arith

  at_most_same : at_most t x ≡ at_most u y
  at_most_same = cross_leb _ _ _ _ _ _ k_some j_some left right

  before_same : before t x ≡ before u y
  before_same = cross_ltb _ _ _ _ _ _ k_some j_some left right

  same_time_same : same_time t x ≡ same_time u y
  same_time_same = cross_eqb _ _ _ _ _ _ k_some j_some left right

  plus_same : AreOneTime (plus t x) (plus u y)
  plus_same = record { left = j_some; right = k_some; equal = let l = left in let r = right in omega arith }

over_same : (t u : Fraction) (k : ℕ) → 1 ≤ k → AreOneTime t u → AreOneTime (over t k) (over u k)
over_same t u k some one = record {
  left = one-le-mul one.left some;
  right = one-le-mul one.right some;
  equal = let m = ap (λ z. z * k) one.equal in omega arith;
}

-- equal quotients
ratio_same : (a b c d : ℕ) → 1 ≤ b → 1 ≤ d → a * d ≡ c * b → a / b ≡ c / d
ratio_same a b c d bp dp e =
    let f : a * d / (b * d) ≡ c * b / (d * b) = ap₂ ◌/◌ e (omega arith) in
    sym (mul-div-mul_right a b dp) ∙ f ∙ mul-div-mul_right c d bp

ticks_same : (s : ℕ) (t u : Fraction) → AreOneTime t u → ticks s t ≡ ticks s u
ticks_same s t u one =
    ratio_same (t.numerator * s) t.denominator (u.numerator * s) u.denominator one.left one.right
    (let m = ap (λ z. z * s) one.equal in omega arith)

low_same : (o : Bool) (x y t u : Fraction) → AreOneTime x y → AreOneTime t u → past_low itself o x t ≡ past_low itself o y u
low_same true x y t u h one = before_same x y t u h one
low_same false x y t u h one = at_most_same x y t u h one

high_same : (v w : HighEnd Fraction) (t u : Fraction) → OneEnd v w → AreOneTime t u → under_high itself v t ≡ under_high itself w u
high_same (Closed x) (Closed y) t u h one = at_most_same t u x y one h
high_same (Closed x) (Open y) t u h one = absurd h
high_same (Closed x) Absent t u h one = absurd h
high_same (Open x) (Closed y) t u h one = absurd h
high_same (Open x) (Open y) t u h one = before_same t u x y one h
high_same (Open x) Absent t u h one = absurd h
high_same Absent (Closed y) t u h one = absurd h
high_same Absent (Open y) t u h one = absurd h
high_same Absent Absent t u h one = refl

inside_same : (v w : Window Fraction) (t u : Fraction) → OneWindow v w → AreOneTime t u → inside itself v t ≡ inside itself w u
inside_same v w t u same one =
    ap₂ ◌&&◌
    (low_same v.low_open v.low w.low t u same.lows one ∙ ap (λ o. past_low itself o w.low u) same.opens)
    (high_same v.high w.high t u same.highs one)

counts_same : (o : Order) (l k : Option Fraction) (t u : Fraction) → OneLife l k → AreOneTime t u → counts o l t ≡ counts o k u
counts_same StepFirst None None t u h one = refl
counts_same WordFirst None None t u h one = refl
counts_same o None (Some y) t u h one = absurd h
counts_same o (Some x) None t u h one = absurd h
counts_same StepFirst (Some x) (Some y) t u h one = before_same t u x y one h
counts_same WordFirst (Some x) (Some y) t u h one = at_most_same t u x y one h

edge_same : (o : Order) (l k : Option Fraction) (p v : ℕ) (t u : Fraction) (d e : Edge) → OneLife l k → AreOneTime t u → OneEdge d e →
    edge_fits o l p v t d ≡ edge_fits o k p v u e
edge_same o l k p v t u d e life one same =
    ap₂ ◌&&◌
    (ap (λ x. word_fits x d.lowest d.highest p v) same.ports
    ∙ ap₂ (λ x y. word_fits e.port x y p v) same.lowests same.highests)
    (ap₂ ◌&&◌ (inside_same d.window e.window t u same.windows one) (counts_same o l k t u life one))

-- One moment, written in two ways, against any fraction.
module _ (t u : Fraction) (one : AreOneTime t u) where
  module _ (x : Fraction) where
    near : t.numerator * x.denominator * u.denominator ≡ u.numerator * x.denominator * t.denominator
    near = let m = ap (λ z. z * x.denominator) one.equal in omega arith

    far : x.numerator * t.denominator * u.denominator ≡ x.numerator * u.denominator * t.denominator
    far = omega arith

    at_most_moment : at_most t x ≡ at_most u x
    at_most_moment = cross_leb _ _ _ _ _ _ one.right one.left near far

    at_least_moment : at_most x t ≡ at_most x u
    at_least_moment = cross_leb _ _ _ _ _ _ one.right one.left far near

    before_moment : before t x ≡ before u x
    before_moment = cross_ltb _ _ _ _ _ _ one.right one.left near far

    after_moment : before x t ≡ before x u
    after_moment = cross_ltb _ _ _ _ _ _ one.right one.left far near

    same_moment : same_time t x ≡ same_time u x
    same_moment = cross_eqb _ _ _ _ _ _ one.right one.left near far

  module _ {T : Type 0} (time : T → Fraction) where
    low_moment : (o : Bool) (x : T) → past_low time o x t ≡ past_low time o x u
    low_moment true x = after_moment (time x)
    low_moment false x = at_least_moment (time x)

    high_moment : (h : HighEnd T) → under_high time h t ≡ under_high time h u
    high_moment (Closed x) = at_most_moment (time x)
    high_moment (Open x) = before_moment (time x)
    high_moment Absent = refl

    inside_moment : (w : Window T) → inside time w t ≡ inside time w u
    inside_moment w = ap₂ ◌&&◌ (low_moment w.low_open w.low) (high_moment w.high)

  counts_moment : (o : Order) (l : Option Fraction) → counts o l t ≡ counts o l u
  counts_moment StepFirst None = refl
  counts_moment WordFirst None = refl
  counts_moment StepFirst (Some x) = before_moment x
  counts_moment WordFirst (Some x) = at_most_moment x

  edge_moment : (o : Order) (l : Option Fraction) (p v : ℕ) (e : Edge) → edge_fits o l p v t e ≡ edge_fits o l p v u e
  edge_moment o l p v e = ap (λ b. word_fits e.port e.lowest e.highest p v && b) (ap₂ ◌&&◌ (inside_moment itself e.window) (counts_moment o l))

  transition_same : (p v : ℕ) (x : Transition) → transition_fits p v t x ≡ transition_fits p v u x
  transition_same p v x = ap (λ b. label_fits x.label p v && b) (inside_moment whole x.guard)

  bound_same : (b : Option ℕ) → within_bound b t ≡ within_bound b u
  bound_same None = refl
  bound_same (Some b) = at_most_moment (whole b)

  at_bound_same : (b : Option ℕ) → at_bound b t ≡ at_bound b u
  at_bound_same None = refl
  at_bound_same (Some b) = same_moment (whole b)

lasts_same : (l k : Option Fraction) (t u : Fraction) → OneLife l k → AreOneTime t u → lasts l t ≡ lasts k u
lasts_same None None t u h one = refl
lasts_same None (Some y) t u h one = absurd h
lasts_same (Some x) None t u h one = absurd h
lasts_same (Some x) (Some y) t u h one = at_most_same t u x y one h

is_over_same : (l k : Option Fraction) (t u : Fraction) → OneLife l k → AreOneTime t u → is_over l t ≡ is_over k u
is_over_same None None t u h one = refl
is_over_same None (Some y) t u h one = absurd h
is_over_same (Some x) None t u h one = absurd h
is_over_same (Some x) (Some y) t u h one = same_time_same t u x y one h

-- tests that agree find the same first
first_same : {A : Type 0} (f g : A → Bool) (goal : A → ℕ) → ((x : A) → f x ≡ g x) → (xs : List A) → first f goal xs ≡ first g goal xs
first_same f g goal h [] = refl
first_same f g goal h (x ∷ xs) = ap₂ (λ b r. cond b (Some (goal x)) r) (h x) (first_same f g goal h xs)

model_hears_same : (o : Order) (scale i : ℕ) (f : Phase) (p v e q d r : ℕ) → 1 ≤ scale → AreOneTime (fraction e q) (fraction d r) →
    (quiet_stance o scale i f).hears p v e q ≡ (quiet_stance o scale i f).hears p v d r
model_hears_same o scale i f p v e q d r some one =
    first_same _ _ (λ x. stance_number x.goal 0)
    (λ x. edge_moment (fraction e (q * scale)) (fraction d (r * scale)) (over_same (fraction e q) (fraction d r) scale some one) o (lifetime_of f) p v x)
    (edges_of f)

automaton_hears_same : (l : Location) (p v e q d r : ℕ) → AreOneTime (fraction e q) (fraction d r) →
    (location_stance l).hears p v e q ≡ (location_stance l).hears p v d r
automaton_hears_same l p v e q d r one =
    ap₂ (λ b x. cond b x None) (bound_same _ _ one l.bound)
    (first_same _ _ (λ x. x.goal) (λ x. transition_same _ _ one p v x) l.transitions)

pub one_time : EqualFractionsAreOneTime
one_time = record {
  at_most_same = at_most_same;
  before_same = before_same;
  same_time_same = same_time_same;
  plus_same = plus_same;
  over_same = over_same;
  ticks_same = ticks_same;
  inside_same = inside_same;
  counts_same = counts_same;
  edge_same = edge_same;
  guard_same = λ g t u one. inside_moment t u one whole g;
  transition_same = λ p v t u x one. transition_same t u one p v x;
  bound_same = λ b t u one. bound_same t u one b;
  at_bound_same = λ b t u one. at_bound_same t u one b;
  lasts_same = lasts_same;
  is_over_same = is_over_same;
  model_hears_same = model_hears_same;
  automaton_hears_same = automaton_hears_same;
}
