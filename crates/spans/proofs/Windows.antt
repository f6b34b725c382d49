-- What the tests of windows say of all moments.
use Rattle.std.proofs.Common.{◌≡◌, ℕ, ◌+◌, Bool, true, false, cond, not, ◌&&◌, Some, None, Decides, Option, sym, refl, ap, ◌∙◌, ap₂, add-mul, mul-add, arith}
use Rattle.std.proofs.lemmas.Bool.{false≢true}
use Rattle.std.proofs.lemmas.Bool.Decides.{nat_tests}
use Rattle.records.specs.Fits.{HighFits}
use Rattle.semantics.specs.Times.{Fraction, fraction, Proper, HighEnd, Closed, Open, Absent, Window, Order, StepFirst, WordFirst, before, at_most, past_low, under_high, inside, counts, itself, whole}
use Rattle.semantics.specs.Fits.{within_bound}
use Rattle.spans.specs.Spans.{nearer, cut, lifetime_end, bound_end, ends_early, no_time, starts_later, later_start, shared_window, shares_moment}
use Rattle.spans.specs.Meaning.{ProperLife, WindowsCount, GuardsCount, EndsProper, MomentInBoth, WindowsMean}
use Rattle.spans.proofs.Order.{le_le, le_lt, lt_le, at_most_at_most, at_most_before, before_at_most, not_at_most, not_before, weaker}

and_left : (a b : Bool) → (a ≡ true → b ≡ true) → a ≡ (a && b)
and_left true b f = sym (f refl)
and_left false b f = refl

and_right : (a b : Bool) → (b ≡ true → a ≡ true) → b ≡ (a && b)
and_right true b f = refl
and_right false true f = sym (f refl)
and_right false false f = refl

and_true : (b : Bool) → b ≡ (b && true)
and_true true = refl
and_true false = refl

pub and_assoc : (a b c : Bool) → (a && (b && c)) ≡ ((a && b) && c)
and_assoc true b c = refl
and_assoc false b c = refl

and_swap : (a b c d : Bool) → ((a && b) && (c && d)) ≡ ((a && c) && (b && d))
and_swap true true c d = refl
and_swap true false true d = refl
and_swap true false false d = refl
and_swap false b c d = refl

pub and_first : (a b : Bool) → (a && b) ≡ true → a ≡ true
and_first true b e = refl
and_first false b e = e

pub and_second : (a b : Bool) → (a && b) ≡ true → b ≡ true
and_second true b e = e
and_second false b e = absurd (false≢true e)

pub not_true : (b : Bool) → not b ≡ true → b ≡ false
not_true true e = sym e
not_true false e = refl

-- The narrower of two, as a test says which, lets in what both let in.
narrower : {A : Type 0} (lets-in : A → Bool) (c : Bool) (x y : A) →
    (c ≡ true → lets-in x ≡ true → lets-in y ≡ true) → (c ≡ false → lets-in y ≡ true → lets-in x ≡ true) →
    lets-in (cond c x y) ≡ (lets-in x && lets-in y)
narrower lets-in true x y f g = and_left _ _ (f refl)
narrower lets-in false x y f g = and_right _ _ (g refl)

-- a and b are the starts of two windows
module _ (a b t : Fraction) (pa : Proper a) (pb : Proper b) (pt : Proper t) where
  abbrev later : Bool → Bool → Bool
  later o p = cond (p && not o) (before b a) (at_most b a)

  starts_first : (o p : Bool) → later o p ≡ true → past_low itself o a t ≡ true → past_low itself p b t ≡ true
  starts_first true true e f = at_most_before b a t pb pa pt e f
  starts_first true false e f = weaker b t (at_most_before b a t pb pa pt e f)
  starts_first false true e f = before_at_most b a t pb pa pt e f
  starts_first false false e f = at_most_at_most b a t pb pa pt e f

  starts_second : (o p : Bool) → later o p ≡ false → past_low itself p b t ≡ true → past_low itself o a t ≡ true
  starts_second true true e f = before_at_most a b t pa pb pt (not_at_most b a e) (weaker b t f)
  starts_second true false e f = before_at_most a b t pa pb pt (not_at_most b a e) f
  starts_second false true e f = weaker a t (at_most_before a b t pa pb pt (not_before b a e) f)
  starts_second false false e f = weaker a t (before_at_most a b t pa pb pt (not_at_most b a e) f)

module _ {T : Type 0} (time : T → Fraction) where
  abbrev Fine : T → Type 0
  Fine x = Proper (time x)

  -- the nearer high end
  near : (h o : HighEnd T) (t : Fraction) → Proper t → HighFits Fine h → HighFits Fine o →
      under_high time (nearer time h o) t ≡ (under_high time h t && under_high time o t)
  near (Closed h) (Closed o) t pt ph po =
      let a = time h in
      let b = time o in
      narrower (λ e. under_high time e t) (at_most a b) (Closed h) (Closed o)
      (λ c f. at_most_at_most t a b pt ph po f c)
      (λ c f. weaker t a (at_most_before t b a pt po ph f (not_at_most a b c)))
  near (Open h) (Closed o) t pt ph po =
      let a = time h in
      let b = time o in
      narrower (λ e. under_high time e t) (at_most a b) (Open h) (Closed o)
      (λ c f. weaker t b (before_at_most t a b pt ph po f c))
      (λ c f. at_most_before t b a pt po ph f (not_at_most a b c))
  near Absent (Closed o) t pt ph po = refl
  near (Closed h) (Open o) t pt ph po =
      let a = time h in
      let b = time o in
      narrower (λ e. under_high time e t) (before a b) (Closed h) (Open o)
      (λ c f. at_most_before t a b pt ph po f c)
      (λ c f. weaker t a (before_at_most t b a pt po ph f (not_before a b c)))
  near (Open h) (Open o) t pt ph po =
      let a = time h in
      let b = time o in
      narrower (λ e. under_high time e t) (before a b) (Open h) (Open o)
      (λ c f. before_at_most t a b pt ph po f (weaker a b c))
      (λ c f. before_at_most t b a pt po ph f (not_before a b c))
  near Absent (Open o) t pt ph po = refl
  near (Closed h) Absent t pt ph po = and_true _
  near (Open h) Absent t pt ph po = and_true _
  near Absent Absent t pt ph po = refl

  -- the later low end
  late : (v w : Window T) (t : Fraction) → Proper t → Fine v.low → Fine w.low →
      past_low time (later_start time v w).low_open (later_start time v w).low t
      ≡ (past_low time v.low_open v.low t && past_low time w.low_open w.low t)
  late v w t pt pv pw =
      narrower (λ x. past_low time x.low_open x.low t) (starts_later time v w) v w
      (starts_first (time v.low) (time w.low) t pv pw pt v.low_open w.low_open)
      (starts_second (time v.low) (time w.low) t pv pw pt v.low_open w.low_open)

  pub sharing : (v w : Window T) (t : Fraction) → Proper t → EndsProper time v → EndsProper time w →
      inside time (shared_window time v w) t ≡ (inside time v t && inside time w t)
  sharing v w t pt pv pw =
      ap₂ ◌&&◌ (late v w t pt pv.0 pw.0) (near v.high w.high t pt pv.1 pw.1)
      ∙ and_swap (past_low time v.low_open v.low t) (past_low time w.low_open w.low t) (under_high time v.high t) (under_high time w.high t)

  cutting : (end : HighEnd T) (w : Window T) (t : Fraction) → Proper t → HighFits Fine end → EndsProper time w →
      inside time (cut time end w) t ≡ (inside time w t && under_high time end t)
  cutting end w t pt pe pw =
      ap (λ x. past_low time w.low_open w.low t && x) (near w.high end t pt pw.1 pe)
      ∙ and_assoc (past_low time w.low_open w.low t) (under_high time w.high t) (under_high time end t)

  -- the ends of a shared window are ends of the two
  near_proper : (h o : HighEnd T) → HighFits Fine h → HighFits Fine o → HighFits Fine (nearer time h o)
  near_proper h o ph po = go h o ph po
    where
      pick : (c : Bool) (x y : HighEnd T) → HighFits Fine x → HighFits Fine y → HighFits Fine (cond c x y)
      pick true x y p q = p
      pick false x y p q = q

      go : (h o : HighEnd T) → HighFits Fine h → HighFits Fine o → HighFits Fine (nearer time h o)
      go (Closed h) (Closed o) p q = pick (at_most (time h) (time o)) (Closed h) (Closed o) p q
      go (Open h) (Closed o) p q = pick (at_most (time h) (time o)) (Open h) (Closed o) p q
      go Absent (Closed o) p q = q
      go (Closed h) (Open o) p q = pick (before (time h) (time o)) (Closed h) (Open o) p q
      go (Open h) (Open o) p q = pick (before (time h) (time o)) (Open h) (Open o) p q
      go Absent (Open o) p q = q
      go (Closed h) Absent p q = p
      go (Open h) Absent p q = p
      go Absent Absent p q = q

  pub cut_proper : (end : HighEnd T) (w : Window T) → HighFits Fine end → EndsProper time w → EndsProper time (cut time end w)
  cut_proper end w pe pw = (pw.0, near_proper w.high end pw.1 pe)

  shared_proper : (v w : Window T) → EndsProper time v → EndsProper time w → EndsProper time (shared_window time v w)
  shared_proper v w pv pw = (start (starts_later time v w), near_proper v.high w.high pv.1 pw.1)
    where
      start : (c : Bool) → Fine (cond c v w).low
      start true = pv.0
      start false = pw.0

  -- The low end, the high end, a time between them, or one behind the low end.
  some_time : (o : Bool) (l : T) (h : HighEnd T) → Fine l → HighFits Fine h → ends_early time o l h ≡ false →
      (t : Fraction) × (Proper t × ((past_low time o l t && under_high time h t) ≡ true))
  some_time false l (Closed h) pl ph e = (time l, (pl, grind (arith, nat_tests)))
  some_time true l (Closed h) pl ph e = (time h, (ph, grind (arith, nat_tests)))
  some_time false l (Open h) pl ph e = (time l, (pl, grind (arith, nat_tests)))
  some_time true l (Open h) pl ph e =
      let a = (time l).numerator in
      let b = (time l).denominator in
      let c = (time h).numerator in
      let d = (time h).denominator in
      let m1 = mul-add a b d in
      let m2 = add-mul a c b in
      let m3 = mul-add c b d in
      let m4 = add-mul a c d in
      (fraction (a + c) (b + d), (omega arith, grind (arith, nat_tests)))
  some_time false l Absent pl ph e = (time l, (pl, grind (arith, nat_tests)))
  some_time true l Absent pl ph e =
      let m = add-mul (time l).numerator 1 (time l).denominator in
      (fraction ((time l).numerator + 1) (time l).denominator, (pl, grind (arith, nat_tests)))

  never : (o : Bool) (l : T) (h : HighEnd T) (t : Fraction) → Proper t → Fine l → HighFits Fine h → ends_early time o l h ≡ true →
      (past_low time o l t && under_high time h t) ≡ false
  never false l (Closed h) t pt pl ph e = let p = le_le (time l) t (time h) pt in grind (arith, nat_tests)
  never true l (Closed h) t pt pl ph e = let p = lt_le (time l) t (time h) pt ph in grind (arith, nat_tests)
  never false l (Open h) t pt pl ph e = let p = le_lt (time l) t (time h) pt pl in grind (arith, nat_tests)
  never true l (Open h) t pt pl ph e = let p = le_lt (time l) t (time h) pt pl in grind (arith, nat_tests)
  never o l Absent t pt pl ph e = absurd (false≢true e)

  shared_moment : (v w : Window T) → EndsProper time v → EndsProper time w →
      Decides (shares_moment time v w) (MomentInBoth time v w)
  shared_moment v w pv pw = (found, told)
    where
      found : shares_moment time v w ≡ true → MomentInBoth time v w
      found e =
          let at = some_time (shared_window time v w).low_open (shared_window time v w).low (shared_window time v w).high
          (shared_proper v w pv pw).0 (shared_proper v w pv pw).1 (not_true (no_time time (shared_window time v w)) e) in
          let two = sym (sharing v w at.0 at.1.0 pv pw) ∙ at.1.1 in
          (at.0, (at.1.0, (and_first (inside time v at.0) (inside time w at.0) two, and_second (inside time v at.0) (inside time w at.0) two)))

      ruled : (b : Bool) (t : Fraction) → Proper t → inside time v t ≡ true → inside time w t ≡ true →
          no_time time (shared_window time v w) ≡ b → not b ≡ true
      ruled false t pt ev ew e = refl
      ruled true t pt ev ew e =
          let none = never (shared_window time v w).low_open (shared_window time v w).low (shared_window time v w).high t pt
          (shared_proper v w pv pw).0 (shared_proper v w pv pw).1 e in
          let one : inside time (shared_window time v w) t ≡ true = sharing v w t pt pv pw ∙ ap₂ ◌&&◌ ev ew in
          absurd (false≢true (sym none ∙ one))

      told : MomentInBoth time v w → shares_moment time v w ≡ true
      told m = ruled (no_time time (shared_window time v w)) m.0 m.1.0 m.1.1.0 m.1.1.1 refl

  pub windows_mean : WindowsMean time
  windows_mean = record {
    none_inside = λ w pw e t pt. never w.low_open w.low w.high t pt pw.0 pw.1 e;
    one_inside = λ w pw e. some_time w.low_open w.low w.high pw.0 pw.1 e;
    sharing = sharing;
    shared_moment = shared_moment;
  }

pub life_fits : (o : Order) (life : Option Fraction) → ProperLife life → HighFits Proper (lifetime_end o life)
life_fits o None p = tt
life_fits StepFirst (Some life) p = p
life_fits WordFirst (Some life) p = p

life_counts : (o : Order) (life : Option Fraction) (t : Fraction) → under_high itself (lifetime_end o life) t ≡ counts o life t
life_counts StepFirst None t = refl
life_counts WordFirst None t = refl
life_counts StepFirst (Some life) t = refl
life_counts WordFirst (Some life) t = refl

pub windows_count : WindowsCount
windows_count o life w t pt pl pw =
    cutting itself (lifetime_end o life) w t pt (life_fits o life pl) pw
    ∙ ap (λ x. inside itself w t && x) (life_counts o life t)

-- a number of whole ticks is always a time
whole_fits : (h : HighEnd ℕ) → HighFits (λ x. Proper (whole x)) h
whole_fits (Closed h) = omega arith
whole_fits (Open h) = omega arith
whole_fits Absent = tt

pub whole_window : (g : Window ℕ) → EndsProper whole g
whole_window g = (omega arith, whole_fits g.high)

bound_counts : (bound : Option ℕ) (t : Fraction) → under_high whole (bound_end bound) t ≡ within_bound bound t
bound_counts None t = refl
bound_counts (Some b) t = refl

pub guards_count : GuardsCount
guards_count bound g t pt =
    cutting whole (bound_end bound) g t pt (whole_fits (bound_end bound)) (whole_window g)
    ∙ ap (λ x. inside whole g t && x) (bound_counts bound t)
