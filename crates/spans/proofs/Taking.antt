-- What two hearings share, and what edges and transitions take.
use Rattle.std.proofs.Common.{◌≡◌, ℕ, ◌<◌, ◌≤◌, Bool, true, ◌&&◌, eqb, leb, ◌⊎◌, Option, sym, refl, ap, ◌∙◌, ap₂, inl, inr, arith}
use Rattle.std.proofs.lemmas.Bool.{eqb-true, eq-eqb, cases_lt}
use Rattle.std.proofs.lemmas.Bool.Decides.{nat_tests}
use Rattle.semantics.specs.Times.{Fraction, Proper, inside, whole}
use Rattle.semantics.specs.Trees.{Label, Silent, Hears, Sends, Transition}
use Rattle.semantics.specs.Fits.{word_fits, label_fits, within_bound}
use Rattle.spans.specs.Spans.{shares_moment}
use Rattle.spans.specs.Hearings.{heard, share_value, meet}
use Rattle.spans.specs.Taking.{TakenByBoth, MeetExactly, taken, TakesAsCut}
use Rattle.spans.proofs.Windows.{and_assoc, and_first, and_second, windows_mean, windows_count, guards_count}

-- the larger of the two lowest values is in both ranges
common_value : (l h m k : ℕ) → share_value l h m k ≡ true →
    (v : ℕ) × (((leb l v && leb v h) ≡ true) × ((leb m v && leb v k) ≡ true))
common_value l h m k e = go (cases_lt l m)
  where
    go : (l < m) ⊎ (m ≤ l) → (v : ℕ) × (((leb l v && leb v h) ≡ true) × ((leb m v && leb v k) ≡ true))
    go (inl p) = (m, (grind (arith, nat_tests), grind (arith, nat_tests)))
    go (inr p) = (l, (grind (arith, nat_tests), grind (arith, nat_tests)))

value_common : (l h m k v : ℕ) → (leb l v && leb v h) ≡ true → (leb m v && leb v k) ≡ true → share_value l h m k ≡ true
value_common l h m k v e f = grind (arith, nat_tests)

all_three : (a b c : Bool) → a ≡ true → b ≡ true → c ≡ true → ((a && b) && c) ≡ true
all_three a b c p q r = ap₂ ◌&&◌ (ap₂ ◌&&◌ p q) r

module _ {T : Type 0} (time : T → Fraction) where
  pub meet_exactly : MeetExactly time
  meet_exactly x y px py = (found, told)
    where
      found : meet time x y ≡ true → TakenByBoth time x y
      found e =
          let same = eqb-true x.port y.port (and_first (eqb x.port y.port) _ e) in
          let rest = and_second (eqb x.port y.port) _ e in
          let value = common_value x.lowest x.highest y.lowest y.highest
          (and_first (share_value x.lowest x.highest y.lowest y.highest) (shares_moment time x.window y.window) rest) in
          let moment = ((windows_mean time).shared_moment x.window y.window px py).0
          (and_second (share_value x.lowest x.highest y.lowest y.highest) (shares_moment time x.window y.window) rest) in (
            x.port,
            (
              value.0,
              (
                moment.0,
                (
                  moment.1.0,
                  (
                    all_three _ _ _ (eq-eqb x.port x.port refl) value.1.0 moment.1.1.0,
                    all_three _ _ _ (eq-eqb y.port x.port (sym same)) value.1.1 moment.1.1.1,
                  ),
                ),
              ),
            ),
          )

      told : TakenByBoth time x y → meet time x y ≡ true
      told both =
          let p = both.0 in
          let v = both.1.0 in
          let t = both.1.1.0 in
          let ex = both.1.1.1.1.0 in
          let ey = both.1.1.1.1.1 in
          let wx = and_first (word_fits x.port x.lowest x.highest p v) (inside time x.window t) ex in
          let wy = and_first (word_fits y.port y.lowest y.highest p v) (inside time y.window t) ey in
          let ix = and_second (word_fits x.port x.lowest x.highest p v) (inside time x.window t) ex in
          let iy = and_second (word_fits y.port y.lowest y.highest p v) (inside time y.window t) ey in
          let sx = eqb-true x.port p (and_first (eqb x.port p) (leb x.lowest v && leb v x.highest) wx) in
          let sy = eqb-true y.port p (and_first (eqb y.port p) (leb y.lowest v && leb v y.highest) wy) in
          let vx = and_second (eqb x.port p) (leb x.lowest v && leb v x.highest) wx in
          let vy = and_second (eqb y.port p) (leb y.lowest v && leb v y.highest) wy in
          ap₂ ◌&&◌ (eq-eqb x.port y.port (sx ∙ sym sy))
          (ap₂ ◌&&◌ (value_common x.lowest x.highest y.lowest y.highest v vx vy)
          (((windows_mean time).shared_moment x.window y.window px py).1 (t, (both.1.1.1.0, (ix, iy)))))

pub takes_as_cut : TakesAsCut
takes_as_cut = record {
  edges = λ o life e p v t pt pl pw. ap (λ b. word_fits e.port e.lowest e.highest p v && b) (windows_count o life e.window t pt pl pw);
  transitions = λ bound x p v t pt. go bound x.label x p v t pt;
}
  where
    go : (bound : Option ℕ) (l : Label) (x : Transition) (p v : ℕ) (t : Fraction) → Proper t →
        taken (heard bound x.guard l) p v t ≡ ((label_fits l p v && inside whole x.guard t) && within_bound bound t)
    go bound Silent x p v t pt = refl
    go bound (Hears port lowest highest) x p v t pt =
        ap (λ b. word_fits port lowest highest p v && b) (guards_count bound x.guard t pt)
        ∙ and_assoc (word_fits port lowest highest p v) (inside whole x.guard t) (within_bound bound t)
    go bound (Sends port value) x p v t pt = refl
