-- The tests of times, windows and words decide what they say.
use Rattle.std.proofs.Common.{ℕ, ◌≤◌, Bool, true, false, leb, Some, None, Decides, Option, refl}
use Rattle.std.proofs.lemmas.Bool.{leb-true, le-leb, false≢true}
use Rattle.std.proofs.lemmas.Bool.Decides.{Decides-and, Decides-ltb, Decides-eqb}
use Rattle.semantics.specs.Times.{Fraction, HighEnd, Closed, Open, Absent, Window, Order, StepFirst, WordFirst, at_most, before, past_low, under_high, inside, counts, itself, whole}
use Rattle.semantics.specs.Trees.{Label, Silent, Hears, Sends}
use Rattle.semantics.specs.Fits.{word_fits, label_fits, within_bound}
use Rattle.semantics.specs.Membership.{AtMost, Before, PastLow, UnderHigh, Inside, Counts, WordFits, LabelFits, WithinBound, Membership}

decides_leb : (a b : ℕ) → Decides (leb a b) (a ≤ b)
decides_leb a b = (leb-true a b, le-leb a b)

always : Decides true (Unit {0})
always = ((λ e. tt), (λ u. refl))

never : Decides false ⊥
never = (false≢true, (λ z. absurd z))

at_most_decides : (x y : Fraction) → Decides (at_most x y) (AtMost x y)
at_most_decides x y = decides_leb _ _

before_decides : (x y : Fraction) → Decides (before x y) (Before x y)
before_decides x y = Decides-ltb _ _

module _ {T : Type 0} (time : T → Fraction) where
  low_decides : (o : Bool) (low : T) (t : Fraction) → Decides (past_low time o low t) (PastLow time o low t)
  low_decides true low t = before_decides (time low) t
  low_decides false low t = at_most_decides (time low) t

  high_decides : (h : HighEnd T) (t : Fraction) → Decides (under_high time h t) (UnderHigh time h t)
  high_decides (Closed h) t = at_most_decides t (time h)
  high_decides (Open h) t = before_decides t (time h)
  high_decides Absent t = always

  inside_decides : (w : Window T) (t : Fraction) → Decides (inside time w t) (Inside time w t)
  inside_decides w t = Decides-and _ _ (low_decides w.low_open w.low t) (high_decides w.high t)

counts_decides : (o : Order) (life : Option Fraction) (t : Fraction) → Decides (counts o life t) (Counts o life t)
counts_decides StepFirst None t = always
counts_decides WordFirst None t = always
counts_decides StepFirst (Some life) t = before_decides t life
counts_decides WordFirst (Some life) t = at_most_decides t life

word_decides : (port lowest highest p v : ℕ) → Decides (word_fits port lowest highest p v) (WordFits port lowest highest p v)
word_decides port lowest highest p v =
    Decides-and _ _ (Decides-eqb port p) (Decides-and _ _ (decides_leb lowest v) (decides_leb v highest))

label_decides : (l : Label) (p v : ℕ) → Decides (label_fits l p v) (LabelFits l p v)
label_decides Silent p v = never
label_decides (Hears port lowest highest) p v = word_decides port lowest highest p v
label_decides (Sends port value) p v = never

bound_decides : (b : Option ℕ) (t : Fraction) → Decides (within_bound b t) (WithinBound b t)
bound_decides None t = always
bound_decides (Some b) t = at_most_decides t (whole b)

pub membership : Membership
membership = record {
  at_most_decides = at_most_decides;
  before_decides = before_decides;
  same_time_decides = λ x y. Decides-eqb _ _;
  window_decides = inside_decides itself;
  guard_decides = inside_decides whole;
  counts_decides = counts_decides;
  word_decides = word_decides;
  edge_decides = λ o life p v t e.
      Decides-and _ _ (word_decides e.port e.lowest e.highest p v)
      (Decides-and _ _ (inside_decides itself e.window t) (counts_decides o life t));
  transition_decides = λ p v t x. Decides-and _ _ (label_decides x.label p v) (inside_decides whole x.guard t);
  bound_decides = bound_decides;
}
