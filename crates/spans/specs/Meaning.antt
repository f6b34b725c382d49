-- What the tests of windows say of all moments. A moment is any fraction that is a time, not only a whole tick.
use Rattle.std.specs.Prelude.{◌≡◌, ℕ, true, false, ◌&&◌, Some, None, Decides, Option}
use Rattle.records.specs.Fits.{WindowFits}
use Rattle.semantics.specs.Times.{Fraction, Proper, Window, Order, inside, counts, itself, whole}
use Rattle.semantics.specs.Fits.{within_bound}
use Rattle.spans.specs.Spans.{counted, bounded, no_time, shared_window, shares_moment}

abbrev pub ProperLife : Option Fraction → Type 0
ProperLife None = Unit {0}
ProperLife (Some life) = Proper life

-- The cut window's moments are the written one's moments that count.
abbrev pub WindowsCount : Type 0
WindowsCount =
    (o : Order) (life : Option Fraction) (w : Window Fraction) (t : Fraction) →
    Proper t → ProperLife life → WindowFits Proper w →
    inside itself (counted itself o life w) t ≡ (inside itself w t && counts o life t)

-- The cut guard's moments are the written one's moments that are not past the bound.
abbrev pub GuardsCount : Type 0
GuardsCount =
    (bound : Option ℕ) (g : Window ℕ) (t : Fraction) → Proper t →
    inside whole (bounded whole bound g) t ≡ (inside whole g t && within_bound bound t)

-- For a kind of time, whose ends are times.
module _ {T : Type 0} (time : T → Fraction) where
  abbrev pub EndsProper : Window T → Type 0
  EndsProper w = WindowFits (λ x. Proper (time x)) w

  -- a moment of the window
  abbrev pub MomentIn : Window T → Type 0
  MomentIn w = (t : Fraction) × (Proper t × (inside time w t ≡ true))

  -- a moment of both
  abbrev pub MomentInBoth : Window T → Window T → Type 0
  MomentInBoth v w = (t : Fraction) × (Proper t × ((inside time v t ≡ true) × (inside time w t ≡ true)))

  pub record WindowsMean : Type 0 where
    -- a window that is said to hold no time has no moment, and any other has one
    pub none_inside : (w : Window T) → EndsProper w → no_time time w ≡ true →
        (t : Fraction) → Proper t → inside time w t ≡ false
    pub one_inside : (w : Window T) → EndsProper w → no_time time w ≡ false → MomentIn w
    -- the moments of the shared window are those of both
    pub sharing : (v w : Window T) (t : Fraction) → Proper t → EndsProper v → EndsProper w →
        inside time (shared_window time v w) t ≡ (inside time v t && inside time w t)
    -- two windows share a moment exactly if there is one
    pub shared_moment : (v w : Window T) → EndsProper v → EndsProper w → Decides (shares_moment time v w) (MomentInBoth v w)
