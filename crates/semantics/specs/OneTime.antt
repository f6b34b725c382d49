-- Equal fractions are one time: no test that meanings, rules and printing use tells them apart.
use Rattle.std.specs.Prelude.{◌≡◌, ℕ, ◌≤◌, Some, None, Option}
use Rattle.semantics.specs.Times.{Fraction, fraction, Proper, HighEnd, Closed, Open, Absent, Window, Order, at_most, before, same_time, plus, over, inside, counts, itself, whole}
use Rattle.semantics.specs.Trees.{Edge, Phase, Transition, Location}
use Rattle.semantics.specs.Scales.{ticks}
use Rattle.semantics.specs.Fits.{edge_fits, transition_fits, within_bound}
use Rattle.semantics.specs.Membership.{SameTime}
use Rattle.semantics.specs.Meanings.{quiet_stance, location_stance}
use Rattle.semantics.specs.ModelRules.{lasts, is_over}
use Rattle.semantics.specs.AutomatonRules.{at_bound}

-- t and u are one time
pub record AreOneTime (t u : Fraction) : Type 0 where
  pub left : Proper t
  pub right : Proper u
  pub equal : SameTime t u

-- so are two lifetimes, the ends of two windows, and two edges but for the fractions that they are written in
abbrev pub OneLife : Option Fraction → Option Fraction → Type 0
OneLife None None = Unit {0}
OneLife None (Some u) = ⊥
OneLife (Some t) None = ⊥
OneLife (Some t) (Some u) = AreOneTime t u

abbrev pub OneEnd : HighEnd Fraction → HighEnd Fraction → Type 0
OneEnd (Closed t) (Closed u) = AreOneTime t u
OneEnd (Closed t) (Open u) = ⊥
OneEnd (Closed t) Absent = ⊥
OneEnd (Open t) (Closed u) = ⊥
OneEnd (Open t) (Open u) = AreOneTime t u
OneEnd (Open t) Absent = ⊥
OneEnd Absent (Closed u) = ⊥
OneEnd Absent (Open u) = ⊥
OneEnd Absent Absent = Unit {0}

pub record OneWindow (v w : Window Fraction) : Type 0 where
  pub lows : AreOneTime v.low w.low
  pub opens : v.low_open ≡ w.low_open
  pub highs : OneEnd v.high w.high

pub record OneEdge (d e : Edge) : Type 0 where
  pub ports : d.port ≡ e.port
  pub lowests : d.lowest ≡ e.lowest
  pub highests : d.highest ≡ e.highest
  pub windows : OneWindow d.window e.window

pub record EqualFractionsAreOneTime : Type 0 where
  -- comparisons, at both places; sums and parts of a time
  pub at_most_same : (t u x y : Fraction) → AreOneTime t u → AreOneTime x y → at_most t x ≡ at_most u y
  pub before_same : (t u x y : Fraction) → AreOneTime t u → AreOneTime x y → before t x ≡ before u y
  pub same_time_same : (t u x y : Fraction) → AreOneTime t u → AreOneTime x y → same_time t x ≡ same_time u y
  pub plus_same : (t u x y : Fraction) → AreOneTime t u → AreOneTime x y → AreOneTime (plus t x) (plus u y)
  pub over_same : (t u : Fraction) (k : ℕ) → 1 ≤ k → AreOneTime t u → AreOneTime (over t k) (over u k)
  pub ticks_same : (s : ℕ) (t u : Fraction) → AreOneTime t u → ticks s t ≡ ticks s u
  -- windows, lifetimes, edges, guards and bounds
  pub inside_same : (v w : Window Fraction) (t u : Fraction) → OneWindow v w → AreOneTime t u → inside itself v t ≡ inside itself w u
  pub counts_same : (o : Order) (l k : Option Fraction) (t u : Fraction) → OneLife l k → AreOneTime t u → counts o l t ≡ counts o k u
  pub edge_same : (o : Order) (l k : Option Fraction) (p v : ℕ) (t u : Fraction) (d e : Edge) → OneLife l k → AreOneTime t u → OneEdge d e →
      edge_fits o l p v t d ≡ edge_fits o k p v u e
  pub guard_same : (g : Window ℕ) (t u : Fraction) → AreOneTime t u → inside whole g t ≡ inside whole g u
  pub transition_same : (p v : ℕ) (t u : Fraction) (x : Transition) → AreOneTime t u → transition_fits p v t x ≡ transition_fits p v u x
  pub bound_same : (b : Option ℕ) (t u : Fraction) → AreOneTime t u → within_bound b t ≡ within_bound b u
  pub at_bound_same : (b : Option ℕ) (t u : Fraction) → AreOneTime t u → at_bound b t ≡ at_bound b u
  pub lasts_same : (l k : Option Fraction) (t u : Fraction) → OneLife l k → AreOneTime t u → lasts l t ≡ lasts k u
  pub is_over_same : (l k : Option Fraction) (t u : Fraction) → OneLife l k → AreOneTime t u → is_over l t ≡ is_over k u
  -- e parts of q to a tick are what d parts of r to a tick are, wherever a stance is asked what it hears
  pub model_hears_same : (o : Order) (scale i : ℕ) (f : Phase) (p v e q d r : ℕ) → 1 ≤ scale → AreOneTime (fraction e q) (fraction d r) →
      (quiet_stance o scale i f).hears p v e q ≡ (quiet_stance o scale i f).hears p v d r
  pub automaton_hears_same : (l : Location) (p v e q d r : ℕ) → AreOneTime (fraction e q) (fraction d r) →
      (location_stance l).hears p v e q ≡ (location_stance l).hears p v d r
