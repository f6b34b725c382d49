-- What two hearings share, in plain terms; and what edges and transitions take, once their windows are cut.
use Rattle.std.specs.Prelude.{◌≡◌, ℕ, Bool, true, false, ◌&&◌, Some, None, Decides, Option}
use Rattle.records.specs.Fits.{WindowFits}
use Rattle.semantics.specs.Times.{Fraction, Proper, HighEnd, Order, itself, whole}
use Rattle.semantics.specs.Trees.{Edge, Transition}
use Rattle.semantics.specs.Fits.{edge_fits, transition_fits, within_bound}
use Rattle.semantics.specs.Print.{cut_high}
use Rattle.spans.specs.Spans.{counted, nearer, lifetime_end}
use Rattle.spans.specs.Hearings.{Hearing, hearing, heard, takes, meet}
use Rattle.spans.specs.Meaning.{ProperLife, EndsProper}

-- Of two hearings, in a kind of time: there are a port, a value and a moment that both take.
module _ {T : Type 0} (time : T → Fraction) where
  abbrev pub TakenByBoth : Hearing T → Hearing T → Type 0
  TakenByBoth x y =
      (p : ℕ) × ((v : ℕ) × ((t : Fraction) × (Proper t × ((takes time x p v t ≡ true) × (takes time y p v t ≡ true)))))

  -- They are said to meet exactly then.
  abbrev pub MeetExactly : Type 0
  MeetExactly =
      (x y : Hearing T) → EndsProper time x.window → EndsProper time y.window → Decides (meet time x y) (TakenByBoth x y)

-- what a transition takes, if it hears at all
abbrev pub taken : Option (Hearing ℕ) → ℕ → ℕ → Fraction → Bool
taken None p v t = false
taken (Some x) p v t = takes whole x p v t

-- An edge of a tree takes at a moment what it takes with its window cut at the lifetime, and a transition what it takes
-- with its guard cut at the bound.
pub record TakesAsCut : Type 0 where
  pub edges : (o : Order) (life : Option Fraction) (e : Edge) (p v : ℕ) (t : Fraction) →
      Proper t → ProperLife life → WindowFits Proper e.window →
      takes itself (hearing e.port e.lowest e.highest (counted itself o life e.window)) p v t ≡ edge_fits o life p v t e
  pub transitions : (bound : Option ℕ) (x : Transition) (p v : ℕ) (t : Fraction) → Proper t →
      taken (heard bound x.guard x.label) p v t ≡ (transition_fits p v t x && within_bound bound t)

-- In ticks, the high end of the window that counts is the one that printing writes.
abbrev pub CutAsPrinted : Type 0
CutAsPrinted = (o : Order) (life : Option ℕ) (high : HighEnd ℕ) → nearer whole high (lifetime_end o life) ≡ cut_high o life high
