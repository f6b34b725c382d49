-- The tests of cut windows, as lawful trees ask for them.
use Rattle.std.specs.Prelude.{◌≡◌, ℕ, true, not, Some, Decides, Option}
use Rattle.records.specs.Fits.{WindowFits}
use Rattle.semantics.specs.Times.{Fraction, Proper, Window, Order, inside, itself, whole}
use Rattle.semantics.specs.Trees.{Edge, Transition}
use Rattle.semantics.specs.Fits.{edge_fits, transition_fits, within_bound}
use Rattle.semantics.specs.LawfulModels.{WindowHolds}
use Rattle.spans.specs.Spans.{counted, bounded, no_time}
use Rattle.spans.specs.Hearings.{Hearing, hearing, heard, meet}
use Rattle.spans.specs.Meaning.{ProperLife}

-- some moment up to and with the bound is in the guard
abbrev pub GuardHolds : Option ℕ → Window ℕ → Type 0
GuardHolds bound g = (t : Fraction) × (Proper t × ((inside whole g t ≡ true) × (within_bound bound t ≡ true)))

-- there are a port, a value and a moment that both edges take
abbrev pub EdgesShare : Order → Option Fraction → Edge → Edge → Type 0
EdgesShare o life e f =
    (p : ℕ) × ((v : ℕ) × ((t : Fraction) × (Proper t × ((edge_fits o life p v t e ≡ true) × (edge_fits o life p v t f ≡ true)))))

-- the same of two transitions, at a moment up to and with the bound
abbrev pub TransitionsShare : Option ℕ → Transition → Transition → Type 0
TransitionsShare bound x y =
    (p : ℕ) × ((v : ℕ) × ((t : Fraction) × (Proper t × ((within_bound bound t ≡ true) × ((transition_fits p v t x ≡ true) × (transition_fits p v t y ≡ true))))))

pub record HoldsExactly : Type 0 where
  -- an edge's window that counts holds a time exactly if some moment is in it
  pub windows : (o : Order) (life : Option Fraction) (e : Edge) → ProperLife life → WindowFits Proper e.window →
      Decides (not (no_time itself (counted itself o life e.window))) (WindowHolds o life e)
  pub guards : (bound : Option ℕ) (g : Window ℕ) → Decides (not (no_time whole (bounded whole bound g))) (GuardHolds bound g)
  -- two edges of a phase meet exactly if they share port, value and moment
  pub edges : (o : Order) (life : Option Fraction) (e f : Edge) →
      ProperLife life → WindowFits Proper e.window → WindowFits Proper f.window →
      Decides
      (meet itself (hearing e.port e.lowest e.highest (counted itself o life e.window)) (hearing f.port f.lowest f.highest (counted itself o life f.window)))
      (EdgesShare o life e f)
  -- and so do two hearing transitions of a location
  pub transitions : (bound : Option ℕ) (x y : Transition) (h k : Hearing ℕ) →
      heard bound x.guard x.label ≡ Some h → heard bound y.guard y.label ≡ Some k →
      Decides (meet whole h k) (TransitionsShare bound x y)
