-- What edges and hearing transitions take, once their windows are cut, and whether two take one word at one moment.
use Rattle.std.specs.Prelude.{ℕ, Bool, ◌&&◌, Some, None, Option, ◌==◌, nat_le}
use Rattle.book.specs.declared.record.Edge.{Edge}
use Rattle.book.specs.declared.record.Transition.{Transition}
use Rattle.book.specs.declared.record.Label.{Label}
use Rattle.book.specs.declared.record.Label.TheVariants.{Silent, Hears, Sends}
use Rattle.semantics.specs.Times.{Fraction, Window, Order, inside, itself, whole}
use Rattle.semantics.specs.Fits.{word_fits}
use Rattle.spans.specs.Spans.{counted, bounded, shares_moment}
pub use Rattle.spans.specs.declared.hearing.Hearing.{Hearing}

abbrev pub hearing : {T : Type 0} → ℕ → ℕ → ℕ → Window T → Hearing T
hearing port lowest highest w = record { port = port; lowest = lowest; highest = highest; window = w }

-- an edge's, in a phase with this lifetime: its moments are those that count
abbrev pub edge_hearing : Order → Option Fraction → Edge → Hearing Fraction
edge_hearing o life e = hearing e.port e.lowest e.highest (counted itself o life e.window)

-- a transition's, in a location with this bound: its moments are the guard's up to and with the bound. Only one that
-- hears has any.
abbrev pub heard : Option ℕ → Window ℕ → Label → Option (Hearing ℕ)
heard bound guard Silent = None
heard bound guard (Hears port lowest highest) = Some (hearing port lowest highest (bounded whole bound guard))
heard bound guard (Sends port value) = None

abbrev pub transition_hearing : Option ℕ → Transition → Option (Hearing ℕ)
transition_hearing bound t = heard bound t.guard t.label

-- two ranges of values, each from lowest to highest, have a value in common
abbrev pub share_value : ℕ → ℕ → ℕ → ℕ → Bool
share_value l h m k = nat_le l h && (nat_le l k && (nat_le m h && nat_le m k))

module _ {T : Type 0} (time : T → Fraction) where
  -- the word of value v on the port p is taken at the moment t
  abbrev pub takes : Hearing T → ℕ → ℕ → Fraction → Bool
  takes x p v t = word_fits x.port x.lowest x.highest p v && inside time x.window t

  -- port, value and moment can be shared
  abbrev pub meet : Hearing T → Hearing T → Bool
  meet x y =
      (x.port == y.port)
      && (share_value x.lowest x.highest y.lowest y.highest && shares_moment time x.window y.window)
