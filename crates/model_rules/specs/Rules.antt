-- The rules of a model book about goals and about limits: for each record, where it stands, whether it breaks the rule.
use Rattle.std.specs.Prelude.{Bool, false, cond, not, ◌&&◌, ◌||◌, List, ℕ, eqb, ltb}
use Rattle.book.specs.declared.record.Edge.{Edge}
use Rattle.book.specs.declared.record.Fraction.{Fraction}
use Rattle.book.specs.declared.record.HighEnd.{HighEnd}
use Rattle.book.specs.declared.record.HighEnd.TheVariants.{Closed, Open, Absent}
use Rattle.book.specs.declared.record.Phase.{Phase}
use Rattle.visits.specs.Visits.{Rule, phases}
use Rattle.chains.specs.Some.{among}
use Rattle.fields.specs.Fields.{station_at, phase_at, edge_at, is_endless}

-- record k is no phase of station s
abbrev pub outside : List ℕ → ℕ → ℕ → Bool
outside b s k = not (among k (phases b s))

-- an endless phase has neither a next phase nor a word, and a finite one has a next phase in its station
abbrev pub wrong_next : List ℕ → ℕ → Phase → Bool
wrong_next b s p =
    let astray = outside b s p.next_phase in
    let left_over = not (eqb p.next_phase 0) || not (eqb p.first_word 0) in
    cond (is_endless p.lifetime) left_over astray

-- Goals: openings, next phases and goals are phases of the record's own station.
abbrev pub goals : List ℕ → Rule
goals b = record {
  station = λ i s. outside b s (station_at b s).opening;
  phase = λ s i p. wrong_next b s (phase_at b p);
  edge = λ s p e. outside b s (edge_at b e).goal;
  word = λ i w. false;
}

-- a numerator is at most 1,000,000, and a denominator at most 1,000
abbrev pub too_large : Fraction → Bool
too_large t = ltb 1000000 t.numerator || ltb 1000 t.denominator

-- a time within these limits has a denominator that is not 0
abbrev pub wrong_time : Fraction → Bool
wrong_time t = too_large t || eqb t.denominator 0

-- a lifetime is endless, or such a time
abbrev pub wrong_lifetime : Fraction → Bool
wrong_lifetime t = not (is_endless t) && wrong_time t

abbrev pub wrong_high : HighEnd Fraction → Bool
wrong_high (Closed t) = wrong_time t
wrong_high (Open t) = wrong_time t
wrong_high Absent = false

-- an edge's ends are such times, and its lowest value is not over its highest
abbrev pub wrong_edge : Edge → Bool
wrong_edge e = (wrong_time e.window.low || wrong_high e.window.high) || ltb e.highest e.lowest

-- Limits: these, and at most 16 stations, 200 phases of a station and 4 words of a phase. Places count from 0, so that 16
-- is the place of the 17th.
abbrev pub limits : List ℕ → Rule
limits b = record {
  station = λ i s. eqb i 16;
  phase = λ s i p. eqb i 200 || wrong_lifetime (phase_at b p).lifetime;
  edge = λ s p e. wrong_edge (edge_at b e);
  word = λ i w. eqb i 4;
}
