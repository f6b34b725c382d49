-- The rules of an automaton book about goals and about limits: for each record, where it stands, whether it breaks the
-- rule. Automata, locations and transitions stand where a model book has stations, phases and edges.
use Rattle.std.specs.Prelude.{ℕ, ◌*◌, Bool, false, not, ◌||◌, List, Some, None, Option, ◌==◌, nat_lt}
use Rattle.book.specs.declared.record.HighEnd.{HighEnd}
use Rattle.book.specs.declared.record.HighEnd.TheVariants.{Closed, Open, Absent}
use Rattle.book.specs.declared.record.Label.{Label}
use Rattle.book.specs.declared.record.Label.TheVariants.{Silent, Hears, Sends}
use Rattle.book.specs.declared.record.Transition.{Transition}
use Rattle.visits.specs.Visits.{Rule, phases}
use Rattle.chains.specs.Some.{among}
use Rattle.fields.specs.Fields.{automaton_at, location_at, transition_at}

-- record k is no location of automaton a
abbrev pub outside : List ℕ → ℕ → ℕ → Bool
outside b a k = not (among k (phases b a))

-- Goals: openings and goals are locations of the record's own automaton.
abbrev pub goals : List ℕ → Rule
goals b = record {
  station = λ i a. outside b a (automaton_at b a).opening;
  phase = λ a i l. false;
  edge = λ a l t. outside b a (transition_at b t).goal;
  word = λ i w. false;
}

-- a scale is 1 to 1,000,000
abbrev pub wrong_scale : ℕ → Bool
wrong_scale scale = scale == 0 || nat_lt 1000000 scale

-- the most ticks of a bound, or of an end of a guard: 1,000,000 seconds, whatever the scale is
abbrev pub most_ticks : List ℕ → ℕ → ℕ
most_ticks b a = 1000000 * (automaton_at b a).scale

abbrev pub wrong_bound : ℕ → Option ℕ → Bool
wrong_bound most None = false
wrong_bound most (Some ticks) = nat_lt most ticks

abbrev pub wrong_high : ℕ → HighEnd ℕ → Bool
wrong_high most (Closed ticks) = nat_lt most ticks
wrong_high most (Open ticks) = nat_lt most ticks
wrong_high most Absent = false

-- the lowest value is over the highest
abbrev pub wrong_values : Label → Bool
wrong_values Silent = false
wrong_values (Hears port lowest highest) = nat_lt highest lowest
wrong_values (Sends port value) = false

abbrev pub wrong_transition : ℕ → Transition → Bool
wrong_transition most t = (nat_lt most t.guard.low || wrong_high most t.guard.high) || wrong_values t.label

-- Limits: these, and at most 16 automata. Places count from 0, so that 16 is the place of the 17th.
abbrev pub limits : List ℕ → Rule
limits b = record {
  station = λ i a. (i == 16) || wrong_scale (automaton_at b a).scale;
  phase = λ a i l. wrong_bound (most_ticks b a) (location_at b l).bound;
  edge = λ a l t. wrong_transition (most_ticks b a) (transition_at b t);
  word = λ i w. false;
}
