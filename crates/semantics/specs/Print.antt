-- Printing: the automaton net of a model net.
use Rattle.std.specs.Prelude.{ℕ, zero, suc, ◌+◌, true, false, cond, List, [], ◌∷◌, ◌++◌, map, length, drop, Some, None, Option, nat_le, nat_lt}
use Rattle.std.specs.List.{flat_map}
use Rattle.semantics.specs.Times.{Fraction, HighEnd, Closed, Open, Absent, Window, Order, StepFirst, WordFirst}
use Rattle.semantics.specs.Trees.{Word, Edge, Phase, lifetime_of, words_of, edges_of, next_of, Station, ModelNet, Silent, Hears, Sends, Transition, Location, Automaton, AutomatonNet}
use Rattle.semantics.specs.Scales.{ticks, life_ticks, scale_of}

-- The window that counts, in ticks: its high end is cut open at the bound under step first, and closed under word first,
-- unless it lies before that already.
abbrev pub tick_high : ℕ → HighEnd Fraction → HighEnd ℕ
tick_high s (Closed h) = Closed (ticks s h)
tick_high s (Open h) = Open (ticks s h)
tick_high s Absent = Absent

abbrev pub cut_high : Order → Option ℕ → HighEnd ℕ → HighEnd ℕ
cut_high o None high = high
cut_high StepFirst (Some b) Absent = Open b
cut_high StepFirst (Some b) (Closed h) = cond (nat_lt h b) (Closed h) (Open b)
cut_high StepFirst (Some b) (Open h) = cond (nat_lt h b) (Open h) (Open b)
cut_high WordFirst (Some b) Absent = Closed b
cut_high WordFirst (Some b) (Closed h) = cond (nat_le h b) (Closed h) (Closed b)
cut_high WordFirst (Some b) (Open h) = cond (nat_le h b) (Open h) (Closed b)

abbrev pub hearing_guard : Order → ℕ → Option Fraction → Window Fraction → Window ℕ
hearing_guard o s life w = record {
  low = ticks s w.low;
  low_open = w.low_open;
  high = cut_high o (life_ticks s life) (tick_high s w.high);
}

-- the guard of a move: from b on
abbrev pub from_on : ℕ → Window ℕ
from_on b = record { low = b; low_open = false; high = Absent }

-- A phase with k words has a location and k − 1 committed ones behind it. The place of a phase's location is the number
-- of locations of the phases before it.
abbrev pub locations_for : List Word → ℕ
locations_for [] = 1
locations_for (w ∷ ws) = suc (length ws)

abbrev pub place_of : List Phase → ℕ → ℕ
place_of phases zero = 0
place_of [] (suc i) = 0
place_of (f ∷ phases) (suc i) = locations_for (words_of f) + place_of phases i

-- an edge as a hearing transition; `all` are the station's phases
abbrev pub print_edge : Order → ℕ → List Phase → Option Fraction → Edge → Transition
print_edge o s all life e = record {
  goal = place_of all e.goal;
  label = Hears e.port e.lowest e.highest;
  resets = true;
  guard = hearing_guard o s life e.window;
}

-- The move from the location at `here` that sends w: with words to follow it goes to the committed location behind it,
-- and the clock runs on; after the last it goes to `next`, which is not committed, and the clock restarts.
abbrev pub print_sending : ℕ → ℕ → Window ℕ → Word → List Word → Transition
print_sending here next g w [] = record { goal = next; label = Sends w.port w.value; resets = true; guard = g }
print_sending here next g w (x ∷ xs) = record { goal = suc here; label = Sends w.port w.value; resets = false; guard = g }

abbrev pub print_move : ℕ → ℕ → Window ℕ → List Word → Transition
print_move here next g [] = record { goal = next; label = Silent; resets = true; guard = g }
print_move here next g (w ∷ ws) = print_sending here next g w ws

-- the move of a phase's location, from its bound on; an endless one has none
abbrev pub print_moves : ℕ → ℕ → Option ℕ → List Word → List Transition
print_moves here next None words = []
print_moves here next (Some b) words = print_move here next (from_on b) words ∷ []

-- the committed locations of the phase at place i, for the words behind the first, the first of them at `here`
abbrev pub print_committed : ℕ → ℕ → ℕ → ℕ → List Word → List Location
print_committed i next here sent [] = []
print_committed i next here sent (w ∷ ws) =
    record { phase = suc i; sent = sent; committed = true; bound = None; transitions = print_sending here next (from_on 0) w ws ∷ [] }
    ∷ print_committed i next (suc here) (suc sent) ws

-- the location of the phase f at place i, at `here`; a lifetime of 0 gives the bound 0, and is not committed
abbrev pub print_quiet : Order → ℕ → List Phase → ℕ → ℕ → Phase → Location
print_quiet o s all i here f = record {
  phase = suc i;
  sent = 0;
  committed = false;
  bound = life_ticks s (lifetime_of f);
  transitions =
      map (print_edge o s all (lifetime_of f)) (edges_of f)
      ++ print_moves here (place_of all (next_of f)) (life_ticks s (lifetime_of f)) (words_of f);
}

-- all the locations of one phase
abbrev pub print_phase : Order → ℕ → List Phase → ℕ → ℕ → Phase → List Location
print_phase o s all i here f =
    print_quiet o s all i here f ∷ print_committed i (place_of all (next_of f)) (suc here) 1 (drop 1 (words_of f))

-- each phase's locations, from the phase at place i and the location at `here` on
abbrev pub print_phases : Order → ℕ → List Phase → ℕ → ℕ → List Phase → List (List Location)
print_phases o s all i here [] = []
print_phases o s all i here (f ∷ phases) =
    print_phase o s all i here f ∷ print_phases o s all (suc i) (here + locations_for (words_of f)) phases

-- The locations of a station, phase by phase. A book keeps each phase's locations and transitions together.
abbrev pub station_locations : Order → Station → List (List Location)
station_locations o st = print_phases o (scale_of st.phases) st.phases 0 0 st.phases

abbrev pub print_station : Order → Station → Automaton
print_station o st = record {
  scale = scale_of st.phases;
  opening = place_of st.phases st.opening;
  locations = flat_map (λ ls. ls) (station_locations o st);
}

abbrev pub print : ModelNet → AutomatonNet
print m = record {
  order = m.order;
  automata = map (print_station m.order) m.stations;
  paths = m.paths;
}
