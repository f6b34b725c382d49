-- Scales: how many ticks a second has, computed from the tree; and times in ticks.
use Rattle.std.specs.Prelude.{ℕ, zero, suc, ◌*◌, ◌/◌, ◌%◌, min, max, cond, List, [], ◌∷◌, ◌++◌, map, Some, None, Option, ◌==◌}
use Rattle.std.specs.Option.{option_map}
use Rattle.std.specs.List.{flat_map}
use Rattle.semantics.specs.Times.{Fraction, HighEnd, Closed, Open, Absent}
use Rattle.semantics.specs.Trees.{Edge, Phase, Station, ModelNet, AutomatonNet, lifetime_of, edges_of}

-- the first of a × k, a × (k + 1), .. that d divides, among n of them
abbrev pub first_multiple : ℕ → ℕ → ℕ → ℕ → ℕ
first_multiple a d k zero = a * k
first_multiple a d k (suc n) =
    let later = first_multiple a d (suc k) n in
    cond (a * k % d == 0) (a * k) later

-- The least common multiple is the first multiple of the larger number that the smaller one divides. With 0 it is the
-- other number, so that a denominator of 0 counts for nothing.
abbrev pub lcm : ℕ → ℕ → ℕ
lcm a d = first_multiple (max a d) (min a d) 1 (min a d)

abbrev pub lcm_all : ℕ → List ℕ → ℕ
lcm_all a [] = a
lcm_all a (d ∷ ds) = lcm_all (lcm a d) ds

-- The denominators of a phase: of its lifetime, and of every end of its edges' windows, ends that are cut away too.
abbrev pub life_denominators : Option Fraction → List ℕ
life_denominators None = []
life_denominators (Some t) = t.denominator ∷ []

abbrev pub high_denominators : HighEnd Fraction → List ℕ
high_denominators (Closed h) = h.denominator ∷ []
high_denominators (Open h) = h.denominator ∷ []
high_denominators Absent = []

abbrev pub edge_denominators : Edge → List ℕ
edge_denominators e = e.window.low.denominator ∷ high_denominators e.window.high

abbrev pub phase_denominators : Phase → List ℕ
phase_denominators f = life_denominators (lifetime_of f) ++ flat_map edge_denominators (edges_of f)

-- a station's scale: the least common multiple of its denominators, or 1
abbrev pub scale_of : List Phase → ℕ
scale_of phases = lcm_all 1 (flat_map phase_denominators phases)

abbrev pub station_scale : Station → ℕ
station_scale st = scale_of st.phases

-- the net's scale: that of its stations' scales
abbrev pub model_scale : ModelNet → ℕ
model_scale m = lcm_all 1 (map station_scale m.stations)

abbrev pub automaton_scale : AutomatonNet → ℕ
automaton_scale a = lcm_all 1 (map (λ x. x.scale) a.automata)

-- a time in ticks, s to the second
abbrev pub ticks : ℕ → Fraction → ℕ
ticks s t = t.numerator * s / t.denominator

-- a lifetime in ticks; an endless one has none
abbrev pub life_ticks : ℕ → Option Fraction → Option ℕ
life_ticks s life = option_map (ticks s) life
