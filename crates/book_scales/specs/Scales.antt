-- The scales of a book's stations and of its net, by its records.
use Rattle.std.specs.Prelude.{ℕ, Bool, false, not, List, [], ◌∷◌, ◌++◌, is_some}
use Rattle.std.specs.Option.{unwrap_or}
use Rattle.std.specs.List.{flat_map}
use Rattle.semantics.specs.Scales.{lcm_all, life_denominators, high_denominators}
use Rattle.scales.specs.Limited.{limited}
use Rattle.visits.specs.Visits.{Rule, stations, phases, edges}
use Rattle.fields.specs.Fields.{lifetime_at, edge_at, automaton_at}

-- the denominators of edge e: of both ends of its window
abbrev pub edge_denominators : List ℕ → ℕ → List ℕ
edge_denominators b e = (edge_at b e).window.low.denominator ∷ high_denominators (edge_at b e).window.high

-- of phase p: of its lifetime, and of its edges
abbrev pub phase_denominators : List ℕ → ℕ → List ℕ
phase_denominators b p = life_denominators (lifetime_at b p) ++ flat_map (edge_denominators b) (edges b p)

-- the scale of station s: the least common multiple of its denominators, or 1
abbrev pub scale_at : List ℕ → ℕ → ℕ
scale_at b s = lcm_all 1 (flat_map (phase_denominators b) (phases b s))

-- Scale: a station's is over 1,000,000.
abbrev pub station_scales : List ℕ → Rule
station_scales b = record {
  station = λ i s. not (is_some (limited (scale_at b s)));
  phase = λ s i p. false;
  edge = λ s p e. false;
  word = λ i w. false;
}

-- a station's scale; one over the limit, which is refused first, counts for nothing in the net's
abbrev pub fitting_scale : List ℕ → ℕ → ℕ
fitting_scale b s = unwrap_or (limited (scale_at b s)) 0

-- Scale: the net's is over 1,000,000.
abbrev pub wrong_net_scale : List ℕ → Bool
wrong_net_scale scales = not (is_some (limited (lcm_all 1 scales)))

abbrev pub model_scales : List ℕ → List ℕ
model_scales b = flat_map (λ s. fitting_scale b s ∷ []) (stations b)

abbrev pub automaton_scales : List ℕ → List ℕ
automaton_scales b = flat_map (λ s. (automaton_at b s).scale ∷ []) (stations b)
