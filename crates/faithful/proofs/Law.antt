-- What of a lawful model net the proofs go by: every time of a station is in whole ticks of its scale.
use Rattle.std.proofs.Common.{ℕ, ◌<◌, ◌≤◌, List, [], ◌∷◌, ◌++◌, map, length, Some, None, Option}
use Prim.Native.Nat.{◌∣◌}
use native.Mathlib.Nat.{dvd-mul_left_of_dvd}
use Rattle.std.specs.List.{flat_map, AllByRecursion}
use Rattle.records.specs.Fits.{HighFits}
use Rattle.semantics.specs.Times.{Fraction, HighEnd, Closed, Open, Absent, Order}
use Rattle.semantics.specs.Trees.{Edge, Phase, lifetime_of, words_of, edges_of, Station, ModelNet}
use Rattle.semantics.specs.Scales.{life_denominators, high_denominators, edge_denominators, phase_denominators, station_scale, model_scale}
use Rattle.semantics.specs.LawfulModels.{SmallTime, SmallLife, NextHere, LawfulEdge, LawfulPhase, LawfulStation, LawfulModel}
use Rattle.semantics.proofs.Lcm.{least_common}
use Rattle.faithful.proofs.Ticks.{InTicks, LifeInTicks, HighInTicks}

-- an edge of a station with n phases and the scale s
pub record EdgeLaw (s n : ℕ) (e : Edge) : Type 0 where
  pub goal_here : e.goal < n
  pub low_fits : InTicks s e.window.low
  pub high_fits : HighInTicks s e.window.high

pub record PhaseLaw (s n : ℕ) (f : Phase) : Type 0 where
  pub life_fits : LifeInTicks s (lifetime_of f)
  pub next_here : NextHere n f
  pub few_words : length (words_of f) ≤ 4
  pub edges_fit : AllByRecursion (EdgeLaw s n) (edges_of f)

-- a station of a net with the scale L
pub record StationLaw (L : ℕ) (st : Station) : Type 0 where
  pub some_scale : 1 ≤ station_scale st
  pub divides : station_scale st ∣ L
  pub opening_here : st.opening < length st.phases
  pub phases_fit : AllByRecursion (PhaseLaw (station_scale st) (length st.phases)) st.phases

-- all of these numbers that are not 0 divide s
abbrev Divide : ℕ → List ℕ → Type 0
Divide s ds = AllByRecursion (λ d. 1 ≤ d → d ∣ s) ds

pub all_parts : {A : Type 0} (P : A → Type 0) (xs ys : List A) → AllByRecursion P (xs ++ ys) → AllByRecursion P xs × AllByRecursion P ys
all_parts P [] ys h = (tt, h)
all_parts P (x ∷ xs) ys h = let r = all_parts P xs ys h.1 in ((h.0, r.0), r.1)

in_ticks : (s : ℕ) (t : Fraction) → SmallTime t → (1 ≤ t.denominator → t.denominator ∣ s) → InTicks s t
in_ticks s t small h = (small.proper, dvd-mul_left_of_dvd t.denominator (h small.proper) t.numerator)

module _ (s : ℕ) where
  life_law : (life : Option Fraction) → SmallLife life → Divide s (life_denominators life) → LifeInTicks s life
  life_law None small h = tt
  life_law (Some t) small h = in_ticks s t small h.0

  high_law : (h : HighEnd Fraction) → HighFits SmallTime h → Divide s (high_denominators h) → HighInTicks s h
  high_law (Closed t) small h = in_ticks s t small h.0
  high_law (Open t) small h = in_ticks s t small h.0
  high_law Absent small h = tt

  edges_law : (n : ℕ) (es : List Edge) → AllByRecursion (LawfulEdge n) es → Divide s (flat_map edge_denominators es) → AllByRecursion (EdgeLaw s n) es
  edges_law n [] lawful h = tt
  edges_law n (e ∷ es) lawful h =
      let r = all_parts (λ d. 1 ≤ d → d ∣ s) (edge_denominators e) (flat_map edge_denominators es) h in (
        record {
          goal_here = lawful.0.goal_here;
          low_fits = in_ticks s e.window.low lawful.0.low_fits r.0.0;
          high_fits = high_law e.window.high lawful.0.high_fits r.0.1;
        },
        edges_law n es lawful.1 r.1,
      )

  phases_law : (o : Order) (n : ℕ) (fs : List Phase) → AllByRecursion (LawfulPhase o n) fs → Divide s (flat_map phase_denominators fs) → AllByRecursion (PhaseLaw s n) fs
  phases_law o n [] lawful h = tt
  phases_law o n (f ∷ fs) lawful h =
      let r = all_parts (λ d. 1 ≤ d → d ∣ s) (phase_denominators f) (flat_map phase_denominators fs) h in
      let q = all_parts (λ d. 1 ≤ d → d ∣ s) (life_denominators (lifetime_of f)) (flat_map edge_denominators (edges_of f)) r.0 in (
        record {
          life_fits = life_law (lifetime_of f) lawful.0.life_fits q.0;
          next_here = lawful.0.next_here;
          few_words = lawful.0.few_words;
          edges_fit = edges_law n (edges_of f) lawful.0.edges_fit q.1;
        },
        phases_law o n fs lawful.1 r.1,
      )

pub scale_some : (st : Station) → 1 ≤ station_scale st
scale_some st = (least_common (flat_map phase_denominators st.phases)).some

stations_law : (o : Order) (L : ℕ) (sts : List Station) → AllByRecursion (LawfulStation o) sts → Divide L (map station_scale sts) → AllByRecursion (StationLaw L) sts
stations_law o L [] lawful h = tt
stations_law o L (st ∷ sts) lawful h = (
  record {
    some_scale = scale_some st;
    divides = h.0 (scale_some st);
    opening_here = lawful.0.opening_here;
    phases_fit = phases_law (station_scale st) o (length st.phases) st.phases lawful.0.phases_fit
        (least_common (flat_map phase_denominators st.phases)).common;
  },
  stations_law o L sts lawful.1 h.1,
)

-- of the whole net
pub record NetLaw (m : ModelNet) : Type 0 where
  pub some_scale : 1 ≤ model_scale m
  pub stations_fit : AllByRecursion (StationLaw (model_scale m)) m.stations

pub net_law : (m : ModelNet) → LawfulModel m → NetLaw m
net_law m lawful =
    let least = least_common (map station_scale m.stations) in
    record { some_scale = least.some; stations_fit = stations_law m.order (model_scale m) m.stations lawful.stations_fit least.common }
