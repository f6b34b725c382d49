-- Lawful model nets: what the check of a model book asks of its tree. A comment names the fault that a breach is.
use Rattle.std.specs.Prelude.{◌≡◌, ℕ, ◌+◌, ◌<◌, ◌≤◌, true, ◌&&◌, length, Some, None, sum_by, Option}
use Rattle.std.specs.List.{AllByRecursion}
use Rattle.records.specs.Fits.{Byte, HighFits}
use Rattle.semantics.specs.Times.{Fraction, Proper, Order, inside, counts, itself}
use Rattle.semantics.specs.Trees.{Word, Edge, Phase, endless, lasting, lifetime_of, words_of, edges_of, Station, ModelNet}
use Rattle.semantics.specs.Scales.{station_scale, model_scale}
use Rattle.semantics.specs.Fits.{edge_fits}
use Rattle.semantics.specs.Limits.{AtMostOne, LawfulPath}

-- Limits: numerators of at most 1,000,000 and denominators of 1 to 1,000.
pub record SmallTime (t : Fraction) : Type 0 where
  pub numerator_fits : t.numerator ≤ 1000000
  pub proper : Proper t
  pub denominator_fits : t.denominator ≤ 1000

abbrev pub SmallLife : Option Fraction → Type 0
SmallLife None = Unit {0}
SmallLife (Some t) = SmallTime t

abbrev pub LawfulWord : Word → Type 0
LawfulWord w = Byte w.port × Byte w.value

-- an edge of a station with n phases
pub record LawfulEdge (n : ℕ) (e : Edge) : Type 0 where
  pub goal_here : e.goal < n  -- Goals
  pub port_width : Byte e.port
  pub values_ordered : e.lowest ≤ e.highest  -- Limits
  pub value_width : Byte e.highest
  pub low_fits : SmallTime e.window.low  -- Limits
  pub high_fits : HighFits SmallTime e.window.high  -- Limits

abbrev pub NextHere : ℕ → Phase → Type 0
NextHere n (endless edges) = Unit {0}
NextHere n (lasting lifetime words next edges) = next < n

-- some moment is in the window that counts
abbrev pub WindowHolds : Order → Option Fraction → Edge → Type 0
WindowHolds o life e = (t : Fraction) × (Proper t × ((inside itself e.window t && counts o life t) ≡ true))

pub record LawfulPhase (o : Order) (n : ℕ) (f : Phase) : Type 0 where
  pub life_fits : SmallLife (lifetime_of f)  -- Limits
  pub next_here : NextHere n f  -- Goals
  pub few_words : length (words_of f) ≤ 4  -- Limits
  pub words_fit : AllByRecursion LawfulWord (words_of f)
  pub edges_fit : AllByRecursion (LawfulEdge n) (edges_of f)
  pub windows_hold : AllByRecursion (WindowHolds o (lifetime_of f)) (edges_of f)  -- EmptyWindow
  -- no two edges share port, value and moment: SharedMoment
  pub edges_apart : (p v : ℕ) (t : Fraction) → Proper t → AtMostOne (edge_fits o (lifetime_of f) p v t) (edges_of f)

pub record LawfulStation (o : Order) (st : Station) : Type 0 where
  pub opening_here : st.opening < length st.phases  -- Goals
  pub few_phases : length st.phases ≤ 200  -- Limits
  pub scale_fits : station_scale st ≤ 1000000  -- Scale
  pub phases_fit : AllByRecursion (LawfulPhase o (length st.phases)) st.phases

-- how many records a phase with its words and edges takes, a station with its phases, and a model net
abbrev pub phase_records : Phase → ℕ
phase_records f = 1 + (length (words_of f) + length (edges_of f))

abbrev pub station_records : Station → ℕ
station_records st = 1 + sum_by phase_records st.phases

abbrev pub model_records : ModelNet → ℕ
model_records m = sum_by station_records m.stations + length m.paths

pub record LawfulModel (m : ModelNet) : Type 0 where
  pub some_station : 1 ≤ length m.stations  -- Length and Links: a record is there, and reached; Paths: a path needs a station
  pub few_stations : length m.stations ≤ 16  -- Limits
  pub scale_fits : model_scale m ≤ 1000000  -- Scale
  pub stations_fit : AllByRecursion (LawfulStation m.order) m.stations
  pub paths_fit : AllByRecursion (LawfulPath (length m.stations)) m.paths
  pub few_records : model_records m ≤ 1000  -- Head
