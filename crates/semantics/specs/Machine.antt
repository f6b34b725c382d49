-- The station machine: what any machine means, when a meaning is sound, and gearing.
use Rattle.std.specs.Prelude.{◌≡◌, ℕ, ◌*◌, ◌/◌, ◌≤◌, Bool, true, false, ◌↔◌, List, map, length, Some, None, Option, slice_index_or}
use Rattle.std.specs.Option.{option_map}
use Rattle.std.specs.List.{AllByRecursion}
pub use Rattle.semantics.specs.declared.state.Move.{Move}
use Rattle.semantics.specs.Trees.{Word}
use Rattle.semantics.specs.Scales.{lcm_all}

abbrev pub move_to : Option Word → ℕ → Move
move_to w s = record { word = w; follows = s }

-- A stance of a station: the phase and the number of words sent that it tells, whether it is busy (in the midst of
-- sending) or quiet, its lifetime in ticks or none if it is endless (the time advance), its next move (the output and
-- the internal transition), and its hearing rule (the external transition): for port, value, elapsed parts and parts
-- per tick, the following stance or nothing.
pub record Stance : Type 0 where
  pub phase : ℕ
  pub sent : ℕ
  pub busy : Bool
  pub lifetime : Option ℕ
  pub move : Option Move
  pub hears : ℕ → ℕ → ℕ → ℕ → Option ℕ

-- A station's meaning: its ticks per second, its opening stance, and its stances by their numbers. `known` says which
-- numbers are stances; of others nothing is meant.
pub record StationMeaning : Type 0 where
  pub scale : ℕ
  pub opening : ℕ
  pub known : ℕ → Bool
  pub stance : ℕ → Stance

-- A machine's meaning is the list of its stations' meanings, station 1 first.
abbrev pub Meaning : Type 0
Meaning = List StationMeaning

-- What stands at a place of that list, counted from 0: place i is station i + 1. Past the end stands a blank, which a net
-- never comes to.
abbrev pub blank_stance : Stance
blank_stance = record { phase = 0; sent = 0; busy = false; lifetime = None; move = None; hears = λ p v e q. None }

abbrev pub blank_meaning : StationMeaning
blank_meaning = record { scale = 1; opening = 0; known = λ s. false; stance = λ s. blank_stance }

abbrev pub meaning_at : Meaning → ℕ → StationMeaning
meaning_at ms i = slice_index_or ms i blank_meaning

-- What a sound station's stance is.
pub record SoundStance (m : StationMeaning) (x : Stance) : Type 0 where
  -- what follows a move or a hearing is a stance of the station
  pub move_known : (n : Move) → x.move ≡ Some n → m.known n.follows ≡ true
  pub hearing_known : (p v e q s : ℕ) → x.hears p v e q ≡ Some s → m.known s ≡ true
  -- while it is busy it hears nothing
  pub busy_deaf : x.busy ≡ true → (p v e q : ℕ) → x.hears p v e q ≡ None
  pub lifetime_fits : (l : ℕ) → x.lifetime ≡ Some l → l ≤ 1000000 * m.scale
  -- it has no next move exactly if it is quiet and endless
  pub rests : x.move ≡ None ↔ (x.busy ≡ false) × (x.lifetime ≡ None)

pub record SoundStation (m : StationMeaning) : Type 0 where
  pub some_scale : 1 ≤ m.scale
  pub scale_fits : m.scale ≤ 1000000
  pub opening_known : m.known m.opening ≡ true
  pub stances : (s : ℕ) → m.known s ≡ true → SoundStance m (m.stance s)

-- a sound machine has 1 to 16 sound stations
pub record Sound (ms : Meaning) : Type 0 where
  pub some_station : 1 ≤ length ms
  pub few_stations : length ms ≤ 16
  pub stations : AllByRecursion SoundStation ms

-- Gearing: the same station in ticks f times as fine. Scale and lifetimes are f times those below, and p parts per tick
-- are asked below as p × f.
abbrev pub gear_stance : ℕ → Stance → Stance
gear_stance f x = record {
  phase = x.phase;
  sent = x.sent;
  busy = x.busy;
  lifetime = option_map (λ l. l * f) x.lifetime;
  move = x.move;
  hears = λ p v e q. x.hears p v e (q * f);
}

abbrev pub gear : ℕ → StationMeaning → StationMeaning
gear f m = record {
  scale = m.scale * f;
  opening = m.opening;
  known = m.known;
  stance = λ s. gear_stance f (m.stance s);
}

-- In a net each station is geared to the net scale, the least common multiple of the stations' scales.
abbrev pub net_scale : Meaning → ℕ
net_scale ms = lcm_all 1 (map (λ m. m.scale) ms)

abbrev pub factor : ℕ → StationMeaning → ℕ
factor scale m = scale / m.scale

abbrev pub geared : Meaning → Meaning
geared ms = map (λ m. gear (factor (net_scale ms) m) m) ms
