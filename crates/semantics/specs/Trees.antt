-- Nets as trees: a net of station models, and a net of timed automata.
-- Within a station, goals, openings and next phases are places in its list, counted from 0.
use Rattle.std.specs.Prelude.{ℕ, Bool, false, List, [], Some, None, Option, slice_index_or}
pub use Rattle.book.specs.declared.record.Word.{Word}
pub use Rattle.book.specs.declared.record.Label.{Label}
pub use Rattle.book.specs.declared.record.Label.TheVariants.{Silent, Hears, Sends}
pub use Rattle.book.specs.declared.term.Path.{Path}
use Rattle.semantics.specs.Times.{Fraction, Window, Order}

-- An edge (external transition): a word on the port, with a value from lowest to highest, at a moment of the window,
-- leads to the goal.
pub record Edge : Type 0 where
  pub goal : ℕ
  pub port : ℕ
  pub lowest : ℕ
  pub highest : ℕ
  pub window : Window Fraction

-- A phase is endless, or lasts a time (the time advance, in seconds), then sends its words, and the next phase follows.
pub data Phase : Type 0 where
  endless : (edges : List Edge) → Phase
  lasting : (lifetime : Fraction) (words : List Word) (next : ℕ) (edges : List Edge) → Phase

abbrev pub lifetime_of : Phase → Option Fraction
lifetime_of (endless edges) = None
lifetime_of (lasting lifetime words next edges) = Some lifetime

abbrev pub words_of : Phase → List Word
words_of (endless edges) = []
words_of (lasting lifetime words next edges) = words

abbrev pub edges_of : Phase → List Edge
edges_of (endless edges) = edges
edges_of (lasting lifetime words next edges) = edges

-- an endless phase has no next one; nothing looks at the 0
abbrev pub next_of : Phase → ℕ
next_of (endless edges) = 0
next_of (lasting lifetime words next edges) = next

pub record Station : Type 0 where
  pub opening : ℕ
  pub phases : List Phase

-- The order says what comes first where a station is due and a word arrives at one moment.
-- Paths go by station numbers, counted from 1; 0 is the outside.
pub record ModelNet : Type 0 where
  pub order : Order
  pub stations : List Station
  pub paths : List Path

-- A transition of a timed automaton, with its guard in ticks. The clock restarts only if it resets.
pub record Transition : Type 0 where
  pub goal : ℕ
  pub label : Label
  pub resets : Bool
  pub guard : Window ℕ

-- A location stands for a phase, as numbered from 1, with so many words sent. No time passes while it is committed.
-- Its bound, the invariant, is in ticks.
pub record Location : Type 0 where
  pub phase : ℕ
  pub sent : ℕ
  pub committed : Bool
  pub bound : Option ℕ
  pub transitions : List Transition

-- an automaton with its ticks per second
pub record Automaton : Type 0 where
  pub scale : ℕ
  pub opening : ℕ
  pub locations : List Location

pub record AutomatonNet : Type 0 where
  pub order : Order
  pub automata : List Automaton
  pub paths : List Path

-- What stands at a place. Past the end stands a blank, which lawful nets never come to.
abbrev pub blank_phase : Phase
blank_phase = endless []

abbrev pub phase_at : List Phase → ℕ → Phase
phase_at phases i = slice_index_or phases i blank_phase

abbrev pub blank_station : Station
blank_station = record { opening = 0; phases = [] }

abbrev pub station_at : ModelNet → ℕ → Station
station_at m i = slice_index_or m.stations i blank_station

abbrev pub blank_location : Location
blank_location = record { phase = 0; sent = 0; committed = false; bound = None; transitions = [] }

abbrev pub location_at : Automaton → ℕ → Location
location_at a i = slice_index_or a.locations i blank_location

abbrev pub blank_automaton : Automaton
blank_automaton = record { scale = 1; opening = 0; locations = [] }

abbrev pub automaton_at : AutomatonNet → ℕ → Automaton
automaton_at a i = slice_index_or a.automata i blank_automaton
