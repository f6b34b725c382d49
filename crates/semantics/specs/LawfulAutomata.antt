-- Lawful automaton nets, printed or not: what the check of an automaton book asks of its tree. A comment names the fault
-- that a breach is.
use Rattle.std.specs.Prelude.{◌≡◌, ℕ, ◌+◌, ◌*◌, ◌<◌, ◌≤◌, Bool, true, false, not, List, [], ◌∷◌, ◌++◌, length, Some, None, sum_by, Option}
use Rattle.std.specs.List.{AllByRecursion}
use Rattle.records.specs.Fits.{Byte, Two, HighFits}
use Rattle.semantics.specs.Times.{Fraction, Proper, inside, whole}
use Rattle.semantics.specs.Trees.{Label, Silent, Hears, Sends, Transition, Location, location_at, Automaton, AutomatonNet}
use Rattle.semantics.specs.Scales.{automaton_scale}
use Rattle.semantics.specs.Fits.{transition_fits, within_bound}
use Rattle.semantics.specs.Print.{from_on}
use Rattle.semantics.specs.Limits.{AtMostOne, LawfulPath}

-- A transition that does not hear is a move.
abbrev pub is_move : Label → Bool
is_move Silent = true
is_move (Hears port lowest highest) = false
is_move (Sends port value) = true

abbrev pub LawfulLabel : Label → Type 0
LawfulLabel Silent = Unit {0}
LawfulLabel (Hears port lowest highest) = Byte port × ((lowest ≤ highest) × Byte highest)  -- Limits
LawfulLabel (Sends port value) = Byte port × Byte value

-- a transition of an automaton with n locations and this scale, from a location with this bound
pub record LawfulTransition (n scale : ℕ) (bound : Option ℕ) (t : Transition) : Type 0 where
  pub goal_here : t.goal < n  -- Goals
  pub label_fits : LawfulLabel t.label
  pub low_fits : t.guard.low ≤ 1000000 * scale  -- Limits
  pub high_fits : HighFits (λ h. h ≤ 1000000 * scale) t.guard.high  -- Limits
  -- some moment up to and with the bound is in the guard: EmptyWindow
  pub guard_holds : (x : Fraction) × (Proper x × ((inside whole t.guard x ≡ true) × (within_bound bound x ≡ true)))

-- A move as printing writes one: from b on, and with a reset exactly if its goal is not committed.
pub record PrintedMove (a : Automaton) (b : ℕ) (t : Transition) : Type 0 where
  pub moves : is_move t.label ≡ true
  pub from_bound : t.guard ≡ from_on b
  pub resets_right : t.resets ≡ not (location_at a t.goal).committed

abbrev pub HearsOnly : List Transition → Type 0
HearsOnly ts = AllByRecursion (λ t. is_move t.label ≡ false) ts

-- Which moves a location has, committed or not, and by its bound. Location
abbrev pub LawfulMoves : Automaton → Bool → Option ℕ → List Transition → Type 0
LawfulMoves a true bound ts = (t : Transition) × ((ts ≡ t ∷ []) × PrintedMove a 0 t)
LawfulMoves a false (Some b) ts = (hs : List Transition) × ((t : Transition) × ((ts ≡ hs ++ (t ∷ [])) × (HearsOnly hs × PrintedMove a b t)))
LawfulMoves a false None ts = HearsOnly ts

abbrev pub BoundFits : ℕ → Option ℕ → Type 0
BoundFits scale None = Unit {0}
BoundFits scale (Some b) = b ≤ 1000000 * scale

pub record LawfulLocation (a : Automaton) (l : Location) : Type 0 where
  pub phase_width : Two l.phase
  pub sent_width : Byte l.sent
  pub bound_fits : BoundFits a.scale l.bound  -- Limits
  pub transitions_fit : AllByRecursion (LawfulTransition (length a.locations) a.scale l.bound) l.transitions
  -- no two hearing transitions share port, value and moment up to the bound: SharedMoment
  pub guards_apart : (p v : ℕ) (t : Fraction) → Proper t → within_bound l.bound t ≡ true → AtMostOne (transition_fits p v t) l.transitions
  pub not_both : l.committed ≡ true → l.bound ≡ None  -- Location
  pub moves_fit : LawfulMoves a l.committed l.bound l.transitions
  pub hearing_resets : AllByRecursion (λ t. is_move t.label ≡ false → t.resets ≡ true) l.transitions  -- Location

pub record LawfulAutomaton (a : Automaton) : Type 0 where
  pub some_scale : 1 ≤ a.scale  -- Limits
  pub scale_fits : a.scale ≤ 1000000  -- Limits
  pub opening_here : a.opening < length a.locations  -- Goals
  pub locations_fit : AllByRecursion (LawfulLocation a) a.locations

abbrev pub location_records : Location → ℕ
location_records l = 1 + length l.transitions

abbrev pub automaton_records : Automaton → ℕ
automaton_records a = 1 + sum_by location_records a.locations

abbrev pub automata_records : AutomatonNet → ℕ
automata_records a = sum_by automaton_records a.automata + length a.paths

pub record LawfulAutomata (a : AutomatonNet) : Type 0 where
  pub some_automaton : 1 ≤ length a.automata  -- as for a model net
  pub few_automata : length a.automata ≤ 16  -- Limits
  pub scale_fits : automaton_scale a ≤ 1000000  -- Scale
  pub automata_fit : AllByRecursion LawfulAutomaton a.automata
  pub paths_fit : AllByRecursion (LawfulPath (length a.automata)) a.paths
  pub few_records : automata_records a ≤ 2000  -- Head
