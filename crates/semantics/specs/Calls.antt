-- The calls of a net: make, wait, word, step and the station's telling, with each refusal in its order.
use Rattle.std.specs.Prelude.{ℕ, zero, suc, ◌+◌, ◌*◌, ◌^◌, Bool, cond, ◌||◌, List, [], ◌∷◌, map, length, Some, None, Ok, Err, Option, Result, ◌==◌, nat_lt}
use Rattle.std.specs.Bool.{then_some}
use Rattle.std.specs.Option.{option_or, option_map}
use Rattle.book.specs.Refusals.{refused}
use Rattle.book.specs.declared.refusal.Refusal.{Refusal}
use Rattle.book.specs.declared.refusal.Fault.{Fault}
use Rattle.book.specs.declared.refusal.Fault.TheVariants.{Scale, Paths, Room, Parts, Busy, Due, Lifetime, Total, Idle}
use Rattle.semantics.specs.Times.{Order, StepFirst, WordFirst}
use Rattle.semantics.specs.Trees.{Path}
use Rattle.semantics.specs.Machine.{StationMeaning, Meaning, net_scale, factor, geared}
use Rattle.semantics.specs.Events.{Event, event, Created}
use Rattle.semantics.specs.Net.{Net, NetState, in_stance, state_at, stance_at, busy_at, due_at, past_at, Passed, deliver, act}

-- An answer is the list of events, or a refusal: its fault and its place.
abbrev pub Answer : Type 0
Answer = Result (List Event) Refusal

-- where a fault is, if anywhere, the call is declined there; else it goes on
abbrev pub unless : {A : Type 0} → Option ℕ → (ℕ → A) → A → A
unless None declined rest = rest
unless (Some place) declined rest = declined place

-- a fault that has no place is told at 0
abbrev pub at_zero : Bool → Option ℕ
at_zero b = then_some b 0

-- the first of a list that fails, counted from k
abbrev pub first_bad : {A : Type 0} → (A → Bool) → ℕ → List A → Option ℕ
first_bad bad k [] = None
first_bad bad k (x ∷ xs) = let rest = first_bad bad (suc k) xs in cond (bad x) (Some k) rest

-- A path is bad with an unknown station, with the same station twice, or from outside to outside. There are n stations.
abbrev pub bad_path : ℕ → Path → Bool
bad_path n p = (nat_lt n p.sender || nat_lt n p.hearer) || p.sender == p.hearer

abbrev pub bad_paths : ℕ → List Path → Option ℕ
bad_paths n ps = first_bad (bad_path n) 1 ps

-- Making. A station cannot be geared to the net scale with a factor of 0, or past 1,000,000 ticks per second.
abbrev pub misfit : ℕ → StationMeaning → Bool
misfit scale m = factor scale m == 0 || nat_lt 1000000 (m.scale * factor scale m)

abbrev pub created : ℕ → Meaning → List Event
created k [] = []
created k (m ∷ ms) = event Created k 0 (m.stance m.opening).phase ∷ created (suc k) ms

-- What a making gives: its answer and, where that is no refusal, the net and its first state.
pub record Made : Type 0 where
  pub answer : Answer
  pub net : Net
  pub state : NetState

-- Make a net over a machine, by its meaning alone, with these paths, order, parts per net tick and event slots. The
-- paths are only checked: each word and step is given its own. Every station begins in its opening stance, with
-- elapsed 0, and an event tells of it.
abbrev pub make : Meaning → List Path → Order → ℕ → ℕ → Made
make ms ps o q slots = record {
  answer =
      unless (first_bad (misfit (net_scale ms)) 1 ms) (λ k. Err (refused Scale k))
      (unless (bad_paths (length ms) ps) (λ k. Err (refused Paths k))
      (unless (at_zero (nat_lt slots (length ms))) (λ k. Err (refused Room k))
      (unless (at_zero (q == 0 || nat_lt 1000 q)) (λ k. Err (refused Parts k))
      (Ok (created 1 ms)))));
  net = record { stations = geared ms; order = o; parts = q };
  state = record { stations = map (λ m. in_stance m.opening 0) ms; total = 0 };
}

-- The calls that change a net.
pub data Call : Type 0 where
  wait : (d : ℕ) → Call
  word : (port value slots : ℕ) → Call
  step : (slots : ℕ) → Call

-- An answer, and the state that the call leaves: on a refusal the same.
pub record Outcome : Type 0 where
  pub answer : Answer
  pub state : NetState

abbrev pub declined : Fault → NetState → ℕ → Outcome
declined f s place = record { answer = Err (refused f place); state = s }

-- the events of a word or a step, which leaves the total
abbrev pub answered : NetState → Passed → Outcome
answered s r = record { answer = Ok r.news; state = record { stations = r.stations; total = s.total } }

-- the lowest of n places, from k on, that passes
abbrev pub lowest : (ℕ → Bool) → ℕ → ℕ → Option ℕ
lowest p k zero = None
lowest p k (suc n) = let rest = lowest p (suc k) n in cond (p k) (Some k) rest

-- a place as the number that its station is told by, from 1
abbrev pub number : Option ℕ → Option ℕ
number place = option_map suc place

-- slots for an event and its arrival's consequences on every path
abbrev pub room : List Path → ℕ
room ps = 2 + 2 * length ps

module _ (net : Net) where
  abbrev pub lowest_busy : NetState → Option ℕ
  lowest_busy s = lowest (busy_at net.stations s.stations) 0 (length net.stations)

  abbrev pub lowest_due : NetState → Option ℕ
  lowest_due s = lowest (due_at net.stations net.parts s.stations) 0 (length net.stations)

  abbrev pub lowest_past : NetState → ℕ → Option ℕ
  lowest_past s d = lowest (past_at net.stations net.parts s.stations d) 0 (length net.stations)

  -- a due station keeps words out only under step first
  abbrev pub due_before_words : Order → NetState → Option ℕ
  due_before_words StepFirst s = lowest_due s
  due_before_words WordFirst s = None

  -- the state after d parts
  abbrev pub waited : ℕ → NetState → NetState
  waited d s = record {
    stations = map (λ x. in_stance x.stance (x.elapsed + d)) s.stations;
    total = s.total + d;
  }

  -- the station of that place acts
  abbrev pub step_of : List Path → NetState → Option ℕ → Outcome
  step_of ps s None = declined Idle s 0
  step_of ps s (Some i) =
      answered s (act net.stations net.parts ps i (stance_at net.stations s.stations i).move s.stations)

  -- How a net answers a call that comes with these paths. A step acts for the lowest busy station, else the lowest due one.
  abbrev pub answer_call : List Path → Call → NetState → Outcome
  answer_call ps (wait d) s =
      unless (number (lowest_busy s)) (declined Busy s)
      (unless (number (lowest_past s d)) (declined Lifetime s)
      (unless (at_zero (nat_lt (10 ^ 15) (s.total + d))) (declined Total s)
      (record { answer = Ok []; state = waited d s })))
  answer_call ps (word port value slots) s =
      unless (bad_paths (length net.stations) ps) (declined Paths s)
      (unless (at_zero (nat_lt slots (room ps))) (declined Room s)
      (unless (number (lowest_busy s)) (declined Busy s)
      (unless (number (due_before_words net.order s)) (declined Due s)
      (answered s (deliver net.stations net.parts ps 0 port value s.stations)))))
  answer_call ps (step slots) s =
      unless (bad_paths (length net.stations) ps) (declined Paths s)
      (unless (at_zero (nat_lt slots (room ps))) (declined Room s)
      (step_of ps s (option_or (lowest_busy s) (lowest_due s))))

  -- A list of calls: all answers, and the state that is left.
  abbrev pub answers : List Path → List Call → NetState → List Answer
  answers ps [] s = []
  answers ps (c ∷ cs) s = (answer_call ps c s).answer ∷ answers ps cs (answer_call ps c s).state

  abbrev pub left_by : List Path → List Call → NetState → NetState
  left_by ps [] s = s
  left_by ps (c ∷ cs) s = left_by ps cs (answer_call ps c s).state

  -- What station k tells: its phase, words sent and elapsed parts together. Station 0 and one past the last tell zeros.
  abbrev pub telling : NetState → ℕ → ℕ × ℕ × ℕ
  telling s zero = (0, 0, 0)
  telling s (suc i) =
      cond (nat_lt i (length net.stations))
      ((stance_at net.stations s.stations i).phase, (stance_at net.stations s.stations i).sent, (state_at s.stations i).elapsed)
      (0, 0, 0)
