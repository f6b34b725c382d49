-- The net over any machine: its state, and how a word is delivered and a step taken.
use Rattle.std.specs.Prelude.{ℕ, zero, suc, ◌+◌, ◌*◌, Bool, false, cond, not, ◌&&◌, List, [], ◌∷◌, ◌++◌, Some, None, Option, ◌==◌, nat_lt, slice_index_or, slice_set}
pub use Rattle.semantics.specs.declared.state.StationState.{StationState}
use Rattle.semantics.specs.Times.{Order}
use Rattle.semantics.specs.Trees.{Word, Path}
use Rattle.semantics.specs.Events.{Event, event, leaves, Arrival, External, Output, Internal}
use Rattle.semantics.specs.Machine.{Move, Stance, Meaning, meaning_at}

-- A net: its stations' meanings, geared to the net scale, its order, and its parts per net tick.
pub record Net : Type 0 where
  pub stations : Meaning
  pub order : Order
  pub parts : ℕ

-- Its state: each station's stance and elapsed parts, and the total of all waits in parts.
pub record NetState : Type 0 where
  pub stations : List StationState
  pub total : ℕ

abbrev pub in_stance : ℕ → ℕ → StationState
in_stance s e = record { stance = s; elapsed = e }

-- what stands at a place of the list, counted from 0: place i is station i + 1
abbrev pub state_at : List StationState → ℕ → StationState
state_at σ i = slice_index_or σ i (in_stance 0 0)

abbrev pub stance_at : Meaning → List StationState → ℕ → Stance
stance_at ms σ i = (meaning_at ms i).stance (state_at σ i).stance

-- A station is busy by its stance. A quiet one is due when its elapsed parts equal its lifetime, q parts to a tick.
abbrev pub busy_at : Meaning → List StationState → ℕ → Bool
busy_at ms σ i = (stance_at ms σ i).busy

abbrev pub ends_now : Option ℕ → ℕ → ℕ → Bool
ends_now None q e = false
ends_now (Some l) q e = e == l * q

abbrev pub due_at : Meaning → ℕ → List StationState → ℕ → Bool
due_at ms q σ i = not (busy_at ms σ i) && ends_now (stance_at ms σ i).lifetime q (state_at σ i).elapsed

-- d more parts would be past its lifetime
abbrev pub runs_out : Option ℕ → ℕ → ℕ → Bool
runs_out None q e = false
runs_out (Some l) q e = nat_lt (l * q) e

abbrev pub past_at : Meaning → ℕ → List StationState → ℕ → ℕ → Bool
past_at ms q σ d i = runs_out (stance_at ms σ i).lifetime q ((state_at σ i).elapsed + d)

-- Events, and where the stations then stand.
pub record Passed : Type 0 where
  pub news : List Event
  pub stations : List StationState

abbrev pub passed : List Event → List StationState → Passed
passed es σ = record { news = es; stations = σ }

abbrev pub and_then : Passed → (List StationState → Passed) → Passed
and_then r f = passed (r.news ++ (f r.stations).news) (f r.stations).stations

-- A word arrives at the station of place h. If it hears the word, it takes the following stance with elapsed 0.
abbrev pub heard : Meaning → List StationState → ℕ → ℕ → ℕ → Option ℕ → Passed
heard ms σ h port v None = passed (event Arrival (suc h) port v ∷ []) σ
heard ms σ h port v (Some s) =
    passed (event Arrival (suc h) port v ∷ event External (suc h) 0 ((meaning_at ms h).stance s).phase ∷ [])
    (slice_set σ h (in_stance s 0))

-- a word arrives at station k, or outside
abbrev pub arrive : Meaning → ℕ → List StationState → ℕ → ℕ → ℕ → Passed
arrive ms q σ zero port v = passed (event Arrival 0 port v ∷ []) σ
arrive ms q σ (suc h) port v = heard ms σ h port v ((stance_at ms σ h).hears port v (state_at σ h).elapsed q)

-- Delivery takes the paths from a station's port in their order; one that is written twice delivers twice. What is
-- heard sends nothing on.
abbrev pub deliver : Meaning → ℕ → List Path → ℕ → ℕ → ℕ → List StationState → Passed
deliver ms q [] from port v σ = passed [] σ
deliver ms q (p ∷ ps) from port v σ =
    cond (leaves p from port)
    (and_then (arrive ms q σ p.hearer p.hearer_port v) (deliver ms q ps from port v))
    (deliver ms q ps from port v σ)

-- the output: the word of a move, if any, goes along the paths
abbrev pub send : Meaning → ℕ → List Path → ℕ → Option Word → List StationState → Passed
send ms q ps i None σ = passed [] σ
send ms q ps i (Some w) σ =
    and_then (passed (event Output (suc i) w.port w.value ∷ []) σ) (deliver ms q ps (suc i) w.port w.value)

-- the internal transition: into a quiet stance elapsed is 0 and an event tells it, into a busy one elapsed stays as it was
abbrev pub land : ℕ → ℕ → ℕ → Stance → List StationState → Passed
land i s e x σ =
    cond x.busy (passed [] (slice_set σ i (in_stance s e)))
    (passed (event Internal (suc i) 0 x.phase ∷ []) (slice_set σ i (in_stance s 0)))

-- the station of place i makes its move: first its word is delivered, then it takes the following stance
abbrev pub act : Meaning → ℕ → List Path → ℕ → Option Move → List StationState → Passed
act ms q ps i None σ = passed [] σ
act ms q ps i (Some m) σ =
    and_then (send ms q ps i m.word σ) (land i m.follows (state_at σ i).elapsed ((meaning_at ms i).stance m.follows))
