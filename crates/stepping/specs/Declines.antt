-- When a net declines a call: for each refusal, in the order of its call, the condition in plain terms, and the place.
use Rattle.std.specs.Prelude.{◌≡◌, ℕ, suc, ◌+◌, ◌*◌, ◌^◌, ◌<◌, ◌≤◌, true, false, ◌⊎◌, List, length, Some, slice_index_or}
use Rattle.book.specs.declared.refusal.Fault.{Fault}
use Rattle.book.specs.declared.refusal.Fault.TheVariants.{Paths, Room, Busy, Due, Lifetime, Total, Idle}
use Rattle.semantics.specs.Times.{StepFirst}
use Rattle.semantics.specs.Trees.{Path}
use Rattle.semantics.specs.Net.{Net, NetState, state_at, stance_at}
use Rattle.semantics.specs.Calls.{Call, wait, word, step, room}

-- none of the first n places has the property
abbrev pub NoneHas : (ℕ → Type 0) → ℕ → Type 0
NoneHas P n = (i : ℕ) → i < n → P i → ⊥

-- the place k, counted from 1, is the lowest of n that has the property of places counted from 0
pub record LowestWith (P : ℕ → Type 0) (n k : ℕ) : Type 0 where
  pub place : ℕ
  pub counted : k ≡ suc place
  pub within : place < n
  pub has : P place
  pub first : (i : ℕ) → i < place → P i → ⊥

-- a path that is never there
abbrev pub blank_path : Path
blank_path = record { sender = 0; sender_port = 0; hearer = 0; hearer_port = 0 }

-- of n stations and these paths: the path of that place names an unknown station, or goes from a station, or the outside,
-- to itself
abbrev pub BadPath : ℕ → List Path → ℕ → Type 0
BadPath n paths i =
    ((n < (slice_index_or paths i blank_path).sender) ⊎ (n < (slice_index_or paths i blank_path).hearer))
    ⊎ ((slice_index_or paths i blank_path).sender ≡ (slice_index_or paths i blank_path).hearer)

module _ (net : Net) (paths : List Path) (s : NetState) where
  abbrev pub stations : ℕ
  stations = length net.stations

  -- the station of that place is busy; it is quiet and its elapsed parts are its lifetime; d more are past its lifetime
  abbrev pub IsBusy : ℕ → Type 0
  IsBusy i = (stance_at net.stations s.stations i).busy ≡ true

  abbrev pub IsDue : ℕ → Type 0
  IsDue i =
      ((stance_at net.stations s.stations i).busy ≡ false)
      × ((l : ℕ) × (((stance_at net.stations s.stations i).lifetime ≡ Some l) × ((state_at s.stations i).elapsed ≡ l * net.parts)))

  abbrev pub RunsPast : ℕ → ℕ → Type 0
  RunsPast d i = (l : ℕ) × (((stance_at net.stations s.stations i).lifetime ≡ Some l) × (l * net.parts < (state_at s.stations i).elapsed + d))

  -- The conditions, each after those before it in its call have failed to hold. Words and steps have their paths and room
  -- looked at alike.
  abbrev pub Checked : ℕ → Type 0
  Checked slots = NoneHas (BadPath stations paths) (length paths) × (room paths ≤ slots)

  pub data Declines : Call → Fault → ℕ → Type 0 where
    wait_busy : {d k : ℕ} → LowestWith IsBusy stations k → Declines (wait d) Busy k
    wait_past : {d k : ℕ} → NoneHas IsBusy stations → LowestWith (RunsPast d) stations k → Declines (wait d) Lifetime k
    wait_over : {d : ℕ} → NoneHas IsBusy stations → NoneHas (RunsPast d) stations → 10 ^ 15 < s.total + d → Declines (wait d) Total 0
    word_path : {port value slots k : ℕ} → LowestWith (BadPath stations paths) (length paths) k → Declines (word port value slots) Paths k
    word_room : {port value slots : ℕ} → NoneHas (BadPath stations paths) (length paths) → slots < room paths → Declines (word port value slots) Room 0
    word_busy : {port value slots k : ℕ} → Checked slots → LowestWith IsBusy stations k → Declines (word port value slots) Busy k
    word_due : {port value slots k : ℕ} → Checked slots → NoneHas IsBusy stations → net.order ≡ StepFirst → LowestWith IsDue stations k →
        Declines (word port value slots) Due k
    step_path : {slots k : ℕ} → LowestWith (BadPath stations paths) (length paths) k → Declines (step slots) Paths k
    step_room : {slots : ℕ} → NoneHas (BadPath stations paths) (length paths) → slots < room paths → Declines (step slots) Room 0
    step_idle : {slots : ℕ} → Checked slots → NoneHas IsBusy stations → NoneHas IsDue stations → Declines (step slots) Idle 0
