-- What a machine answers to a question: by its meaning, and 'unknown' (nothing) exactly for an unknown station or stance,
-- or for parts per tick out of range. Stations are asked by their numbers, from 1. No question changes a machine.
use Rattle.std.specs.Prelude.{ℕ, zero, suc, ◌/◌, Bool, false, ◌&&◌, length, None, Option, nat_le, nat_lt}
use Rattle.std.specs.Bool.{then_some}
use Rattle.semantics.specs.Machine.{Stance, StationMeaning, Meaning, meaning_at}

-- what is asked of a station: its scale, its opening stance
abbrev pub ask_station : {A : Type 0} → Meaning → ℕ → (StationMeaning → A) → Option A
ask_station ms zero what = None
ask_station ms (suc i) what = then_some (nat_lt i (length ms)) (what (meaning_at ms i))

-- station k has a stance of that number
abbrev pub has_stance : Meaning → ℕ → ℕ → Bool
has_stance ms zero s = false
has_stance ms (suc i) s = nat_lt i (length ms) && (meaning_at ms i).known s

-- what is asked of a stance: phase, words sent, busy, lifetime, next move
abbrev pub ask_stance : {A : Type 0} → Meaning → ℕ → ℕ → (Stance → A) → Option A
ask_stance ms zero s what = None
ask_stance ms (suc i) s what = then_some (has_stance ms (suc i) s) (what ((meaning_at ms i).stance s))

-- parts per tick run from 1 to 1,000,000,000 / scale
abbrev pub parts_fit : StationMeaning → ℕ → Bool
parts_fit m q = nat_le 1 q && nat_le q (1000000000 / m.scale)

-- what a stance hears: for port, value, elapsed parts and parts per tick, the following stance or nothing
abbrev pub ask_hearing : Meaning → ℕ → ℕ → ℕ → ℕ → ℕ → ℕ → Option (Option ℕ)
ask_hearing ms zero s p v e q = None
ask_hearing ms (suc i) s p v e q =
    then_some (has_stance ms (suc i) s && parts_fit (meaning_at ms i) q) (((meaning_at ms i).stance s).hears p v e q)
