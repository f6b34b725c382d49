-- What is asked of a table: the lowest station that passes a test, and what a station tells.
use Rattle.std.proofs.Common.{◌≡◌, ℕ, zero, suc, ◌-◌, ◌<◌, ◌≤◌, Bool, cond, ◌⊎◌, List, length, take, Some, Option, sym, refl, ap, ◌∙◌, ap₂, inl, inr, arith}
use Rattle.std.proofs.lemmas.List.{get_or-take}
use Rattle.std.proofs.lemmas.Bool.{lt-ltb, le-ltb}
use Rattle.semantics.specs.declared.state.StationState.{StationState}
use Rattle.semantics.specs.Machine.{meaning_at}
use Rattle.semantics.specs.Net.{Net, NetState, in_stance, state_at, stance_at}
use Rattle.semantics.specs.Calls.{lowest, number, telling}
use Rattle.semantics.proofs.Lowest.{is_lowest}
use Rattle.calls.specs.Slots.{state_of}
use Rattle.machine.specs.declared.stance.StanceInfo.{StanceInfo}
use Rattle.machine.specs.Stances.{told}

-- the lowest of the places is one of them
pub place_under : (p : ℕ → Bool) (n i : ℕ) → Some i ≡ lowest p 0 n → i < n
place_under p n i e = let l = (is_lowest p 0 n i (sym e)).under in omega arith

-- a search of the stations' states is one of all stations
pub searched : (p : ℕ → Bool) (n l : ℕ) → n ≡ l → (o : Option ℕ) → o ≡ lowest p 0 n → number o ≡ number (lowest p 0 l)
searched p n l is o e = ap number (e ∙ ap (lowest p 0) is)

-- What a station tells that is there, and one that is not.
module _ (net : Net) (table : List StationState) (total : ℕ) where
  abbrev now_state : NetState
  now_state = state_of (take (length net.stations) table) total

  pub tells_nothing : (k : ℕ) → (k ≡ 0) ⊎ (length net.stations < k) → (0, 0, 0) ≡ telling net now_state k
  tells_nothing zero h = refl
  tells_nothing (suc i) (inl z) = absurd (omega arith)
  tells_nothing (suc i) (inr l) =
      ap
      (λ b. cond b ((stance_at net.stations now_state.stations i).phase, (stance_at net.stations now_state.stations i).sent, (state_at now_state.stations i).elapsed) (0, 0, 0))
      (sym (le-ltb i (length net.stations) (omega arith)))

  pub tells_all : (k : ℕ) → 1 ≤ k → k ≤ length net.stations → (x : StanceInfo) →
      x ≡ told ((meaning_at net.stations (k - 1)).stance (state_at table (k - 1)).stance) →
      (x.phase, x.sent, (state_at table (k - 1)).elapsed) ≡ telling net now_state k
  tells_all zero some there x e = absurd (omega arith)
  tells_all (suc i) some there x e =
      let z : suc i - 1 ≡ i = omega arith in
      let at : state_at table (suc i - 1) ≡ state_at now_state.stations i =
      ap (state_at table) z ∙ sym (get_or-take (length net.stations) table i (in_stance 0 0) (omega arith))
      in
      let is : x ≡ told (stance_at net.stations now_state.stations i) =
      e ∙ ap₂ (λ j y. told ((meaning_at net.stations j).stance y.stance)) z at
      in
      ap₂ (λ y t. (y.phase, y.sent, t.elapsed)) is at
      ∙ ap
      (λ b. cond b ((stance_at net.stations now_state.stations i).phase, (stance_at net.stations now_state.stations i).sent, (state_at now_state.stations i).elapsed) (0, 0, 0))
      (sym (lt-ltb i (length net.stations) (omega arith)))
