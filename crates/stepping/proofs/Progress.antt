-- From every state that a net comes to, rules that follow its stations' meanings allow a step or a delay.
use Rattle.std.proofs.Common.{◌≡◌, ℕ, ◌<◌, ◌≤◌, false, List, [], ◌++◌, length, None, sym, refl, ap, ◌∙◌, subst, inl, inr, arith}
use Rattle.semantics.specs.Times.{fraction, Order}
use Rattle.semantics.specs.Trees.{Path}
use Rattle.semantics.specs.Machine.{Meaning, meaning_at, Sound, geared}
use Rattle.semantics.specs.declared.state.StationState.{StationState}
use Rattle.semantics.specs.Net.{NetState, state_at, stance_at, runs_out}
use Rattle.semantics.specs.Calls.{make, bad_paths}
use Rattle.semantics.specs.Runs.{Rules, Run, ended, goes_on}
use Rattle.stepping.specs.StationRules.{station_rules, NetRun}
use Rattle.stepping.specs.AnyMachine.{at_first, then_called, ReachedOver}
use Rattle.stepping.specs.Progress.{GoesOn}
use Rattle.semantics.proofs.Simulation.{Follows, does_too}
use Rattle.stepping.proofs.Bridge.{InParts}
use Rattle.stepping.proofs.Whole.{Steady}
use Rattle.stepping.proofs.Geared.{long, steady, start_at, start_whole}
use Rattle.stepping.proofs.Timely.{fresh_on, Timely, Sure, call_sure, goes_on as net_goes_on}
use Rattle.stepping.proofs.AnyMachine.{forth}

module _ (ms : Meaning) (q : ℕ) (o : Order) (paths : List Path) (some : 1 ≤ q) (steady : Steady ms) {X : Type 0} (B : ℕ → Rules X) (S : ℕ → StationState → X → Type 0)
    (suits : (i : ℕ) → i < length ms → Follows (InParts q) (station_rules q (meaning_at ms i)) (B i) (S i)) where
  pub progress : bad_paths (length ms) paths ≡ None → (s : NetState) → Sure ms q steady o s → (σ : ℕ → X) → ((i : ℕ) → i < length ms → S i (state_at s.stations i) (σ i)) →
      GoesOn (Run B (length ms) o paths) σ
  progress fine s sure σ stood = elim (net_goes_on ms q steady o some paths fine s sure) [
    | inl x ↦
        (let t = does_too (InParts q) (λ i. station_rules q (meaning_at ms i)) B (length ms) S suits o paths σ stood tt x.1.1 in
        inl (x.0 ++ [], (t.0, goes_on t.1.0 ended)))
    | inr x ↦
        (let t = does_too (InParts q) (λ i. station_rules q (meaning_at ms i)) B (length ms) S suits o paths σ stood refl x.1 in
        inr (fraction 1 q, (some, (omega arith, (t.0, goes_on t.1.0 ended)))))
  ]

module _ (ms : Meaning) (sound : Sound ms) (ps : List Path) (o : Order) (q : ℕ) where
  start_timely : Timely (geared ms) q (make ms ps o q 0).state.stations
  start_timely i l quiet =
      let h : i < length ms = subst (λ n. i < n) (long ms sound) l in
      let e = ap (λ (x : StationState). x.elapsed) (start_at ms sound ps o q i h) in
      subst (λ k. runs_out (stance_at (geared ms) (make ms ps o q 0).state.stations i).lifetime q k ≡ false) (sym e) (fresh_on (geared ms) q _)

  pub start_sure : Sure (geared ms) q (steady ms sound) o (make ms ps o q 0).state
  start_sure = record { whole = start_whole ms sound ps o q; timely = start_timely }

  reached_sure : {s : NetState} → ReachedOver ms ps o q s → Sure (geared ms) q (steady ms sound) o s
  reached_sure at_first = start_sure
  reached_sure (then_called {s = s} paths c r) = call_sure (geared ms) q (steady ms sound) o paths c s (reached_sure r)

  pub machine_progress : 1 ≤ q → (s : NetState) → ReachedOver ms ps o q s → (paths : List Path) → bad_paths (length ms) paths ≡ None →
      GoesOn (NetRun (make ms ps o q 0).net paths) (state_at s.stations)
  machine_progress some s r paths fine =
      progress (geared ms) q o paths some (steady ms sound) (λ i. station_rules q (meaning_at (geared ms) i)) (λ i x y. y ≡ x) (λ i l. forth q (meaning_at (geared ms) i))
      (ap (λ k. bad_paths k paths) (long ms sound) ∙ fine) s (reached_sure r) (state_at s.stations) (λ i l. refl)
