-- Nets over any sound machine: reached states are whole, and the net keeps the rules of its stations' meanings.
use Rattle.std.proofs.Common.{◌≡◌, ℕ, ◌<◌, ◌≤◌, List, length, sym, refl, ap, ◌∙◌, subst}
use Rattle.semantics.specs.Times.{Order}
use Rattle.semantics.specs.Trees.{Path}
use Rattle.semantics.specs.Machine.{StationMeaning, Meaning, meaning_at, Sound, geared}
use Rattle.semantics.specs.Net.{NetState, state_at}
use Rattle.semantics.specs.Calls.{make}
use Rattle.stepping.specs.StationRules.{station_rules}
use Rattle.stepping.specs.AnyMachine.{at_first, then_called, ReachedOver, AllKnown, KeepsRules, ReachedAreKnown, MachineNetsStep}
use Rattle.semantics.proofs.Simulation.{Follows}
use Rattle.stepping.proofs.Whole.{Whole, call_whole}
use Rattle.stepping.proofs.Bridge.{InParts, obeyed_runs, runs_obeyed}
use Rattle.stepping.proofs.Geared.{long, gear_at, steady, start_whole}
use Rattle.stepping.proofs.Declined.{declines_exactly}

-- rules follow themselves
pub forth : (q : ℕ) (m : StationMeaning) → Follows (InParts q) (station_rules q m) (station_rules q m) (λ x y. y ≡ x)
forth q m = record {
  busy = λ x y s. sym (ap (station_rules q m).busy s);
  due = λ x y s. sym (ap (station_rules q m).due s);
  phase = λ x y s. sym (ap (station_rules q m).phase s);
  may_wait = λ d x y g k s. sym (ap ((station_rules q m).may_wait d) s);
  later = λ d x y g may s. ap ((station_rules q m).later d) s;
  hears = λ x x' y p v s h. (x', (subst (λ k. (station_rules q m).Hears k p v x') (sym s) h, refl));
  deaf = λ x y p v s h. subst (λ k. (station_rules q m).Deaf k p v) (sym s) h;
  moves = λ x x' y w r s h. (x', (subst (λ k. (station_rules q m).Moves k w x') (sym s) h, refl));
}

back : (q : ℕ) (m : StationMeaning) → Follows (InParts q) (station_rules q m) (station_rules q m) (λ x y. x ≡ y)
back q m = record {
  busy = λ x y s. ap (station_rules q m).busy s;
  due = λ x y s. ap (station_rules q m).due s;
  phase = λ x y s. ap (station_rules q m).phase s;
  may_wait = λ d x y g k s. ap ((station_rules q m).may_wait d) s;
  later = λ d x y g may s. ap ((station_rules q m).later d) s;
  hears = λ x x' y p v s h. (x', (subst (λ k. (station_rules q m).Hears k p v x') s h, refl));
  deaf = λ x y p v s h. subst (λ k. (station_rules q m).Deaf k p v) s h;
  moves = λ x x' y w r s h. (x', (subst (λ k. (station_rules q m).Moves k w x') s h, refl));
}

module _ (ms : Meaning) (sound : Sound ms) (ps : List Path) (o : Order) (q : ℕ) where
  pub reached_whole : {s : NetState} → ReachedOver ms ps o q s → Whole (geared ms) s.stations
  reached_whole at_first = start_whole ms sound ps o q
  reached_whole (then_called {s = s} paths c r) = call_whole (geared ms) q (steady ms sound) o paths c s (reached_whole r)

  pub known : (s : NetState) → ReachedOver ms ps o q s → AllKnown ms s
  known s r =
      let w = reached_whole r in
      record {
        as_many = w.long ∙ long ms sound;
        known = λ i l. sym (ap (λ (m : StationMeaning). m.known (state_at s.stations i).stance) (gear_at ms sound i l)) ∙ w.known i (subst (λ n. i < n) (sym (long ms sound)) l);
      }

  pub keeps : 1 ≤ q → (s : NetState) → ReachedOver ms ps o q s → KeepsRules (make ms ps o q 0).net s
  keeps some s r =
      let w = reached_whole r in
      let F = λ (i : ℕ) (l : i < length (geared ms)). forth q (meaning_at (geared ms) i) in
      let K = λ (i : ℕ) (l : i < length (geared ms)). back q (meaning_at (geared ms) i) in
      let rules = λ (i : ℕ). station_rules q (meaning_at (geared ms) i) in
      record {
        steps = λ paths fine cs es. record {
          obeyed_allowed = λ h. obeyed_runs (geared ms) q o paths some (steady ms sound) rules (λ i x y. y ≡ x) F K cs s es (state_at s.stations) w (λ i l. refl) h;
          allowed_obeyed = λ enough τ run. runs_obeyed (geared ms) q o paths some (steady ms sound) rules (λ i x y. y ≡ x) F K fine cs s es (state_at s.stations) τ w (λ i l. refl) enough run;
        };
        declines = λ paths c f k. declines_exactly (make ms ps o q 0).net paths s c f k;
      }

pub reached_are_known : ReachedAreKnown
reached_are_known ms sound ps o q s r = known ms sound ps o q s r

pub machine_nets_step : MachineNetsStep
machine_nets_step ms sound ps o q some s r = keeps ms sound ps o q some s r
