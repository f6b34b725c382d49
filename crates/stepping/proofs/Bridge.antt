-- A net obeys a list of calls exactly where rules that its stations' meanings follow, and that follow them, allow it.
use Rattle.std.proofs.Common.{◌≡◌, ℕ, ◌<◌, ◌≤◌, List, [], ◌∷◌, ◌++◌, length, None, Ok, sym, refl, subst, inl, inr}
use Rattle.semantics.specs.Times.{Fraction, Order}
use Rattle.semantics.specs.Trees.{Path}
use Rattle.semantics.specs.Events.{Event}
use Rattle.semantics.specs.Machine.{Meaning, meaning_at}
use Rattle.semantics.specs.declared.state.StationState.{StationState}
use Rattle.semantics.specs.Net.{Net, NetState, state_at}
use Rattle.semantics.specs.Calls.{Call, wait, word, step, bad_paths, answer_call, left_by}
use Rattle.semantics.specs.Runs.{Act, Rules, Does, Run, ended, goes_on}
use Rattle.stepping.specs.StationRules.{station_rules, Shown}
use Rattle.stepping.specs.Obeys.{act_of, acts_of, AllObeyed, Enough, AllEnough}
use Rattle.semantics.proofs.Simulation.{Follows, Fit, does_too}
use Rattle.stepping.proofs.Whole.{Steady, Whole, call_whole}
use Rattle.stepping.proofs.Allowed.{does_call, told_or_kept}
use Rattle.stepping.proofs.Obeyed.{call_obeyed}

-- delays of whole parts, q to a tick
abbrev pub InParts : ℕ → Fraction → Type 0
InParts q d = d.denominator ≡ q

call_fits : (q : ℕ) (c : Call) → Fit (InParts q) (act_of q c)
call_fits q (wait d) = refl
call_fits q (word p v slots) = tt
call_fits q (step slots) = tt

module _ (ms : Meaning) (q : ℕ) (o : Order) (paths : List Path) (some : 1 ≤ q) (steady : Steady ms) {X : Type 0} (B : ℕ → Rules X) (S : ℕ → StationState → X → Type 0)
    (forth : (i : ℕ) → i < length ms → Follows (InParts q) (station_rules q (meaning_at ms i)) (B i) (S i))
    (back : (i : ℕ) → i < length ms → Follows (InParts q) (B i) (station_rules q (meaning_at ms i)) (λ x y. S i y x)) where
  abbrev net : Net
  net = record { stations = ms; order = o; parts = q }

  abbrev n : ℕ
  n = length ms

  abbrev rules : ℕ → Rules StationState
  rules i = station_rules q (meaning_at ms i)

  abbrev pub Stood : NetState → (ℕ → X) → Type 0
  Stood s σ = (i : ℕ) → i < n → S i (state_at s.stations i) (σ i)

  shown_stood : (τ : ℕ → StationState) (s : NetState) (σ : ℕ → X) → Shown n τ s.stations → ((i : ℕ) → i < n → S i (τ i) (σ i)) → Stood s σ
  shown_stood τ s σ shown r i l = subst (λ x. S i x (σ i)) (shown i l) (r i l)

  pub obeyed_does : (c : Call) (s : NetState) (fs : List Event) (σ : ℕ → X) → Whole ms s.stations → Stood s σ → (answer_call net paths c s).answer ≡ Ok fs →
      (τ : ℕ → X) × (Does B n o paths σ (act_of q c) fs τ × Stood (answer_call net paths c s).state τ)
  obeyed_does c s fs σ whole stood h =
      let g = does_call ms q o paths steady some c s fs whole h in
      let t = does_too (InParts q) rules B n S forth o paths σ stood (call_fits q c) g.does in
      (t.0, (t.1.0, shown_stood g.end (answer_call net paths c s).state t.0 g.shown t.1.1))

  pub does_obeyed : bad_paths n paths ≡ None → (c : Call) (s : NetState) (fs : List Event) (σ τ : ℕ → X) → Whole ms s.stations → Stood s σ → Enough net paths c s →
      Does B n o paths σ (act_of q c) fs τ → ((answer_call net paths c s).answer ≡ Ok fs) × Stood (answer_call net paths c s).state τ
  does_obeyed fine c s fs σ τ whole stood few g =
      let t = does_too (InParts q) B rules n (λ i x y. S i y x) back o paths (state_at s.stations) stood (call_fits q c) g in
      let r = call_obeyed ms q o paths steady some fine c s fs t.0 whole few t.1.0 in
      (r.answer, shown_stood t.0 (answer_call net paths c s).state τ r.shown t.1.1)

  -- every state that calls leave is stood by
  pub left_stood : (cs : List Call) (s : NetState) (σ : ℕ → X) → Whole ms s.stations → Stood s σ → Whole ms (left_by net paths cs s).stations × ((τ : ℕ → X) × Stood (left_by net paths cs s) τ)
  left_stood [] s σ whole stood = (whole, (σ, stood))
  left_stood (c ∷ cs) s σ whole stood = elim (told_or_kept ms q o paths steady some c s) [
    | inl told ↦
        (let g = obeyed_does c s told.0 σ whole stood told.1 in
        left_stood cs (answer_call net paths c s).state g.0 (call_whole ms q steady o paths c s whole) g.1.1)
    | inr kept ↦ left_stood cs (answer_call net paths c s).state σ (call_whole ms q steady o paths c s whole) (subst (λ z. Stood z σ) (sym kept) stood)
  ]

  pub obeyed_runs : (cs : List Call) (s : NetState) (es : List Event) (σ : ℕ → X) → Whole ms s.stations → Stood s σ → AllObeyed net paths cs s es →
      (τ : ℕ → X) × (Run B n o paths σ (acts_of q cs) es τ × Stood (left_by net paths cs s) τ)
  obeyed_runs [] s es σ whole stood h = (σ, (subst (λ z. Run B n o paths σ [] z σ) (sym h) ended, stood))
  obeyed_runs (c ∷ cs) s es σ whole stood h =
      let g = obeyed_does c s h.0 σ whole stood h.2 in
      let r = obeyed_runs cs (answer_call net paths c s).state h.1 g.0 (call_whole ms q steady o paths c s whole) g.1.1 h.3 in
      (r.0, (subst (λ z. Run B n o paths σ (act_of q c ∷ acts_of q cs) z r.0) (sym h.4) (goes_on g.1.0 r.1.0), r.1.1))

  none_left : {ρ τ : ℕ → X} {es : List Event} (s : NetState) → Run B n o paths ρ [] es τ → Stood s ρ → (es ≡ []) × Stood s τ
  none_left s ended h = (refl, h)

  split_run : {ρ τ : ℕ → X} {a : Act} {acts : List Act} {es : List Event} → Run B n o paths ρ (a ∷ acts) es τ →
      (ρ' : ℕ → X) × (fs : List Event) × (gs : List Event) × Does B n o paths ρ a fs ρ' × Run B n o paths ρ' acts gs τ × (es ≡ fs ++ gs)
  split_run (goes_on {σ' = ρ'} {es = fs} {fs = gs} g rest) = (ρ', fs, gs, g, rest, refl)

  pub runs_obeyed : bad_paths n paths ≡ None → (cs : List Call) (s : NetState) (es : List Event) (σ τ : ℕ → X) → Whole ms s.stations → Stood s σ → AllEnough net paths cs s →
      Run B n o paths σ (acts_of q cs) es τ → AllObeyed net paths cs s es × Stood (left_by net paths cs s) τ
  runs_obeyed fine [] s es σ τ whole stood few run = none_left s run stood
  runs_obeyed fine (c ∷ cs) s es σ τ whole stood few run =
      let r = split_run run in
      let a = does_obeyed fine c s r.1 σ r.0 whole stood few.0 r.3 in
      let b = runs_obeyed fine cs (answer_call net paths c s).state r.2 r.0 τ (call_whole ms q steady o paths c s whole) a.1 few.1 r.4 in
      ((r.1, r.2, a.0, b.0, r.5), b.1)
