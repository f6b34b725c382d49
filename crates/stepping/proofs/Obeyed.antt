-- An act that the rules of its stations allow, a net obeys, with the same events and into the same states.
use Rattle.std.proofs.Common.{◌≡◌, ℕ, suc, ◌+◌, ◌<◌, ◌≤◌, Bool, true, false, cond, eqb, ltb, List, [], ◌∷◌, ◌++◌, length, set, Some, None, Ok, Option, sym, refl, ap, ◌∙◌, subst, ap₂, mul-div_cancel, arith, length-set}
use mathlib.Core.Path.{fun_ext}
use Rattle.std.specs.Option.{option_or}
use Rattle.std.proofs.lemmas.Bool.{not-true, le-ltb}
use Rattle.semantics.specs.Times.{fraction, Order, StepFirst, WordFirst}
use Rattle.semantics.specs.Trees.{Word, Path}
use Rattle.semantics.specs.Fits.{within_bound}
use Rattle.semantics.specs.Events.{Event, event, leaves, Arrival, External, Output}
use Rattle.semantics.specs.Machine.{move_to, Meaning, meaning_at}
use Rattle.semantics.specs.declared.state.StationState.{StationState}
use Rattle.semantics.specs.Net.{Net, NetState, in_stance, state_at, stance_at, busy_at, due_at, past_at, Passed, arrive, and_then, deliver, send, act}
use Rattle.semantics.specs.Net as nets
use Rattle.semantics.specs.Calls.{Outcome, Call, wait, word, step, at_zero, bad_paths, room, answered, waited, lowest, due_before_words, answer_call}
use Rattle.semantics.specs.Calls as calls
use Rattle.semantics.specs.Runs.{Rules, put, AllQuiet, NoneDue, Turn, lowest_busy, lowest_due, Delivered, done, elsewhere, outside, unheard, heard, Sent, nothing, one_word, landing, Does, delayed, worded, stepped, delay}
use Rattle.semantics.specs.Runs as runs
use Rattle.semantics.proofs.Lowest.{none_found}
use Rattle.semantics.proofs.Devs.{turn_selects}
use Rattle.stepping.specs.StationRules.{station_rules, parts_in, Shown}
use Rattle.stepping.specs.Obeys.{act_of, Enough}
use Rattle.stepping.proofs.Whole.{Steady, put_set, paths_fine, wait_at, Whole, send_whole}
use Rattle.stepping.proofs.Allowed.{runs_on, due_rule, landed, land_news, land_states}

module _ (ms : Meaning) (q : ℕ) (o : Order) (paths : List Path) (steady : Steady ms) (some : 1 ≤ q) where
  abbrev rules : ℕ → Rules StationState
  rules i = station_rules q (meaning_at ms i)

  abbrev n : ℕ
  n = length ms

  put_shown : (ρ : ℕ → StationState) (σ : List StationState) → length σ ≡ n → Shown n ρ σ → (h : ℕ) → h < n → (x y : StationState) → x ≡ y → Shown n (put ρ h x) (set σ h y)
  put_shown ρ σ long s h l x y e i m = go (eqb i h) refl ∙ ap (λ f. f i) (put_set σ h y (omega arith))
    where
      go : (b : Bool) → eqb i h ≡ b → cond b x (ρ i) ≡ cond b y (state_at σ i)
      go true f = e
      go false f = s i m

  skip : (p : Path) (ps : List Path) (from port v : ℕ) (σ : List StationState) → leaves p from port ≡ false → deliver ms q (p ∷ ps) from port v σ ≡ deliver ms q ps from port v σ
  skip p ps from port v σ e = ap (λ b. cond b (and_then (arrive ms q σ p.hearer p.hearer_port v) (deliver ms q ps from port v)) (deliver ms q ps from port v σ)) e

  take_it : (p : Path) (ps : List Path) (from port v : ℕ) (σ : List StationState) (r : Passed) → leaves p from port ≡ true → arrive ms q σ p.hearer p.hearer_port v ≡ r →
      deliver ms q (p ∷ ps) from port v σ ≡ and_then r (deliver ms q ps from port v)
  take_it p ps from port v σ r e f =
      ap (λ b. cond b (and_then (arrive ms q σ p.hearer p.hearer_port v) (deliver ms q ps from port v)) (deliver ms q ps from port v σ)) e ∙
      ap (λ z. and_then z (deliver ms q ps from port v)) f

  pub record Is (from port v : ℕ) (ps : List Path) (σ : List StationState) (es : List Event) (τ : ℕ → StationState) : Type 0 where
    pub news : (deliver ms q ps from port v σ).news ≡ es
    pub shown : Shown n τ (deliver ms q ps from port v σ).stations

  is_by : (from port v : ℕ) (ps : List Path) (σ : List StationState) (es : List Event) (τ : ℕ → StationState) (r : Passed) → deliver ms q ps from port v σ ≡ r → r.news ≡ es → Shown n τ r.stations → Is from port v ps σ es τ
  is_by from port v ps σ es τ r e f s = record { news = ap (λ z. z.news) e ∙ f; shown = subst (λ z. Shown n τ z.stations) (sym e) s }

  to_station : (p : Path) (v : ℕ) (σ : List StationState) (h : ℕ) (u : Option ℕ) → p.hearer ≡ suc h → (stance_at ms σ h).hears p.hearer_port v (state_at σ h).elapsed q ≡ u →
      arrive ms q σ p.hearer p.hearer_port v ≡ nets.heard ms σ h p.hearer_port v u
  to_station p v σ h u e f = ap (λ k. arrive ms q σ k p.hearer_port v) e ∙ ap (nets.heard ms σ h p.hearer_port v) f

  delivered_is : {from port v : ℕ} {ps : List Path} {ρ τ : ℕ → StationState} {es : List Event} (σ : List StationState) → length σ ≡ n → Shown n ρ σ → Delivered rules n o paths from port v ps ρ es τ → Is from port v ps σ es τ
  delivered_is σ long s done = record { news = refl; shown = s }
  delivered_is {from} {port} {v} σ long s (elsewhere {p = p} {ps = ps} no_way c) =
      let r = delivered_is σ long s c in
      is_by from port v (p ∷ ps) σ _ _ _ (skip p ps from port v σ no_way) r.news r.shown
  delivered_is {from} {port} {v} σ long s (outside {p = p} {ps = ps} way out c) =
      let r = delivered_is σ long s c in
      is_by from port v (p ∷ ps) σ _ _ _ (take_it p ps from port v σ _ way (ap (λ k. arrive ms q σ k p.hearer_port v) out)) (ap (λ z. event Arrival 0 p.hearer_port v ∷ z) r.news) r.shown
  delivered_is {from} {port} {v} {ρ = ρ} σ long s (unheard {p = p} {ps = ps} h way to l deaf c) =
      let r = delivered_is σ long s c in
      let none = subst (λ x. ((meaning_at ms h).stance x.stance).hears p.hearer_port v x.elapsed q ≡ None) (s h l) deaf in
      is_by from port v (p ∷ ps) σ _ _ _ (take_it p ps from port v σ _ way (to_station p v σ h None to none)) (ap (λ z. event Arrival (suc h) p.hearer_port v ∷ z) r.news) r.shown
  delivered_is {from} {port} {v} {ρ = ρ} σ long s (heard {p = p} {ps = ps} h x way to l hears c) =
      let some = subst (λ y. ((meaning_at ms h).stance y.stance).hears p.hearer_port v y.elapsed q ≡ Some x.stance) (s h l) hears.0 in
      let new : StationState = in_stance x.stance 0 in
      let is-new : x ≡ new = ap (λ e. in_stance x.stance e) hears.1 in
      let r = delivered_is (set σ h new) (length-set σ h new ∙ long) (put_shown ρ σ long s h l x new is-new) c in
      is_by from port v (p ∷ ps) σ _ _ _ (take_it p ps from port v σ _ way (to_station p v σ h (Some x.stance) to some))
      (ap (λ z. event Arrival (suc h) p.hearer_port v ∷ event External (suc h) 0 ((meaning_at ms h).stance x.stance).phase ∷ z) r.news) r.shown

  abbrev net : Net
  net = record { stations = ms; order = o; parts = q }

  -- the call is obeyed with these events, and leaves the states τ
  pub record Obeyed (c : Call) (s : NetState) (es : List Event) (τ : ℕ → StationState) : Type 0 where
    pub answer : (answer_call net paths c s).answer ≡ Ok es
    pub shown : Shown n τ (answer_call net paths c s).state.stations

  obeyed_by : (c : Call) (s : NetState) (es : List Event) (r : Outcome) (ρ : ℕ → StationState) → answer_call net paths c s ≡ r → r.answer ≡ Ok es → Shown n ρ r.state.stations → Obeyed c s es ρ
  obeyed_by c s es r ρ e ans shown = record { answer = ap (λ z. z.answer) e ∙ ans; shown = subst (λ z. Shown n ρ z.state.stations) (sym e) shown }

  none_busy : (s : NetState) → AllQuiet rules n o paths (state_at s.stations) → calls.lowest_busy net s ≡ None
  none_busy s quiet = none_found (busy_at ms s.stations) 0 n (λ i l m. quiet i (omega arith))

  none_due : (s : NetState) → NoneDue rules n o paths (state_at s.stations) → calls.lowest_due net s ≡ None
  none_due s quiet = none_found (due_at ms q s.stations) 0 n (λ i l m. due_rule ms q o paths steady s.stations i ∙ quiet i (omega arith))

  due_in_order : (s : NetState) (r : Order) → o ≡ r → (o ≡ StepFirst → NoneDue rules n o paths (state_at s.stations)) → due_before_words net r s ≡ None
  due_in_order s StepFirst e h = none_due s (h e)
  due_in_order s WordFirst e h = refl

  wait_obeyed : (d : ℕ) (s : NetState) (es : List Event) (τ : ℕ → StationState) → length s.stations ≡ n → s.total + d ≤ 1000000000000000 →
      Does rules n o paths (state_at s.stations) (delay (fraction d q)) es τ → Obeyed (wait d) s es τ
  wait_obeyed d s es τ long few (delayed good quiet may) =
      let whole : parts_in (fraction d q) q ≡ d = mul-div_cancel d some in
      let a = none_busy s quiet in
      let b : calls.lowest_past net s d ≡ None = none_found (past_at ms q s.stations d) 0 n (λ i l m.
      not-true _ (runs_on (stance_at ms s.stations i).lifetime q ((state_at s.stations i).elapsed + d) ∙
      subst (λ k. within_bound (stance_at ms s.stations i).lifetime (fraction ((state_at s.stations i).elapsed + k) q) ≡ true) whole (may i (omega arith)))) in
      let c : at_zero (ltb 1000000000000000 (s.total + d)) ≡ None = ap at_zero (le-ltb 1000000000000000 (s.total + d) few) in
      let e : answer_call net paths (wait d) s ≡ record { answer = Ok []; state = waited net d s } = simp (a, b, c) in
      obeyed_by (wait d) s [] _ _ e refl
      (λ i l. sym (wait_at d s.stations i (omega arith) ∙ ap (λ k. in_stance (state_at s.stations i).stance ((state_at s.stations i).elapsed + k)) (sym whole)))

  word_obeyed : (port v slots : ℕ) (s : NetState) (es : List Event) (τ : ℕ → StationState) → bad_paths n paths ≡ None → length s.stations ≡ n → room paths ≤ slots →
      Does rules n o paths (state_at s.stations) (runs.word port v) es τ → Obeyed (word port v slots) s es τ
  word_obeyed port v slots s es τ fine long few (worded quiet none c) =
      let is = delivered_is s.stations long (λ i l. refl) c in
      let a = none_busy s quiet in
      let b = due_in_order s o refl none in
      let k : at_zero (ltb slots (room paths)) ≡ None = ap at_zero (le-ltb slots (room paths) few) in
      let e : answer_call net paths (word port v slots) s ≡ answered s (deliver ms q paths 0 port v s.stations) = simp (fine, k, a, b) in
      obeyed_by (word port v slots) s es _ _ e (ap Ok is.news) is.shown

  -- who acts, by the net
  turn_acts : (s : NetState) (i : ℕ) → Turn rules n o paths (state_at s.stations) i → option_or (calls.lowest_busy net s) (calls.lowest_due net s) ≡ Some i
  turn_acts s i turn =
      subst (λ p. option_or (calls.lowest_busy net s) (lowest p 0 n) ≡ Some i) (sym (fun_ext (due_rule ms q o paths steady s.stations)))
      (turn_selects rules n o paths (state_at s.stations) i turn)

  turn_in : (ρ : ℕ → StationState) (i : ℕ) → Turn rules n o paths ρ i → i < n
  turn_in ρ i (lowest_busy l b below) = l
  turn_in ρ i (lowest_due quiet l b below) = l

  sent_is : (σ : List StationState) {i : ℕ} {w : Option Word} {τ : ℕ → StationState} {es : List Event} → length σ ≡ n → Sent rules n o paths i w (state_at σ) es τ →
      ((send ms q paths i w σ).news ≡ es) × Shown n τ (send ms q paths i w σ).stations
  sent_is σ long nothing = (refl, λ i l. refl)
  sent_is σ {i} long (one_word {w = w} c) =
      let is = delivered_is σ long (λ k l. refl) c in
      (ap (λ z. event Output (suc i) w.port w.value ∷ z) is.news, is.shown)

  step_obeyed : (slots : ℕ) (s : NetState) (es : List Event) (ρ : ℕ → StationState) → bad_paths n paths ≡ None → Whole ms s.stations → room paths ≤ slots →
      Does rules n o paths (state_at s.stations) runs.step es ρ → Obeyed (step slots) s es ρ
  step_obeyed slots s es ρ fine whole few (stepped {σ' = τ} {es = fs} i w x turn move sent) =
      let is = sent_is s.stations whole.long sent in
      let mid = send ms q paths i w s.stations in
      let e₀ = (state_at s.stations i).elapsed in
      let k : at_zero (ltb slots (room paths)) ≡ None = ap at_zero (le-ltb slots (room paths) few) in
      let t = turn_acts s i turn in
      let e : answer_call net paths (step slots) s ≡ calls.step_of net paths s (Some i) = simp (fine, k, t) in
      let m : calls.step_of net paths s (Some i) ≡ answered s (act ms q paths i (Some (move_to w x.stance)) s.stations) =
      ap (λ z. answered s (act ms q paths i z s.stations)) move.0 in
      let news : (act ms q paths i (Some (move_to w x.stance)) s.stations).news ≡ fs ++ landing rules n o paths i x =
      ap₂ ◌++◌ is.0 (land_news ms q o paths steady some i x.stance e₀ mid.stations) in
      let there : Shown n (put τ i x) (act ms q paths i (Some (move_to w x.stance)) s.stations).stations =
      subst (Shown n (put τ i x)) (sym (land_states ms q o paths steady some i x.stance e₀ mid.stations))
      (put_shown τ mid.stations (send_whole ms q steady paths (paths_fine n 1 paths fine) i w s.stations whole).long is.1 i (turn_in (state_at s.stations) i turn) x (landed ms q o paths steady some i x.stance e₀) (ap (λ z. in_stance x.stance z) move.1)) in
      obeyed_by (step slots) s _ _ _ (e ∙ m) (ap Ok news) there

  pub call_obeyed : bad_paths n paths ≡ None → (c : Call) (s : NetState) (es : List Event) (τ : ℕ → StationState) → Whole ms s.stations → Enough net paths c s →
      Does rules n o paths (state_at s.stations) (act_of q c) es τ → Obeyed c s es τ
  call_obeyed fine (wait d) s es τ whole few g = wait_obeyed d s es τ whole.long few g
  call_obeyed fine (word port v slots) s es τ whole few g = word_obeyed port v slots s es τ fine whole.long few g
  call_obeyed fine (step slots) s es τ whole few g = step_obeyed slots s es τ fine whole few g
