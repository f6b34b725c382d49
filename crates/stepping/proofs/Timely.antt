-- No quiet station is ever past its lifetime, so that a net can always go on.
use Rattle.std.proofs.Common.{◌≡◌, ℕ, zero, suc, ◌+◌, ◌*◌, ◌<◌, ◌≤◌, Bool, true, false, cond, not, ◌&&◌, eqb, ltb, ◌⊎◌, List, [], ◌∷◌, map, length, set, Some, None, Ok, Option, sym, refl, ap, ◌∙◌, subst, inl, inr, mul-div_cancel, arith}
use Rattle.std.specs.Option.{option_or}
use Rattle.std.proofs.lemmas.Bool.{eqb-true, eqb-false, ltb-false, le-ltb, le-leb}
use Rattle.semantics.specs.Times.{fraction, Order}
use Rattle.semantics.specs.Trees.{Word, Path}
use Rattle.semantics.specs.Fits.{within_bound}
use Rattle.semantics.specs.Events.{Event, event, leaves, Internal}
use Rattle.semantics.specs.Machine.{Meaning, meaning_at}
use Rattle.semantics.specs.declared.state.Move.{Move}
use Rattle.semantics.specs.declared.state.StationState.{StationState}
use Rattle.semantics.specs.Net.{Net, NetState, in_stance, state_at, stance_at, busy_at, due_at, past_at, ends_now, runs_out, passed, heard, arrive, and_then, deliver, send, land, act}
use Rattle.semantics.specs.Calls.{Outcome, Call, wait, word, step, at_zero, number, bad_paths, room, step_of, due_before_words, answer_call, left_by}
use Rattle.semantics.specs.Calls as calls
use Rattle.semantics.specs.Runs.{Rules, Does, delayed, delay}
use Rattle.semantics.specs.Runs as runs
use Rattle.semantics.proofs.Options.{some_not_none, true_not_false}
use Rattle.semantics.proofs.Lowest.{all_fail, is_lowest}
use Rattle.stepping.specs.StationRules.{station_rules, parts_in}
use Rattle.stepping.proofs.Whole.{Steady, put_set, Fine, paths_fine, either_way, wait_at, arrive_long, Whole, send_whole, call_whole}
use Rattle.stepping.proofs.Allowed.{does_call}

number_none : (u : Option ℕ) → number u ≡ None → u ≡ None
number_none None e = refl
number_none (Some x) e = absurd (some_not_none _ e)

either_none : (u w : Option ℕ) → option_or u w ≡ None → (u ≡ None) × (w ≡ None)
either_none None w e = (refl, e)
either_none (Some x) w e = absurd (some_not_none x e)

module _ (ms : Meaning) (q : ℕ) where
  abbrev n : ℕ
  n = length ms

  abbrev InTime : ℕ → StationState → Type 0
  InTime i x = ((meaning_at ms i).stance x.stance).busy ≡ false → runs_out ((meaning_at ms i).stance x.stance).lifetime q x.elapsed ≡ false

  abbrev pub Timely : List StationState → Type 0
  Timely σ = (i : ℕ) → i < n → InTime i (state_at σ i)

  pub fresh_on : (l : Option ℕ) → runs_out l q 0 ≡ false
  fresh_on None = refl
  fresh_on (Some l) = le-ltb (l * q) 0 (omega arith)

  set_timely : (σ : List StationState) (h : ℕ) (x : StationState) → length σ ≡ n → h < n → InTime h x → Timely σ → Timely (set σ h x)
  set_timely σ h x long l t w i m = subst (λ f. InTime i (f i)) (put_set σ h x (omega arith)) (go (eqb i h) refl)
    where
      go : (b : Bool) → eqb i h ≡ b → InTime i (cond b x (state_at σ i))
      go true f = subst (λ k. InTime k x) (sym (eqb-true i h f)) t
      go false f = w i m

  heard_timely : (σ : List StationState) (h port v : ℕ) → length σ ≡ n → h < n → (u : Option ℕ) → Timely σ → Timely (heard ms σ h port v u).stations
  heard_timely σ h port v long l None t = t
  heard_timely σ h port v long l (Some s) t = set_timely σ h (in_stance s 0) long l (λ quiet. fresh_on _) t

  arrive_timely : (σ : List StationState) (h port v : ℕ) → length σ ≡ n → h ≤ n → Timely σ → Timely (arrive ms q σ h port v).stations
  arrive_timely σ zero port v long l t = t
  arrive_timely σ (suc h) port v long l t = heard_timely σ h port v long (omega arith) _ t

  deliver_timely : (ps : List Path) → Fine n ps → (from port v : ℕ) (σ : List StationState) → length σ ≡ n → Timely σ → Timely (deliver ms q ps from port v σ).stations
  deliver_timely [] fine from port v σ long t = t
  deliver_timely (p ∷ ps) fine from port v σ long t =
      elim (leaves p from port) as
      (λ b. Timely (cond b (and_then (arrive ms q σ p.hearer p.hearer_port v) (deliver ms q ps from port v)) (deliver ms q ps from port v σ)).stations) [
        | true ↦ deliver_timely ps fine.1 from port v _ (arrive_long ms q σ p.hearer p.hearer_port v ∙ long) (arrive_timely σ p.hearer p.hearer_port v long fine.0 t)
        | false ↦ deliver_timely ps fine.1 from port v σ long t
      ]

  send_timely : (ps : List Path) → Fine n ps → (i : ℕ) (w : Option Word) (σ : List StationState) → length σ ≡ n → Timely σ → Timely (send ms q ps i w σ).stations
  send_timely ps fine i None σ long t = t
  send_timely ps fine i (Some w) σ long t = deliver_timely ps fine (suc i) w.port w.value σ long t

  land_timely : (i s e : ℕ) (σ : List StationState) → length σ ≡ n → i < n → Timely σ → Timely (land i s e ((meaning_at ms i).stance s) σ).stations
  land_timely i s e σ long l t = go ((meaning_at ms i).stance s).busy refl
    where
      go : (b : Bool) → ((meaning_at ms i).stance s).busy ≡ b →
          Timely (cond b (passed [] (set σ i (in_stance s e))) (passed (event Internal (suc i) 0 ((meaning_at ms i).stance s).phase ∷ []) (set σ i (in_stance s 0)))).stations
      go true f = set_timely σ i (in_stance s e) long l (λ quiet. absurd (true_not_false (sym f ∙ quiet))) t
      go false f = set_timely σ i (in_stance s 0) long l (λ quiet. fresh_on _) t

  module _ (steady : Steady ms) (o : Order) where
    abbrev net : Net
    net = record { stations = ms; order = o; parts = q }

    act_timely : (ps : List Path) → Fine n ps → (i : ℕ) → i < n → (m : Option Move) (σ : List StationState) → Whole ms σ → Timely σ → Timely (act ms q ps i m σ).stations
    act_timely ps fine i l None σ w t = t
    act_timely ps fine i l (Some m) σ w t =
        land_timely i m.follows _ _ (send_whole ms q steady ps fine i m.word σ w).long l (send_timely ps fine i m.word σ w.long t)

    acts_within : (s : NetState) (u w : Option ℕ) → calls.lowest_busy net s ≡ u → calls.lowest_due net s ≡ w → (i : ℕ) → option_or u w ≡ Some i → i < n
    acts_within s (Some j) w eu ew i e = let r = (is_lowest _ 0 n i (eu ∙ e)).under in omega arith
    acts_within s None (Some j) eu ew i e = let r = (is_lowest _ 0 n i (ew ∙ e)).under in omega arith
    acts_within s None None eu ew i e = absurd (some_not_none i (sym e))

    abbrev Kept : Outcome → Type 0
    Kept r = Timely r.state.stations

    step_timely : (ps : List Path) → Fine n ps → (s : NetState) → Whole ms s.stations → Timely s.stations → (u : Option ℕ) → option_or (calls.lowest_busy net s) (calls.lowest_due net s) ≡ u → Kept (step_of net ps s u)
    step_timely ps fine s w t None e = t
    step_timely ps fine s w t (Some i) e = act_timely ps fine i (acts_within s _ _ refl refl i e) _ s.stations w t

    waits_timely : (d : ℕ) (s : NetState) → length s.stations ≡ n → calls.lowest_past net s d ≡ None → Timely (map (λ x. in_stance x.stance (x.elapsed + d)) s.stations)
    waits_timely d s long e i l =
        subst (InTime i) (sym (wait_at d s.stations i (omega arith)))
        (λ quiet. all_fail (past_at ms q s.stations d) 0 n e i (omega arith) (omega arith))

    call_timely : (ps : List Path) (c : Call) (s : NetState) → Whole ms s.stations → Timely s.stations → Timely (answer_call net ps c s).state.stations
    call_timely ps (wait d) s w t =
        either_way Kept (number (calls.lowest_busy net s)) _ _ (λ k. t) (λ _.
        either_way Kept (number (calls.lowest_past net s d)) _ _ (λ k. t) (λ short.
        either_way Kept (at_zero (ltb 1000000000000000 (s.total + d))) _ _ (λ k. t) (λ _. waits_timely d s w.long (number_none _ short))))
    call_timely ps (word port value slots) s w t =
        either_way Kept (bad_paths n ps) _ _ (λ k. t) (λ fine.
        either_way Kept (at_zero (ltb slots (room ps))) _ _ (λ k. t) (λ _.
        either_way Kept (number (calls.lowest_busy net s)) _ _ (λ k. t) (λ _.
        either_way Kept (number (due_before_words net o s)) _ _ (λ k. t) (λ _.
        deliver_timely ps (paths_fine n 1 ps fine) 0 port value s.stations w.long t))))
    call_timely ps (step slots) s w t =
        either_way Kept (bad_paths n ps) _ _ (λ k. t) (λ fine.
        either_way Kept (at_zero (ltb slots (room ps))) _ _ (λ k. t) (λ _.
        step_timely ps (paths_fine n 1 ps fine) s w t _ refl))

    pub record Sure (s : NetState) : Type 0 where
      pub whole : Whole ms s.stations
      pub timely : Timely s.stations

    pub call_sure : (ps : List Path) (c : Call) (s : NetState) → Sure s → Sure (answer_call net ps c s).state
    call_sure ps c s h = record { whole = call_whole ms q steady o ps c s h.whole; timely = call_timely ps c s h.whole h.timely }

    pub left_sure : (ps : List Path) (cs : List Call) (s : NetState) → Sure s → Sure (left_by net ps cs s)
    left_sure ps [] s h = h
    left_sure ps (c ∷ cs) s h = left_sure ps cs (answer_call net ps c s).state (call_sure ps c s h)

    abbrev rules : ℕ → Rules StationState
    rules i = station_rules q (meaning_at ms i)

    -- neither past its lifetime nor at it, a quiet station may wait one part more
    one_more : (l : Option ℕ) (e : ℕ) → runs_out l q e ≡ false → ends_now l q e ≡ false → within_bound l (fraction (e + 1) q) ≡ true
    one_more None e a b = refl
    one_more (Some l) e a b =
        let x = ltb-false (l * q) e a in
        let y = eqb-false e (l * q) b in
        le-leb ((e + 1) * 1) (l * q) (omega (arith, y))

    not_due : (b : Bool) (k : Bool) → b ≡ false → (not b && k) ≡ false → k ≡ false
    not_due true k e h = absurd (true_not_false e)
    not_due false k e h = h

    module _ (some : 1 ≤ q) (paths : List Path) (fine : bad_paths n paths ≡ None) where
      abbrev Steps : NetState → Type 0
      Steps s = (es : List Event) × ((τ : ℕ → StationState) × Does rules n o paths (state_at s.stations) runs.step es τ)

      abbrev Waits : NetState → Type 0
      Waits s = (τ : ℕ → StationState) × Does rules n o paths (state_at s.stations) (delay (fraction 1 q)) [] τ

      pub goes_on : (s : NetState) → Sure s → Steps s ⊎ Waits s
      goes_on s h = go (option_or (calls.lowest_busy net s) (calls.lowest_due net s)) refl
        where
          go : (u : Option ℕ) → option_or (calls.lowest_busy net s) (calls.lowest_due net s) ≡ u → Steps s ⊎ Waits s
          go (Some i) e =
              let r : at_zero (ltb (room paths) (room paths)) ≡ None = ap at_zero (le-ltb (room paths) (room paths) (omega arith)) in
              let a : (answer_call net paths (step (room paths)) s).answer ≡ Ok (act ms q paths i (stance_at ms s.stations i).move s.stations).news = simp (fine, r, e) in
              let g = does_call ms q o paths steady some (step (room paths)) s _ h.whole a in
              inl (_, (g.end, g.does))
          go None e =
              let both = either_none _ _ e in
              let one : parts_in (fraction 1 q) q ≡ 1 = mul-div_cancel 1 some in
              let quiet : (i : ℕ) → i < n → busy_at ms s.stations i ≡ false = λ i l. all_fail (busy_at ms s.stations) 0 n both.0 i (omega arith) (omega arith) in
              inr (
                (λ i. (rules i).later (fraction 1 q) (state_at s.stations i)),
                delayed some quiet (λ i l.
                    subst (λ k. within_bound (stance_at ms s.stations i).lifetime (fraction ((state_at s.stations i).elapsed + k) q) ≡ true) (sym one)
                    (one_more (stance_at ms s.stations i).lifetime (state_at s.stations i).elapsed (h.timely i l (quiet i l))
                    (not_due (busy_at ms s.stations i) _ (quiet i l) (all_fail (due_at ms q s.stations) 0 n both.1 i (omega arith) (omega arith))))),
              )
