-- A call that a net obeys, the rules of its stations allow, with the same events and into the same states.
use Rattle.std.proofs.Common.{◌≡◌, ℕ, zero, suc, ◌+◌, ◌*◌, ◌<◌, ◌≤◌, Bool, true, false, cond, not, ◌&&◌, eqb, ltb, leb, ◌⊎◌, List, [], ◌∷◌, ◌++◌, length, set, Some, None, Ok, Err, Option, sym, refl, ap, ◌∙◌, subst, inl, inr, mul-div_cancel, arith}
use mathlib.Core.Path.{fun_ext}
use Rattle.std.specs.Option.{option_or}
use Rattle.std.proofs.lemmas.Bool.{and_parts}
use Rattle.std.proofs.lemmas.Bool.Decides.{nat_tests}
use Rattle.book.specs.declared.refusal.Refusal.{Refusal}
use Rattle.book.specs.declared.refusal.Fault.{Fault}
use Rattle.semantics.specs.Times.{fraction, Order}
use Rattle.semantics.specs.Trees.{Word, Path}
use Rattle.semantics.specs.Fits.{within_bound}
use Rattle.semantics.specs.AutomatonRules.{at_bound}
use Rattle.semantics.specs.Events.{Event, event, leaves, Internal}
use Rattle.semantics.specs.Machine.{Meaning, meaning_at}
use Rattle.semantics.specs.declared.state.Move.{Move}
use Rattle.semantics.specs.declared.state.StationState.{StationState}
use Rattle.semantics.specs.Net.{Net, NetState, in_stance, state_at, stance_at, busy_at, due_at, past_at, ends_now, runs_out, passed, arrive, and_then, deliver, send, land, act}
use Rattle.semantics.specs.Net as nets
use Rattle.semantics.specs.Calls.{Answer, Outcome, Call, wait, word, step, unless, at_zero, number, bad_paths, room, declined, answered, waited, step_of, lowest, due_before_words, answer_call}
use Rattle.semantics.specs.Calls as calls
use Rattle.semantics.specs.Runs.{Rules, put, AllQuiet, NoneDue, Turn, lowest_busy, lowest_due, Delivered, done, elsewhere, outside, unheard, heard, Sent, nothing, one_word, landing, Does, delayed, worded, stepped, delay}
use Rattle.semantics.specs.Runs as runs
use Rattle.semantics.proofs.Options.{some_not_none, true_not_false}
use Rattle.semantics.proofs.Lowest.{all_fail}
use Rattle.semantics.proofs.Devs.{selects_turn}
use Rattle.stepping.specs.StationRules.{station_rules, parts_in}
use Rattle.stepping.specs.Obeys.{act_of}
use Rattle.stepping.proofs.Whole.{Steady, put_set, Fine, paths_fine, either_way, wait_at, arrive_long, Whole, send_whole}

-- the net's comparisons of parts are those of the fraction parts / q
ends_at : (l : Option ℕ) (q e : ℕ) → ends_now l q e ≡ at_bound l (fraction e q)
ends_at None q e = refl
ends_at (Some l) q e = let one : e ≡ e * 1 = omega arith in ap (λ x. eqb x (l * q)) one

over_or_not : (a b c : ℕ) → a ≡ c → not (ltb b a) ≡ leb c b
over_or_not a b c e = grind (arith, nat_tests)

pub runs_on : (l : Option ℕ) (q e : ℕ) → not (runs_out l q e) ≡ within_bound l (fraction e q)
runs_on None q e = refl
runs_on (Some l) q e = over_or_not e (l * q) (e * 1) (omega arith)

pub ok_inj : (es fs : List Event) → ◌≡◌ {A = Answer} (Ok es) (Ok fs) → es ≡ fs
ok_inj es fs h = cc

pub err_not_ok : (r : Refusal) (fs : List Event) → ◌≡◌ {A = Answer} (Err r) (Ok fs) → ⊥
err_not_ok r fs h = let z : ◌≡◌ {A = ℕ} 0 1 = cc in omega arith

-- an obeyed call met no refusal
pub passed_by : (u : Option ℕ) (f : Fault) (s : NetState) (r : Outcome) (es : List Event) → (unless u (declined f s) r).answer ≡ Ok es → (u ≡ None) × (r.answer ≡ Ok es)
passed_by None f s r es h = (refl, h)
passed_by (Some p) f s r es h = absurd (err_not_ok _ es h)

number_none : (u : Option ℕ) → number u ≡ None → u ≡ None
number_none None e = refl
number_none (Some x) e = absurd (some_not_none _ e)

module _ (ms : Meaning) (q : ℕ) (o : Order) (paths : List Path) where
  abbrev rules : ℕ → Rules StationState
  rules i = station_rules q (meaning_at ms i)

  abbrev n : ℕ
  n = length ms

  abbrev net : Net
  net = record { stations = ms; order = o; parts = q }

  -- a word handed to one path's end
  hand_over : (p : Path) (ps : List Path) (from port v : ℕ) (σ : List StationState) → length σ ≡ n → p.hearer ≤ n → leaves p from port ≡ true →
      (h : ℕ) → p.hearer ≡ h → (es : List Event) (τ : ℕ → StationState) →
      Delivered rules n o paths from port v ps (state_at (arrive ms q σ h p.hearer_port v).stations) es τ →
      Delivered rules n o paths from port v (p ∷ ps) (state_at σ) ((arrive ms q σ h p.hearer_port v).news ++ es) τ
  hand_over p ps from port v σ long fine way zero e es τ c = outside way e c
  hand_over p ps from port v σ long fine way (suc h) e es τ c = go ((stance_at ms σ h).hears p.hearer_port v (state_at σ h).elapsed q) refl c
    where
      go : (u : Option ℕ) → (stance_at ms σ h).hears p.hearer_port v (state_at σ h).elapsed q ≡ u →
          Delivered rules n o paths from port v ps (state_at (nets.heard ms σ h p.hearer_port v u).stations) es τ →
          Delivered rules n o paths from port v (p ∷ ps) (state_at σ) ((nets.heard ms σ h p.hearer_port v u).news ++ es) τ
      go None f d = unheard h way e (omega arith) f d
      go (Some s) f d =
          heard h (in_stance s 0) way e (omega arith) (f, refl)
          (subst (λ z. Delivered rules n o paths from port v ps z es τ) (sym (put_set σ h (in_stance s 0) (omega arith))) d)

  module _ (steady : Steady ms) where
    delivered : (ps : List Path) → Fine n ps → (from port v : ℕ) (σ : List StationState) → length σ ≡ n →
        Delivered rules n o paths from port v ps (state_at σ) (deliver ms q ps from port v σ).news (state_at (deliver ms q ps from port v σ).stations)
    delivered [] fine from port v σ long = done
    delivered (p ∷ ps) fine from port v σ long = go (leaves p from port) refl (delivered ps fine.1 from port v)
      where
        go : (b : Bool) → leaves p from port ≡ b →
            ((τ : List StationState) → length τ ≡ n → Delivered rules n o paths from port v ps (state_at τ) (deliver ms q ps from port v τ).news (state_at (deliver ms q ps from port v τ).stations)) →
            Delivered rules n o paths from port v (p ∷ ps) (state_at σ)
            (cond b (and_then (arrive ms q σ p.hearer p.hearer_port v) (deliver ms q ps from port v)) (deliver ms q ps from port v σ)).news
            (state_at (cond b (and_then (arrive ms q σ p.hearer p.hearer_port v) (deliver ms q ps from port v)) (deliver ms q ps from port v σ)).stations)
        go true e rec = hand_over p ps from port v σ long fine.0 e p.hearer refl _ _ (rec (arrive ms q σ p.hearer p.hearer_port v).stations (arrive_long ms q σ p.hearer p.hearer_port v ∙ long))
        go false e rec = elsewhere e (rec σ long)

    quiet_all : (s : NetState) → calls.lowest_busy net s ≡ None → AllQuiet rules n o paths (state_at s.stations)
    quiet_all s e i l = all_fail (busy_at ms s.stations) 0 n e i (omega arith) (omega arith)

    pub due_rule : (σ : List StationState) (i : ℕ) → due_at ms q σ i ≡ (rules i).due (state_at σ i)
    due_rule σ i = ap (λ b. not (busy_at ms σ i) && b) (ends_at (stance_at ms σ i).lifetime q (state_at σ i).elapsed)

    due_none : (s : NetState) → calls.lowest_due net s ≡ None → NoneDue rules n o paths (state_at s.stations)
    due_none s e i l = sym (due_rule s.stations i) ∙ all_fail (due_at ms q s.stations) 0 n e i (omega arith) (omega arith)

    not_past : (l : Option ℕ) (e : ℕ) → runs_out l q e ≡ false → within_bound l (fraction e q) ≡ true
    not_past l e h = sym (runs_on l q e) ∙ ap not h

    -- the call's act is allowed with these events, into the states that the call leaves
    pub record Gone (c : Call) (s : NetState) (fs : List Event) : Type 0 where
      pub end : ℕ → StationState
      pub does : Does rules n o paths (state_at s.stations) (act_of q c) fs end
      pub shown : (i : ℕ) → i < n → end i ≡ state_at (answer_call net paths c s).state.stations i

    module _ (some : 1 ≤ q) where
      does_wait : (d : ℕ) (s : NetState) (fs : List Event) → length s.stations ≡ n → (answer_call net paths (wait d) s).answer ≡ Ok fs → Gone (wait d) s fs
      does_wait d s fs long h =
          let a = passed_by (number (calls.lowest_busy net s)) _ s _ fs h in
          let b = passed_by (number (calls.lowest_past net s d)) _ s _ fs a.1 in
          let c = passed_by (at_zero (ltb 1000000000000000 (s.total + d))) _ s _ fs b.1 in
          let quiet = quiet_all s (number_none _ a.0) in
          let empty : [] ≡ fs = ok_inj [] fs c.1 in
          let whole : parts_in (fraction d q) q ≡ d = mul-div_cancel d some in
          let kept : (answer_call net paths (wait d) s).state ≡ waited net d s = simp (a.0, b.0, c.0) in
          let may : (i : ℕ) → i < n → (rules i).may_wait (fraction d q) (state_at s.stations i) ≡ true = λ i l.
          subst (λ k. within_bound (stance_at ms s.stations i).lifetime (fraction ((state_at s.stations i).elapsed + k) q) ≡ true) (sym whole)
          (not_past (stance_at ms s.stations i).lifetime ((state_at s.stations i).elapsed + d) (all_fail (past_at ms q s.stations d) 0 n (number_none _ b.0) i (omega arith) (omega arith))) in
          record {
            end = λ i. (rules i).later (fraction d q) (state_at s.stations i);
            does = subst (λ es. Does rules n o paths (state_at s.stations) (delay (fraction d q)) es (λ i. (rules i).later (fraction d q) (state_at s.stations i))) empty (delayed some quiet may);
            shown = λ i l.
                sym (ap (λ z. state_at z.stations i) kept ∙ wait_at d s.stations i (omega arith) ∙ ap (λ k. in_stance (state_at s.stations i).stance ((state_at s.stations i).elapsed + k)) (sym whole));
          }

      does_word : (port v slots : ℕ) (s : NetState) (fs : List Event) → length s.stations ≡ n → (answer_call net paths (word port v slots) s).answer ≡ Ok fs → Gone (word port v slots) s fs
      does_word port v slots s fs long h =
          let a = passed_by (bad_paths n paths) _ s _ fs h in
          let b = passed_by (at_zero (ltb slots (room paths))) _ s _ fs a.1 in
          let c = passed_by (number (calls.lowest_busy net s)) _ s _ fs b.1 in
          let d = passed_by (number (due_before_words net o s)) _ s _ fs c.1 in
          let news : (deliver ms q paths 0 port v s.stations).news ≡ fs = ok_inj _ fs d.1 in
          let kept : (answer_call net paths (word port v slots) s).state ≡ (answered s (deliver ms q paths 0 port v s.stations)).state =
          simp (a.0, b.0, c.0, d.0) in
          record {
            end = state_at (deliver ms q paths 0 port v s.stations).stations;
            does = subst (λ es. Does rules n o paths (state_at s.stations) (runs.word port v) es (state_at (deliver ms q paths 0 port v s.stations).stations)) news
                (worded (quiet_all s (number_none _ c.0)) (λ first. due_none s (subst (λ r. due_before_words net r s ≡ None) first (number_none _ d.0)))
                (delivered paths (paths_fine n 1 paths a.0) 0 port v s.stations long));
            shown = λ i l. sym (ap (λ z. state_at z.stations i) kept);
          }

      -- who acts
      turn_of : (s : NetState) (i : ℕ) → option_or (calls.lowest_busy net s) (calls.lowest_due net s) ≡ Some i → Turn rules n o paths (state_at s.stations) i
      turn_of s i e =
          selects_turn rules n o paths (state_at s.stations) i
          (subst (λ p. option_or (calls.lowest_busy net s) (lowest p 0 n) ≡ Some i) (fun_ext (due_rule s.stations)) e)

      turn_within : (s : NetState) (i : ℕ) → Turn rules n o paths (state_at s.stations) i → i < n
      turn_within s i (lowest_busy l b below) = l
      turn_within s i (lowest_due quiet l b below) = l

      -- a station whose turn it is has a move
      ready_moves : (s : NetState) → Whole ms s.stations → (i : ℕ) → Turn rules n o paths (state_at s.stations) i → (stance_at ms s.stations i).move ≡ None → ⊥
      ready_moves s w i (lowest_busy l b below) none =
          true_not_false (sym b ∙ ((steady i l _ (w.known i l)).rests none).0)
      ready_moves s w i (lowest_due quiet l b below) none =
          let m = ((steady i l _ (w.known i l)).rests none).1 in
          let d = (and_parts (not (stance_at ms s.stations i).busy) (at_bound (stance_at ms s.stations i).lifetime (fraction (state_at s.stations i).elapsed q)) b).1 in
          true_not_false (sym (subst (λ x. at_bound x (fraction (state_at s.stations i).elapsed q) ≡ true) m d))

      sent : (fine : Fine n paths) (i : ℕ) (w : Option Word) (σ : List StationState) → length σ ≡ n →
          Sent rules n o paths i w (state_at σ) (send ms q paths i w σ).news (state_at (send ms q paths i w σ).stations)
      sent fine i None σ long = nothing
      sent fine i (Some w) σ long = one_word (delivered paths fine (suc i) w.port w.value σ long)

      -- where a move lands
      abbrev pub landed : ℕ → ℕ → ℕ → StationState
      landed i s e = in_stance s (cond ((meaning_at ms i).stance s).busy e 0)

      pub land_news : (i s e : ℕ) (σ : List StationState) → (land i s e ((meaning_at ms i).stance s) σ).news ≡ landing rules n o paths i (landed i s e)
      land_news i s e σ = elim ((meaning_at ms i).stance s).busy as
          (λ b. (cond b (passed [] (set σ i (in_stance s e))) (passed (event Internal (suc i) 0 ((meaning_at ms i).stance s).phase ∷ []) (set σ i (in_stance s 0)))).news ≡
          cond b [] (event Internal (suc i) 0 ((meaning_at ms i).stance s).phase ∷ []))
          [ true ↦ refl | false ↦ refl ]

      pub land_states : (i s e : ℕ) (σ : List StationState) → (land i s e ((meaning_at ms i).stance s) σ).stations ≡ set σ i (landed i s e)
      land_states i s e σ = elim ((meaning_at ms i).stance s).busy as
          (λ b. (cond b (passed [] (set σ i (in_stance s e))) (passed (event Internal (suc i) 0 ((meaning_at ms i).stance s).phase ∷ []) (set σ i (in_stance s 0)))).stations ≡
          set σ i (in_stance s (cond b e 0)))
          [ true ↦ refl | false ↦ refl ]

      pub record Acted (i : ℕ) (m : Option Move) (s : NetState) (fs : List Event) : Type 0 where
        pub end : ℕ → StationState
        pub does : Does rules n o paths (state_at s.stations) runs.step fs end
        pub shown : (k : ℕ) → k < n → end k ≡ state_at (act ms q paths i m s.stations).stations k

      does_act : (fine : Fine n paths) (s : NetState) → Whole ms s.stations → (i : ℕ) → Turn rules n o paths (state_at s.stations) i →
          (m : Option Move) → (stance_at ms s.stations i).move ≡ m → Acted i m s (act ms q paths i m s.stations).news
      does_act fine s w i turn None e = absurd (ready_moves s w i turn e)
      does_act fine s w i turn (Some m) e =
          let x = landed i m.follows (state_at s.stations i).elapsed in
          let mid = send ms q paths i m.word s.stations in
          let news = land_news i m.follows (state_at s.stations i).elapsed mid.stations in
          let states = land_states i m.follows (state_at s.stations i).elapsed mid.stations in
          let within : i < length mid.stations = (let a = (send_whole ms q steady paths fine i m.word s.stations w).long in let b = turn_within s i turn in omega arith) in
          let there : put (state_at mid.stations) i x ≡ state_at (act ms q paths i (Some m) s.stations).stations = put_set mid.stations i x within ∙ ap state_at (sym states) in
          record {
            end = put (state_at mid.stations) i x;
            does = subst (λ es. Does rules n o paths (state_at s.stations) runs.step (mid.news ++ es) (put (state_at mid.stations) i x)) (sym news)
                (stepped i m.word x turn (e, refl) (sent fine i m.word s.stations w.long));
            shown = λ k l. ap (λ f. f k) there;
          }

      does_step : (slots : ℕ) (s : NetState) (fs : List Event) → Whole ms s.stations → (answer_call net paths (step slots) s).answer ≡ Ok fs → Gone (step slots) s fs
      does_step slots s fs w h =
          let a = passed_by (bad_paths n paths) _ s _ fs h in
          let b = passed_by (at_zero (ltb slots (room paths))) _ s _ fs a.1 in
          let kept : (answer_call net paths (step slots) s).state ≡ (step_of net paths s (option_or (calls.lowest_busy net s) (calls.lowest_due net s))).state = simp (a.0, b.0) in
          go kept (paths_fine n 1 paths a.0) (option_or (calls.lowest_busy net s) (calls.lowest_due net s)) refl b.1
        where
          go : (answer_call net paths (step slots) s).state ≡ (step_of net paths s (option_or (calls.lowest_busy net s) (calls.lowest_due net s))).state →
              Fine n paths → (u : Option ℕ) → option_or (calls.lowest_busy net s) (calls.lowest_due net s) ≡ u → (step_of net paths s u).answer ≡ Ok fs → Gone (step slots) s fs
          go kept fine None e ans = absurd (err_not_ok _ fs ans)
          go kept fine (Some i) e ans =
              let r = does_act fine s w i (turn_of s i e) (stance_at ms s.stations i).move refl in
              record {
                end = r.end;
                does = subst (λ es. Does rules n o paths (state_at s.stations) runs.step es r.end) (ok_inj _ fs ans) r.does;
                shown = λ k l. r.shown k l ∙ sym (ap (λ z. state_at z.stations k) (kept ∙ ap (λ u. (step_of net paths s u).state) e));
              }

      pub does_call : (c : Call) (s : NetState) (fs : List Event) → Whole ms s.stations → (answer_call net paths c s).answer ≡ Ok fs → Gone c s fs
      does_call (wait d) s fs w h = does_wait d s fs w.long h
      does_call (word port v slots) s fs w h = does_word port v slots s fs w.long h
      does_call (step slots) s fs w h = does_step slots s fs w h

      -- a call is obeyed, or leaves the state as it was
      abbrev pub ToldOrKept : NetState → Outcome → Type 0
      ToldOrKept s r = ((fs : List Event) × (r.answer ≡ Ok fs)) ⊎ (r.state ≡ s)

      step_either : (s : NetState) (u : Option ℕ) → ToldOrKept s (step_of net paths s u)
      step_either s None = inr refl
      step_either s (Some i) = inl (_, refl)

      pub told_or_kept : (c : Call) (s : NetState) → ToldOrKept s (answer_call net paths c s)
      told_or_kept (wait d) s =
          either_way (ToldOrKept s) (number (calls.lowest_busy net s)) _ _ (λ k. inr refl) (λ _.
          either_way (ToldOrKept s) (number (calls.lowest_past net s d)) _ _ (λ k. inr refl) (λ _.
          either_way (ToldOrKept s) (at_zero (ltb 1000000000000000 (s.total + d))) _ _ (λ k. inr refl) (λ _. inl (_, refl))))
      told_or_kept (word port v slots) s =
          either_way (ToldOrKept s) (bad_paths n paths) _ _ (λ k. inr refl) (λ _.
          either_way (ToldOrKept s) (at_zero (ltb slots (room paths))) _ _ (λ k. inr refl) (λ _.
          either_way (ToldOrKept s) (number (calls.lowest_busy net s)) _ _ (λ k. inr refl) (λ _.
          either_way (ToldOrKept s) (number (due_before_words net o s)) _ _ (λ k. inr refl) (λ _. inl (_, refl)))))
      told_or_kept (step slots) s =
          either_way (ToldOrKept s) (bad_paths n paths) _ _ (λ k. inr refl) (λ _.
          either_way (ToldOrKept s) (at_zero (ltb slots (room paths))) _ _ (λ k. inr refl) (λ _. step_either s _))
