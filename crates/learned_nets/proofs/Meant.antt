-- Where every stance is known, what is learned of a net does what is meant by it.
use Rattle.std.proofs.Common.{◌≡◌, ℕ, zero, suc, ◌+◌, ◌^◌, ◌<◌, ◌≤◌, Bool, true, false, cond, not, ◌&&◌, ltb, ◌⊎◌, List, [], ◌∷◌, ◌++◌, length, set, Some, None, Ok, Option, sym, refl, ap, ◌∙◌, subst, ap₂, inl, inr, arith}
use lib.ListN.{length-map}
use mathlib.Core.Path.{fun_ext}
use Rattle.std.specs.Option.{option_or}
use Rattle.std.proofs.lemmas.List.{get_or_past}
use Rattle.std.proofs.lemmas.Bool.{cases_lt}
use Rattle.book.specs.declared.refusal.Fault.TheVariants.{Paths, Room, Busy, Due, Lifetime, Total}
use Rattle.semantics.specs.declared.state.Move.{Move}
use Rattle.semantics.specs.declared.state.StationState.{StationState}
use Rattle.semantics.specs.Times.{Order, StepFirst, WordFirst}
use Rattle.semantics.specs.Trees.{Word, Path}
use Rattle.semantics.specs.Events.{event, leaves, Arrival, External, Output}
use Rattle.semantics.specs.Machine.{Stance, StationMeaning, Meaning, meaning_at, blank_meaning, blank_stance, geared}
use Rattle.semantics.specs.Net.{Net, NetState, in_stance, state_at, stance_at, ends_now, runs_out, passed, and_then, heard, arrive, deliver, send, land, act}
use Rattle.semantics.specs.Calls.{Outcome, Call, wait, word, step, make, unless, lowest, number, at_zero, bad_paths, room, declined, answered, lowest_busy, lowest_due, lowest_past, due_before_words, waited, step_of, answer_call, answers, left_by, telling}
use Rattle.delivery.specs.Known.{only_known, learned, learned_net}
use Rattle.delivery.proofs.Learned.{learned_at}
use Rattle.calls.proofs.Steps.{turn_under}
use Rattle.stepping.proofs.Whole.{Steady, Whole, Fine, paths_fine, deliver_whole, call_whole}
use Rattle.stepping.proofs.Geared.{steady, start_whole}
use Rattle.stepping.proofs.AnyMachine.{reached_whole}
use Rattle.learned_nets.specs.Meant.{NetsAnswerAsMeant}

-- what goes on alike after a test, goes alike
same_after : (u : Option ℕ) (d : ℕ → Outcome) (r t : Outcome) → (u ≡ None → r ≡ t) → unless u d r ≡ unless u d t
same_after None d r t h = h refl
same_after (Some k) d r t h = refl

module _ (ms : Meaning) where
  many : length (learned ms) ≡ length ms
  many = length-map ms only_known

  -- a known stance is learned whole
  known_same : (i s : ℕ) → (meaning_at ms i).known s ≡ true → (meaning_at (learned ms) i).stance s ≡ (meaning_at ms i).stance s
  known_same i s k = ap (λ m. m.stance s) (learned_at ms i) ∙ ap (λ b. cond b ((meaning_at ms i).stance s) blank_stance) k

  -- and past the last station stands the blank, before and after
  at_same : (σ : List StationState) → Whole ms σ → (i : ℕ) → stance_at (learned ms) σ i ≡ stance_at ms σ i
  at_same σ w i = go (cases_lt i (length ms))
    where
      go : (i < length ms) ⊎ (length ms ≤ i) → stance_at (learned ms) σ i ≡ stance_at ms σ i
      go (inl l) = known_same i (state_at σ i).stance (w.known i l)
      go (inr l) =
          let e : meaning_at ms i ≡ blank_meaning = get_or_past ms i blank_meaning l in
          ap (λ m. m.stance (state_at σ i).stance) (learned_at ms i)
          ∙ ap (λ m. (only_known m).stance (state_at σ i).stance) e
          ∙ ap (λ (m : StationMeaning). m.stance (state_at σ i).stance) (sym e)

  stances_same : (σ : List StationState) → Whole ms σ → stance_at (learned ms) σ ≡ stance_at ms σ
  stances_same σ w = fun_ext (at_same σ w)

  module _ (q : ℕ) (steady : Steady ms) where
    heard_same : (σ : List StationState) (h port v : ℕ) → h < length ms → Whole ms σ → (u : Option ℕ) → (stance_at ms σ h).hears port v (state_at σ h).elapsed q ≡ u →
        heard (learned ms) σ h port v u ≡ heard ms σ h port v u
    heard_same σ h port v l w None e = refl
    heard_same σ h port v l w (Some s) e =
        ap (λ (x : Stance). passed (event Arrival (suc h) port v ∷ event External (suc h) 0 x.phase ∷ []) (set σ h (in_stance s 0)))
        (known_same h s ((steady h l _ (w.known h l)).hearing_known _ _ _ _ s e))

    arrive_same : (σ : List StationState) (h port v : ℕ) → h ≤ length ms → Whole ms σ → arrive (learned ms) q σ h port v ≡ arrive ms q σ h port v
    arrive_same σ zero port v l w = refl
    arrive_same σ (suc h) port v l w =
        ap (λ (x : Stance). heard (learned ms) σ h port v (x.hears port v (state_at σ h).elapsed q)) (at_same σ w h)
        ∙ heard_same σ h port v (omega arith) w _ refl

    deliver_same : (ps : List Path) → Fine (length ms) ps → (from port v : ℕ) (σ : List StationState) → Whole ms σ →
        deliver (learned ms) q ps from port v σ ≡ deliver ms q ps from port v σ
    deliver_same [] fine from port v σ w = refl
    deliver_same (p ∷ ps) fine from port v σ w = go (leaves p from port) refl (deliver_same ps fine.1 from port v)
      where
        go : (b : Bool) → leaves p from port ≡ b → ((τ : List StationState) → Whole ms τ → deliver (learned ms) q ps from port v τ ≡ deliver ms q ps from port v τ) →
            cond b (and_then (arrive (learned ms) q σ p.hearer p.hearer_port v) (deliver (learned ms) q ps from port v)) (deliver (learned ms) q ps from port v σ)
            ≡ cond b (and_then (arrive ms q σ p.hearer p.hearer_port v) (deliver ms q ps from port v)) (deliver ms q ps from port v σ)
        go true e rest =
            let r = arrive ms q σ p.hearer p.hearer_port v in
            let whole : Whole ms r.stations =
            subst (λ b. Whole ms (cond b (and_then (arrive ms q σ p.hearer p.hearer_port v) (deliver ms q [] from port v)) (deliver ms q [] from port v σ)).stations) e
            (deliver_whole ms q steady (p ∷ []) (fine.0, tt) from port v σ w)
            in
            ap (λ r. and_then r (deliver (learned ms) q ps from port v)) (arrive_same σ p.hearer p.hearer_port v fine.0 w)
            ∙ ap (λ x. passed (r.news ++ x.news) x.stations) (rest r.stations whole)
        go false e rest = rest σ w

    send_same : (ps : List Path) → Fine (length ms) ps → (i : ℕ) (x : Option Word) (σ : List StationState) → Whole ms σ → send (learned ms) q ps i x σ ≡ send ms q ps i x σ
    send_same ps fine i None σ w = refl
    send_same ps fine i (Some x) σ w =
        ap (λ r. passed ((event Output (suc i) x.port x.value ∷ []) ++ r.news) r.stations) (deliver_same ps fine (suc i) x.port x.value σ w)

    act_same : (ps : List Path) → Fine (length ms) ps → (i : ℕ) → i < length ms → (σ : List StationState) → Whole ms σ → (m : Option Move) → (stance_at ms σ i).move ≡ m →
        act (learned ms) q ps i m σ ≡ act ms q ps i m σ
    act_same ps fine i l σ w None e = refl
    act_same ps fine i l σ w (Some m) e =
        ap₂ (λ r (x : Stance). and_then r (land i m.follows (state_at σ i).elapsed x)) (send_same ps fine i m.word σ w)
        (known_same i m.follows ((steady i l _ (w.known i l)).move_known m e))

    module _ (o : Order) where
      abbrev net : Net
      net = record { stations = ms; order = o; parts = q }

      module _ (s : NetState) (w : Whole ms s.stations) where
        busy_same : lowest_busy (learned_net net) s ≡ lowest_busy net s
        busy_same = ap₂ (λ (f : ℕ → Stance) n. lowest (λ i. (f i).busy) 0 n) (stances_same s.stations w) many

        due_same : lowest_due (learned_net net) s ≡ lowest_due net s
        due_same =
            ap₂ (λ (f : ℕ → Stance) n. lowest (λ i. not (f i).busy && ends_now (f i).lifetime q (state_at s.stations i).elapsed) 0 n)
            (stances_same s.stations w) many

        past_same : (d : ℕ) → lowest_past (learned_net net) s d ≡ lowest_past net s d
        past_same d = ap₂ (λ (f : ℕ → Stance) n. lowest (λ i. runs_out (f i).lifetime q ((state_at s.stations i).elapsed + d)) 0 n) (stances_same s.stations w) many

        before_same : (o : Order) → due_before_words (learned_net net) o s ≡ due_before_words net o s
        before_same StepFirst = due_same
        before_same WordFirst = refl

        step_same : (ps : List Path) → Fine (length ms) ps → (u : Option ℕ) → u ≡ option_or (lowest_busy net s) (lowest_due net s) → step_of (learned_net net) ps s u ≡ step_of net ps s u
        step_same ps fine None e = refl
        step_same ps fine (Some i) e =
            ap (λ (x : Stance). answered s (act (learned ms) q ps i x.move s.stations)) (at_same s.stations w i)
            ∙ ap (answered s) (act_same ps fine i (turn_under ms q s.stations (length ms) i e) s.stations w _ refl)

        -- what follows the check of the paths
        abbrev word_after : Net → List Path → ℕ → ℕ → ℕ → Outcome
        word_after x ps port value slots =
            unless (at_zero (ltb slots (room ps))) (declined Room s)
            (unless (number (lowest_busy x s)) (declined Busy s)
            (unless (number (due_before_words x x.order s)) (declined Due s)
            (answered s (deliver x.stations x.parts ps 0 port value s.stations))))

        abbrev step_after : Net → List Path → ℕ → Outcome
        step_after x ps slots = unless (at_zero (ltb slots (room ps))) (declined Room s) (step_of x ps s (option_or (lowest_busy x s) (lowest_due x s)))

        call_same : (ps : List Path) (c : Call) → answer_call (learned_net net) ps c s ≡ answer_call net ps c s
        call_same ps (wait d) =
            ap₂
            (λ b p. unless (number b) (declined Busy s) (unless (number p) (declined Lifetime s)
            (unless (at_zero (ltb (10 ^ 15) (s.total + d))) (declined Total s) (record { answer = Ok []; state = waited net d s }))))
            busy_same (past_same d)
        call_same ps (word port value slots) =
            ap (λ n. unless (bad_paths n ps) (declined Paths s) (word_after (learned_net net) ps port value slots)) many
            ∙ same_after (bad_paths (length ms) ps) (declined Paths s) (word_after (learned_net net) ps port value slots) (word_after net ps port value slots) (λ fine.
            ap₂
            (λ b u. unless (at_zero (ltb slots (room ps))) (declined Room s) (unless (number b) (declined Busy s) (unless (number u) (declined Due s)
            (answered s (deliver (learned ms) q ps 0 port value s.stations)))))
            busy_same (before_same o)
            ∙ ap
            (λ r. unless (at_zero (ltb slots (room ps))) (declined Room s) (unless (number (lowest_busy net s)) (declined Busy s)
            (unless (number (due_before_words net o s)) (declined Due s) (answered s r))))
            (deliver_same ps (paths_fine (length ms) 1 ps fine) 0 port value s.stations w))
        call_same ps (step slots) =
            ap (λ n. unless (bad_paths n ps) (declined Paths s) (step_after (learned_net net) ps slots)) many
            ∙ same_after (bad_paths (length ms) ps) (declined Paths s) (step_after (learned_net net) ps slots) (step_after net ps slots) (λ fine.
            ap (λ r. unless (at_zero (ltb slots (room ps))) (declined Room s) r)
            (ap₂ (λ b u. step_of (learned_net net) ps s (option_or b u)) busy_same due_same
            ∙ step_same ps (paths_fine (length ms) 1 ps fine) _ refl))

        telling_same : (k : ℕ) → telling (learned_net net) s k ≡ telling net s k
        telling_same zero = refl
        telling_same (suc i) =
            ap₂ (λ n (x : Stance). cond (ltb i n) (x.phase, x.sent, (state_at s.stations i).elapsed) (0, 0, 0)) many (at_same s.stations w i)

      answers_same : (ps : List Path) (cs : List Call) (s : NetState) → Whole ms s.stations → answers (learned_net net) ps cs s ≡ answers net ps cs s
      answers_same ps [] s w = refl
      answers_same ps (c ∷ cs) s w =
          ap (λ r. r.answer ∷ answers (learned_net net) ps cs r.state) (call_same s w ps c)
          ∙ ap (λ rest. (answer_call net ps c s).answer ∷ rest) (answers_same ps cs (answer_call net ps c s).state (call_whole ms q steady o ps c s w))

      left_same : (ps : List Path) (cs : List Call) (s : NetState) → Whole ms s.stations → left_by (learned_net net) ps cs s ≡ left_by net ps cs s
      left_same ps [] s w = refl
      left_same ps (c ∷ cs) s w =
          ap (λ r. left_by (learned_net net) ps cs r.state) (call_same s w ps c)
          ∙ left_same ps cs (answer_call net ps c s).state (call_whole ms q steady o ps c s w)

      left_whole : (ps : List Path) (cs : List Call) (s : NetState) → Whole ms s.stations → Whole ms (left_by net ps cs s).stations
      left_whole ps [] s w = w
      left_whole ps (c ∷ cs) s w = left_whole ps cs (answer_call net ps c s).state (call_whole ms q steady o ps c s w)

pub nets_answer_as_meant : NetsAnswerAsMeant
nets_answer_as_meant ms sound ps o q slots =
    let net : Net = (make ms ps o q slots).net in
    let first : NetState = (make ms ps o q slots).state in
    let goes = steady ms sound in
    let whole : Whole (geared ms) first.stations = start_whole ms sound ps o q in
    record {
      one_call = λ s r paths c. call_same (geared ms) q goes o s (reached_whole ms sound ps o q r) paths c;
      one_telling = λ s r k. telling_same (geared ms) q goes o s (reached_whole ms sound ps o q r) k;
      all_answers = λ paths cs. answers_same (geared ms) q goes o paths cs first whole;
      all_left = λ paths cs. left_same (geared ms) q goes o paths cs first whole;
      all_tellings = λ paths cs k.
          ap (λ s. telling (learned_net net) s k) (left_same (geared ms) q goes o paths cs first whole)
          ∙ telling_same (geared ms) q goes o (left_by net paths cs first) (left_whole (geared ms) q goes o paths cs first whole) k;
    }
