-- Nets over twin machines answer alike, whatever they are asked.
use Rattle.std.proofs.Common.{◌≡◌, ℕ, zero, suc, ◌+◌, ◌*◌, ◌/◌, ◌^◌, ◌<◌, ◌≤◌, Bool, true, false, cond, not, ◌&&◌, ◌||◌, eqb, ltb, ◌⊎◌, List, [], ◌∷◌, ◌++◌, map, length, get_or, set, Some, None, Ok, Err, Option, sym, refl, ap, ◌∙◌, subst, ap₂, subst₂, inl, inr, arith, length-set}
use native.Mathlib.Nat.{suc_inj, one-le-mul}
use lib.ListN.{length-map, get_or-map}
use mathlib.Core.Path.{fun_ext}
use Rattle.std.specs.Option.{option_map, option_or}
use Rattle.std.proofs.lemmas.Bool.{cases_lt}
use Rattle.book.specs.Refusals.{refused}
use Rattle.book.specs.declared.refusal.Fault.TheVariants.{Paths, Room, Parts, Busy, Due, Lifetime, Total}
use Rattle.book.specs.declared.refusal.Fault.{Fault}
use Rattle.semantics.specs.Times.{Order, StepFirst, WordFirst}
use Rattle.semantics.specs.Trees.{Word, Path}
use Rattle.semantics.specs.Scales.{lcm_all}
use Rattle.semantics.specs.declared.state.Move.{Move}
use Rattle.semantics.specs.declared.state.StationState.{StationState}
use Rattle.semantics.specs.Machine.{Stance, Meaning, blank_meaning, meaning_at, gear_stance, gear, net_scale, factor, geared}
use Rattle.semantics.specs.Events.{event, leaves, Arrival, External, Output, Internal, Created}
use Rattle.semantics.specs.Net.{Net, NetState, in_stance, state_at, stance_at, busy_at, ends_now, due_at, runs_out, past_at, Passed, passed, and_then, heard, arrive, deliver, send, land, act}
use Rattle.semantics.specs.Calls.{Answer, unless, at_zero, first_bad, bad_paths, misfit, created, make, Call, wait, word, step, Outcome, declined, answered, lowest, number, room, lowest_busy, lowest_due, lowest_past, due_before_words, step_of, answer_call, answers, left_by, telling}

-- both are there and R relates them, or neither is there
abbrev pub Both : {A B : Type 0} → (A → B → Type 0) → Option A → Option B → Type 0
Both R None None = Unit {0}
Both R None (Some b) = ⊥
Both R (Some a) None = ⊥
Both R (Some a) (Some b) = R a b

abbrev pub SameMove : (ℕ → ℕ → Type 0) → Move → Move → Type 0
SameMove R m k = (m.word ≡ k.word) × R m.follows k.follows

pub record Alike (R : ℕ → ℕ → Type 0) (x y : Stance) : Type 0 where
  pub phase : x.phase ≡ y.phase
  pub sent : x.sent ≡ y.sent
  pub busy : x.busy ≡ y.busy
  pub lifetime : x.lifetime ≡ y.lifetime
  pub move : Both (SameMove R) x.move y.move
  pub hears : (p v e q : ℕ) → 1 ≤ q → Both R (x.hears p v e q) (y.hears p v e q)

-- R i s t: of the station at place i the stance s on the one side stands for the stance t on the other.
pub record Twin (R : ℕ → ℕ → ℕ → Type 0) (ms ns : Meaning) : Type 0 where
  pub as_many : length ms ≡ length ns
  pub openings : (i : ℕ) → R i (meaning_at ms i).opening (meaning_at ns i).opening
  pub alike : (i s t : ℕ) → R i s t → Alike (R i) ((meaning_at ms i).stance s) ((meaning_at ns i).stance t)

-- lists related place by place
set_related : {A : Type 0} (P : ℕ → A → A → Type 0) (d : A) (xs ys : List A) → length xs ≡ length ys →
    ((i : ℕ) → P i (get_or xs i d) (get_or ys i d)) → (h : ℕ) (x y : A) → P h x y →
    (i : ℕ) → P i (get_or (set xs h x) i d) (get_or (set ys h y) i d)
set_related P d [] [] e r h x y new i = r i
set_related P d [] (b ∷ ys) e r h x y new i = absurd (let z : ◌≡◌ {A = ℕ} 0 (suc (length ys)) = e in omega arith)
set_related P d (a ∷ xs) [] e r h x y new i = absurd (let z : ◌≡◌ {A = ℕ} (suc (length xs)) 0 = e in omega arith)
set_related P d (a ∷ xs) (b ∷ ys) e r zero x y new zero = new
set_related P d (a ∷ xs) (b ∷ ys) e r zero x y new (suc i) = r (suc i)
set_related P d (a ∷ xs) (b ∷ ys) e r (suc h) x y new zero = r zero
set_related P d (a ∷ xs) (b ∷ ys) e r (suc h) x y new (suc i) =
    set_related (λ k. P (suc k)) d xs ys (suc_inj e) (λ k. r (suc k)) h x y new i

map_related : {A : Type 0} (P : ℕ → A → A → Type 0) (d : A) (f g : A → A) → ((i : ℕ) (x y : A) → P i x y → P i (f x) (g y)) →
    (xs ys : List A) → length xs ≡ length ys → ((i : ℕ) → P i (get_or xs i d) (get_or ys i d)) →
    (i : ℕ) → P i (get_or (map f xs) i d) (get_or (map g ys) i d)
map_related P d f g keep [] [] e r i = r i
map_related P d f g keep [] (b ∷ ys) e r i = absurd (let z : ◌≡◌ {A = ℕ} 0 (suc (length ys)) = e in omega arith)
map_related P d f g keep (a ∷ xs) [] e r i = absurd (let z : ◌≡◌ {A = ℕ} (suc (length xs)) 0 = e in omega arith)
map_related P d f g keep (a ∷ xs) (b ∷ ys) e r zero = keep zero a b (r zero)
map_related P d f g keep (a ∷ xs) (b ∷ ys) e r (suc i) =
    map_related (λ k. P (suc k)) d f g (λ k. keep (suc k)) xs ys (suc_inj e) (λ k. r (suc k)) i

due_cong : (q : ℕ) (b c : Bool) (l k : Option ℕ) (e d : ℕ) → b ≡ c → l ≡ k → e ≡ d → (not b && ends_now l q e) ≡ (not c && ends_now k q d)
due_cong q b c l k e d p r s = cc

past_cong : (q w : ℕ) (l k : Option ℕ) (e d : ℕ) → l ≡ k → e ≡ d → runs_out l q (e + w) ≡ runs_out k q (d + w)
past_cong q w l k e d r s = cc

-- States of two nets that stand alike.
module _ (R : ℕ → ℕ → ℕ → Type 0) where
  abbrev Paired : ℕ → StationState → StationState → Type 0
  Paired i x y = R i x.stance y.stance × (x.elapsed ≡ y.elapsed)

  pub record Related (σ τ : List StationState) : Type 0 where
    pub as_long : length σ ≡ length τ
    pub paired : (i : ℕ) → Paired i (state_at σ i) (state_at τ i)

  pub record Even (s t : NetState) : Type 0 where
    pub related : Related s.stations t.stations
    pub same_total : s.total ≡ t.total

  pub record Agree (x y : Outcome) : Type 0 where
    pub same_answer : x.answer ≡ y.answer
    pub even : Even x.state y.state

  record Agreed (x y : Passed) : Type 0 where
    same_news : x.news ≡ y.news
    related : Related x.stations y.stations

  set_state : (σ τ : List StationState) → Related σ τ → (h s t e d : ℕ) → R h s t → e ≡ d → Related (set σ h (in_stance s e)) (set τ h (in_stance t d))
  set_state σ τ r h s t e d k same = record {
    as_long = length-set σ h _ ∙ r.as_long ∙ sym (length-set τ h _);
    paired = set_related Paired (in_stance 0 0) σ τ r.as_long r.paired h _ _ (k, same);
  }

  then_agreed : (x y : Passed) → Agreed x y → (f g : List StationState → Passed) → ((σ τ : List StationState) → Related σ τ → Agreed (f σ) (g τ)) →
      Agreed (and_then x f) (and_then y g)
  then_agreed x y a f g h =
      let b = h x.stations y.stations a.related in
      record { same_news = ap₂ ◌++◌ a.same_news b.same_news; related = b.related }

  -- a refusal, or what comes after it
  unless_agree : (u v : Option ℕ) → u ≡ v → (f : Fault) (s t : NetState) → Even s t → (x y : Outcome) → Agree x y → Agree (unless u (declined f s) x) (unless v (declined f t) y)
  unless_agree u v e f s t even x y a = subst (λ w. Agree (unless u (declined f s) x) (unless w (declined f t) y)) e (go u)
    where
      go : (w : Option ℕ) → Agree (unless w (declined f s) x) (unless w (declined f t) y)
      go None = a
      go (Some p) = record { same_answer = refl; even = even }

  -- making leaves the stations in their openings
  pub even_openings : (ms ns : Meaning) → length ms ≡ length ns → ((i : ℕ) → R i (meaning_at ms i).opening (meaning_at ns i).opening) →
      Even (record { stations = map (λ m. in_stance m.opening 0) ms; total = 0 }) (record { stations = map (λ m. in_stance m.opening 0) ns; total = 0 })
  even_openings ms ns many openings = record {
    related = record {
      as_long = length-map ms _ ∙ many ∙ sym (length-map ns _);
      paired = λ i. subst₂ (λ x y. Paired i x y) (sym (opening_at ms i)) (sym (opening_at ns i)) (openings i, refl);
    };
    same_total = refl;
  }
    where
      opening_at : (xs : Meaning) (i : ℕ) → state_at (map (λ m. in_stance m.opening 0) xs) i ≡ in_stance (meaning_at xs i).opening 0
      opening_at xs i = get_or-map (λ m. in_stance m.opening 0) xs i blank_meaning

-- Two nets over twin meanings, with the same order and parts.
module _ (R : ℕ → ℕ → ℕ → Type 0) (ms ns : Meaning) (twin : Twin R ms ns) (o : Order) (q : ℕ) where
  abbrev one : Net
  one = record { stations = ms; order = o; parts = q }

  abbrev other : Net
  other = record { stations = ns; order = o; parts = q }

  alike_at : (σ τ : List StationState) → Related R σ τ → (i : ℕ) → Alike (R i) (stance_at ms σ i) (stance_at ns τ i)
  alike_at σ τ r i = twin.alike i (state_at σ i).stance (state_at τ i).stance (r.paired i).0

  busy_same : (σ τ : List StationState) → Related R σ τ → busy_at ms σ ≡ busy_at ns τ
  busy_same σ τ r = fun_ext (λ i. (alike_at σ τ r i).busy)

  due_same : (σ τ : List StationState) → Related R σ τ → due_at ms q σ ≡ due_at ns q τ
  due_same σ τ r = fun_ext (λ i. due_cong q _ _ _ _ _ _ (alike_at σ τ r i).busy (alike_at σ τ r i).lifetime (r.paired i).1)

  past_same : (d : ℕ) (σ τ : List StationState) → Related R σ τ → past_at ms q σ d ≡ past_at ns q τ d
  past_same d σ τ r = fun_ext (λ i. past_cong q d _ _ _ _ (alike_at σ τ r i).lifetime (r.paired i).1)

  heard_agreed : (σ τ : List StationState) → Related R σ τ → (h p v : ℕ) (x y : Option ℕ) → Both (R h) x y → Agreed R (heard ms σ h p v x) (heard ns τ h p v y)
  heard_agreed σ τ r h p v None None b = record { same_news = refl; related = r }
  heard_agreed σ τ r h p v None (Some t) b = absurd b
  heard_agreed σ τ r h p v (Some s) None b = absurd b
  heard_agreed σ τ r h p v (Some s) (Some t) b = record {
    same_news = ap (λ k. event Arrival (suc h) p v ∷ event External (suc h) 0 k ∷ []) (twin.alike h s t b).phase;
    related = set_state R σ τ r h s t 0 0 b refl;
  }

  lowest_same : (p r : ℕ → Bool) → p ≡ r → lowest p 0 (length ms) ≡ lowest r 0 (length ns)
  lowest_same p r e = ap₂ (λ f n. lowest f 0 n) e twin.as_many

  busy_first : (s t : NetState) → Even R s t → lowest_busy one s ≡ lowest_busy other t
  busy_first s t e = lowest_same _ _ (busy_same s.stations t.stations e.related)

  due_first : (s t : NetState) → Even R s t → lowest_due one s ≡ lowest_due other t
  due_first s t e = lowest_same _ _ (due_same s.stations t.stations e.related)

  past_first : (d : ℕ) (s t : NetState) → Even R s t → lowest_past one s d ≡ lowest_past other t d
  past_first d s t e = lowest_same _ _ (past_same d s.stations t.stations e.related)

  due_order : (r : Order) (s t : NetState) → Even R s t → due_before_words one r s ≡ due_before_words other r t
  due_order StepFirst s t e = due_first s t e
  due_order WordFirst s t e = refl

  pub same_telling : (s t : NetState) → Even R s t → (k : ℕ) → telling one s k ≡ telling other t k
  same_telling s t e zero = refl
  same_telling s t e (suc i) =
      let a = alike_at s.stations t.stations e.related i in
      ap₂ (λ n (x : ℕ × ℕ × ℕ). cond (ltb i n) x (0, 0, 0)) twin.as_many (λ k. (a.phase k, a.sent k, (e.related.paired i).1 k))

  module _ (some : 1 ≤ q) where
    arrive_agreed : (σ τ : List StationState) → Related R σ τ → (h p v : ℕ) → Agreed R (arrive ms q σ h p v) (arrive ns q τ h p v)
    arrive_agreed σ τ r zero p v = record { same_news = refl; related = r }
    arrive_agreed σ τ r (suc h) p v =
        heard_agreed σ τ r h p v _ _
        (subst (λ k. Both (R h) ((stance_at ms σ h).hears p v (state_at σ h).elapsed q) ((stance_at ns τ h).hears p v k q)) (r.paired h).1
        ((alike_at σ τ r h).hears p v (state_at σ h).elapsed q some))

    deliver_agreed : (ps : List Path) (from port v : ℕ) (σ τ : List StationState) → Related R σ τ → Agreed R (deliver ms q ps from port v σ) (deliver ns q ps from port v τ)
    deliver_agreed [] from port v σ τ r = record { same_news = refl; related = r }
    deliver_agreed (p ∷ ps) from port v σ τ r =
        let rest = deliver_agreed ps from port v in
        elim (leaves p from port) as
        (λ b. Agreed R (cond b (and_then (arrive ms q σ p.hearer p.hearer_port v) (deliver ms q ps from port v)) (deliver ms q ps from port v σ))
        (cond b (and_then (arrive ns q τ p.hearer p.hearer_port v) (deliver ns q ps from port v)) (deliver ns q ps from port v τ)))
        [ true ↦ then_agreed R _ _ (arrive_agreed σ τ r p.hearer p.hearer_port v) _ _ rest | false ↦ rest σ τ r ]

    send_agreed : (ps : List Path) (i : ℕ) (w : Option Word) (σ τ : List StationState) → Related R σ τ → Agreed R (send ms q ps i w σ) (send ns q ps i w τ)
    send_agreed ps i None σ τ r = record { same_news = refl; related = r }
    send_agreed ps i (Some w) σ τ r =
        then_agreed R (passed (event Output (suc i) w.port w.value ∷ []) σ) (passed (event Output (suc i) w.port w.value ∷ []) τ)
        (record { same_news = refl; related = r }) _ _ (deliver_agreed ps (suc i) w.port w.value)

    land_agreed : (i s t e d : ℕ) → R i s t → e ≡ d → (σ τ : List StationState) → Related R σ τ →
        Agreed R (land i s e ((meaning_at ms i).stance s) σ) (land i t d ((meaning_at ns i).stance t) τ)
    land_agreed i s t e d k same σ τ r =
        let a = twin.alike i s t k in
        subst (λ b. Agreed R (land i s e ((meaning_at ms i).stance s) σ)
        (cond b (passed [] (set τ i (in_stance t d))) (passed (event Internal (suc i) 0 ((meaning_at ns i).stance t).phase ∷ []) (set τ i (in_stance t 0)))))
        a.busy
        (elim ((meaning_at ms i).stance s).busy as
        (λ b. Agreed R (cond b (passed [] (set σ i (in_stance s e))) (passed (event Internal (suc i) 0 ((meaning_at ms i).stance s).phase ∷ []) (set σ i (in_stance s 0))))
        (cond b (passed [] (set τ i (in_stance t d))) (passed (event Internal (suc i) 0 ((meaning_at ns i).stance t).phase ∷ []) (set τ i (in_stance t 0))))) [
          | true ↦ record { same_news = refl; related = set_state R σ τ r i s t e d k same }
          | false ↦ record { same_news = ap (λ n. event Internal (suc i) 0 n ∷ []) a.phase; related = set_state R σ τ r i s t 0 0 k refl }
        ])

    act_agreed : (ps : List Path) (i : ℕ) (m k : Option Move) → Both (SameMove (R i)) m k → (σ τ : List StationState) → Related R σ τ →
        Agreed R (act ms q ps i m σ) (act ns q ps i k τ)
    act_agreed ps i None None b σ τ r = record { same_news = refl; related = r }
    act_agreed ps i None (Some k) b σ τ r = absurd b
    act_agreed ps i (Some m) None b σ τ r = absurd b
    act_agreed ps i (Some m) (Some k) b σ τ r =
        then_agreed R _ _
        (subst (λ w. Agreed R (send ms q ps i m.word σ) (send ns q ps i w τ)) b.0 (send_agreed ps i m.word σ τ r))
        _ _
        (land_agreed i m.follows k.follows _ _ b.1 (r.paired i).1)

    answered_agree : (s t : NetState) → Even R s t → (x y : Passed) → Agreed R x y → Agree R (answered s x) (answered t y)
    answered_agree s t e x y a = record { same_answer = ap Ok a.same_news; even = record { related = a.related; same_total = e.same_total } }

    step_agree : (ps : List Path) (s t : NetState) → Even R s t → (w : Option ℕ) → Agree R (step_of one ps s w) (step_of other ps t w)
    step_agree ps s t e None = record { same_answer = refl; even = e }
    step_agree ps s t e (Some i) =
        answered_agree s t e _ _ (act_agreed ps i _ _ (alike_at s.stations t.stations e.related i).move s.stations t.stations e.related)

    waited_related : (d : ℕ) (σ τ : List StationState) → Related R σ τ →
        Related R (map (λ x. in_stance x.stance (x.elapsed + d)) σ) (map (λ x. in_stance x.stance (x.elapsed + d)) τ)
    waited_related d σ τ r = record {
      as_long = length-map σ _ ∙ r.as_long ∙ sym (length-map τ _);
      paired = map_related (Paired R) (in_stance 0 0) _ _ (λ i x y k. (k.0, ap (λ n. n + d) k.1)) σ τ r.as_long r.paired;
    }

    answer_agree : (ps : List Path) (c : Call) (s t : NetState) → Even R s t → Agree R (answer_call one ps c s) (answer_call other ps c t)
    answer_agree ps (wait d) s t e =
        unless_agree R _ _ (ap number (busy_first s t e)) Busy s t e _ _
        (unless_agree R _ _ (ap number (past_first d s t e)) Lifetime s t e _ _
        (unless_agree R _ _ (ap (λ n. at_zero (ltb (10 ^ 15) (n + d))) e.same_total) Total s t e _ _
        (record {
          same_answer = refl;
          even = record { related = waited_related d s.stations t.stations e.related; same_total = ap (λ n. n + d) e.same_total };
        })))
    answer_agree ps (word port v slots) s t e =
        unless_agree R _ _ (ap (λ n. bad_paths n ps) twin.as_many) Paths s t e _ _
        (unless_agree R (at_zero (ltb slots (room ps))) _ refl Room s t e _ _
        (unless_agree R _ _ (ap number (busy_first s t e)) Busy s t e _ _
        (unless_agree R _ _ (ap number (due_order o s t e)) Due s t e _ _
        (answered_agree s t e _ _ (deliver_agreed ps 0 port v s.stations t.stations e.related)))))
    answer_agree ps (step slots) s t e =
        unless_agree R _ _ (ap (λ n. bad_paths n ps) twin.as_many) Paths s t e _ _
        (unless_agree R (at_zero (ltb slots (room ps))) _ refl Room s t e _ _
        (subst (λ w. Agree R (step_of one ps s (option_or (lowest_busy one s) (lowest_due one s))) (step_of other ps t w))
        (ap₂ option_or (busy_first s t e) (due_first s t e))
        (step_agree ps s t e (option_or (lowest_busy one s) (lowest_due one s)))))

    pub answers_agree : (ps : List Path) (cs : List Call) (s t : NetState) → Even R s t →
        (answers one ps cs s ≡ answers other ps cs t) × Even R (left_by one ps cs s) (left_by other ps cs t)
    answers_agree ps [] s t e = (refl, e)
    answers_agree ps (c ∷ cs) s t e =
        let a = answer_agree ps c s t e in
        let r = answers_agree ps cs (answer_call one ps c s).state (answer_call other ps c t).state a.even in
        (ap₂ ◌∷◌ a.same_answer r.0, r.1)

-- Makings over twins with the same scales.
module _ (R : ℕ → ℕ → ℕ → Type 0) (ms ns : Meaning) (twin : Twin R ms ns) (scales : map (λ m. m.scale) ms ≡ map (λ m. m.scale) ns) where
  pub same_net_scale : net_scale ms ≡ net_scale ns
  same_net_scale = ap (lcm_all 1) scales

  bad_scale : ℕ → ℕ → Bool
  bad_scale L s = eqb (L / s) 0 || ltb 1000000 (s * (L / s))

  misfit_mapped : (L k : ℕ) (xs : Meaning) → first_bad (misfit L) k xs ≡ first_bad (bad_scale L) k (map (λ m. m.scale) xs)
  unfolding bad_scale
  misfit_mapped L k [] = refl
  misfit_mapped L k (x ∷ xs) = ap (λ r. cond (misfit L x) (Some k) r) (misfit_mapped L (suc k) xs)

  created_same : (k : ℕ) (xs ys : Meaning) → length xs ≡ length ys →
      ((i : ℕ) → ((meaning_at xs i).stance (meaning_at xs i).opening).phase ≡ ((meaning_at ys i).stance (meaning_at ys i).opening).phase) →
      created k xs ≡ created k ys
  created_same k [] [] e h = refl
  created_same k [] (y ∷ ys) e h = absurd (let z : ◌≡◌ {A = ℕ} 0 (suc (length ys)) = e in omega arith)
  created_same k (x ∷ xs) [] e h = absurd (let z : ◌≡◌ {A = ℕ} (suc (length xs)) 0 = e in omega arith)
  created_same k (x ∷ xs) (y ∷ ys) e h =
      ap₂ (λ n es. event Created k 0 n ∷ es) (h zero) (created_same (suc k) xs ys (suc_inj e) (λ i. h (suc i)))

  unless_same : (u v : Option ℕ) → u ≡ v → (f : ℕ → Answer) (x y : Answer) → x ≡ y → unless u f x ≡ unless v f y
  unless_same u v e f x y a = ap₂ (λ w z. unless w f z) e a

  pub make_same : (ps : List Path) (o : Order) (q slots : ℕ) → (make ms ps o q slots).answer ≡ (make ns ps o q slots).answer
  make_same ps o q slots =
      unless_same _ _ (misfit_mapped (net_scale ms) 1 ms ∙ ap₂ (λ L ss. first_bad (bad_scale L) 1 ss) same_net_scale scales ∙ sym (misfit_mapped (net_scale ns) 1 ns)) _ _ _
      (unless_same _ _ (ap (λ n. bad_paths n ps) twin.as_many) _ _ _
      (unless_same _ _ (ap (λ n. at_zero (ltb slots n)) twin.as_many) _ _ _
      (unless_same (at_zero (eqb q 0 || ltb 1000 q)) _ refl (λ k. Err (refused Parts k)) _ _
      (ap Ok (created_same 1 ms ns twin.as_many (λ i. (twin.alike i _ _ (twin.openings i)).phase))))))

  scale_at : (i : ℕ) → (meaning_at ms i).scale ≡ (meaning_at ns i).scale
  scale_at i = sym (get_or-map (λ m. m.scale) ms i blank_meaning) ∙ ap (λ ss. get_or ss i 1) scales ∙ get_or-map (λ m. m.scale) ns i blank_meaning

gear_alike : (R : ℕ → ℕ → Type 0) (f : ℕ) → 1 ≤ f → (x y : Stance) → Alike R x y → Alike R (gear_stance f x) (gear_stance f y)
gear_alike R f some x y a = record {
  phase = a.phase;
  sent = a.sent;
  busy = a.busy;
  lifetime = ap (option_map (λ l. l * f)) a.lifetime;
  move = a.move;
  hears = λ p v e q h. a.hears p v e (q * f) (one-le-mul h some);
}

pub map_at : {A B : Type 0} (f : A → B) (d : A) (e : B) (xs : List A) (i : ℕ) → i < length xs → get_or (map f xs) i e ≡ f (get_or xs i d)
map_at f d e [] i l = absurd (omega arith)
map_at f d e (x ∷ xs) zero l = refl
map_at f d e (x ∷ xs) (suc i) l = map_at f d e xs i (omega arith)

pub map_past : {A B : Type 0} (f : A → B) (e : B) (xs : List A) (i : ℕ) → length xs ≤ i → get_or (map f xs) i e ≡ e
map_past f e [] i l = refl
map_past f e (x ∷ xs) zero l = absurd (omega arith)
map_past f e (x ∷ xs) (suc i) l = map_past f e xs i (omega arith)

-- a geared station of a net
pub geared_at : (ms : Meaning) (i : ℕ) → i < length ms → meaning_at (geared ms) i ≡ gear (factor (net_scale ms) (meaning_at ms i)) (meaning_at ms i)
geared_at ms i l = map_at _ blank_meaning blank_meaning ms i l

geared_past : (ms : Meaning) (i : ℕ) → length ms ≤ i → meaning_at (geared ms) i ≡ blank_meaning
geared_past ms i l = map_past _ blank_meaning ms i l

-- gearing keeps twins
module _ (R : ℕ → ℕ → ℕ → Type 0) (ms ns : Meaning) (twin : Twin R ms ns) (scales : map (λ m. m.scale) ms ≡ map (λ m. m.scale) ns)
    (some : (i : ℕ) → i < length ms → 1 ≤ factor (net_scale ms) (meaning_at ms i)) (beyond : (i s t : ℕ) → length ms ≤ i → R i s t) where
  other_at : (i : ℕ) → i < length ms → meaning_at (geared ns) i ≡ gear (factor (net_scale ms) (meaning_at ms i)) (meaning_at ns i)
  other_at i l =
      geared_at ns i (subst (λ n. i < n) twin.as_many l)
      ∙ ap₂ (λ (L : ℕ) (s : ℕ). gear (L / s) (meaning_at ns i)) (sym (same_net_scale R ms ns twin scales)) (sym (scale_at R ms ns twin scales i))

  other_past : (i : ℕ) → length ms ≤ i → meaning_at (geared ns) i ≡ blank_meaning
  other_past i l = geared_past ns i (subst (λ n. n ≤ i) twin.as_many l)

  openings_geared : (i : ℕ) → (i < length ms) ⊎ (length ms ≤ i) → R i (meaning_at (geared ms) i).opening (meaning_at (geared ns) i).opening
  openings_geared i (inl l) = subst₂ (λ x y. R i x.opening y.opening) (sym (geared_at ms i l)) (sym (other_at i l)) (twin.openings i)
  openings_geared i (inr l) = beyond i _ _ l

  alike_geared : (i s t : ℕ) → (i < length ms) ⊎ (length ms ≤ i) → R i s t → Alike (R i) ((meaning_at (geared ms) i).stance s) ((meaning_at (geared ns) i).stance t)
  alike_geared i s t (inl l) r =
      subst₂ (λ x y. Alike (R i) (x.stance s) (y.stance t)) (sym (geared_at ms i l)) (sym (other_at i l))
      (gear_alike (R i) (factor (net_scale ms) (meaning_at ms i)) (some i l) _ _ (twin.alike i s t r))
  alike_geared i s t (inr l) r =
      subst₂ (λ x y. Alike (R i) (x.stance s) (y.stance t)) (sym (geared_past ms i l)) (sym (other_past i l))
      (record { phase = refl; sent = refl; busy = refl; lifetime = refl; move = tt; hears = λ p v e q h. tt })

  pub geared_twin : Twin R (geared ms) (geared ns)
  geared_twin = record {
    as_many = length-map ms _ ∙ twin.as_many ∙ sym (length-map ns _);
    openings = λ i. openings_geared i (cases_lt i (length ms));
    alike = λ i s t r. alike_geared i s t (cases_lt i (length ms)) r;
  }
