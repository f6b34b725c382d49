-- Every state that a net comes to is whole: it has a state for each station, in a stance that is known.
use Rattle.std.proofs.Common.{◌≡◌, ℕ, zero, suc, ◌+◌, ◌<◌, ◌≤◌, Bool, true, false, cond, ◌||◌, eqb, ltb, ◌≢◌, List, [], ◌∷◌, map, length, set, Some, None, Option, sym, refl, ap, ◌∙◌, subst, arith, length-set, get_or-set_other, get_or-set_same}
use lib.ListN.{length-map}
use mathlib.Core.Path.{fun_ext}
use Rattle.std.specs.Option.{option_or}
use Rattle.std.proofs.lemmas.Bool.{eqb-true, eqb-false, or_parts, ltb-false}
use Rattle.semantics.specs.Times.{Order}
use Rattle.semantics.specs.Trees.{Word, Path}
use Rattle.semantics.specs.Events.{event, leaves, Internal}
use Rattle.semantics.specs.Machine.{Stance, StationMeaning, Meaning, meaning_at}
use Rattle.semantics.specs.declared.state.Move.{Move}
use Rattle.semantics.specs.Net.{Net, NetState, in_stance, state_at, stance_at, passed, heard, arrive, and_then, deliver, send, land, act}
use Rattle.semantics.specs.declared.state.StationState.{StationState}
use Rattle.semantics.specs.Calls.{Outcome, Call, wait, word, step, unless, at_zero, number, first_bad, bad_path, bad_paths, room, step_of, due_before_words, answer_call}
use Rattle.semantics.specs.Calls as calls
use Rattle.semantics.specs.Runs.{put}
use Rattle.semantics.proofs.Options.{some_not_none}
use Rattle.semantics.proofs.Lowest.{is_lowest}

-- what soundness gives of a stance: what follows it is known, and only a quiet endless one has no move
pub record SteadyStance (m : StationMeaning) (x : Stance) : Type 0 where
  pub move_known : (n : Move) → x.move ≡ Some n → m.known n.follows ≡ true
  pub hearing_known : (p v e q s : ℕ) → x.hears p v e q ≡ Some s → m.known s ≡ true
  pub rests : x.move ≡ None → (x.busy ≡ false) × (x.lifetime ≡ None)

abbrev pub Steady : Meaning → Type 0
Steady ms = (i : ℕ) → i < length ms → (s : ℕ) → (meaning_at ms i).known s ≡ true → SteadyStance (meaning_at ms i) ((meaning_at ms i).stance s)

pub put_set : (σ : List StationState) (h : ℕ) (x : StationState) → h < length σ → put (state_at σ) h x ≡ state_at (set σ h x)
put_set σ h x l = fun_ext (λ k. go k (eqb k h) refl)
  where
    go : (k : ℕ) (b : Bool) → eqb k h ≡ b → cond b x (state_at σ k) ≡ state_at (set σ h x) k
    go k true e = sym (ap (λ j. state_at (set σ h x) j) (eqb-true k h e) ∙ get_or-set_same σ h x (in_stance 0 0) l)
    go k false e = let ne : k ≢ h = eqb-false k h e in sym (get_or-set_other σ h k x (in_stance 0 0) ne)

-- every path leads to a station of the net, or outside
abbrev pub Fine : ℕ → List Path → Type 0
Fine n [] = Unit {0}
Fine n (p ∷ ps) = (p.hearer ≤ n) × Fine n ps

fine_path : (n : ℕ) (p : Path) → bad_path n p ≡ false → p.hearer ≤ n
fine_path n p e =
    let a = or_parts (ltb n p.sender || ltb n p.hearer) (eqb p.sender p.hearer) e in
    let b = or_parts (ltb n p.sender) (ltb n p.hearer) a.0 in
    ltb-false n p.hearer b.1

pub paths_fine : (n k : ℕ) (ps : List Path) → first_bad (bad_path n) k ps ≡ None → Fine n ps
paths_fine n k [] e = tt
paths_fine n k (p ∷ ps) e = go (bad_path n p) refl e (paths_fine n (suc k) ps)
  where
    go : (b : Bool) → bad_path n p ≡ b → cond b (Some k) (first_bad (bad_path n) (suc k) ps) ≡ None →
        (first_bad (bad_path n) (suc k) ps ≡ None → Fine n ps) → Fine n (p ∷ ps)
    go true q f rest = absurd (some_not_none k f)
    go false q f rest = (fine_path n p q, rest f)

-- what a refusal keeps and what goes on has, a call has
pub either_way : (P : Outcome → Type 0) (u : Option ℕ) (d : ℕ → Outcome) (r : Outcome) → ((k : ℕ) → P (d k)) → (u ≡ None → P r) → P (unless u d r)
either_way P None d r h k = k refl
either_way P (Some x) d r h k = h x

pub wait_at : (d : ℕ) (σ : List StationState) (i : ℕ) → i < length σ →
    state_at (map (λ x. in_stance x.stance (x.elapsed + d)) σ) i ≡ in_stance (state_at σ i).stance ((state_at σ i).elapsed + d)
wait_at d [] i l = absurd (omega arith)
wait_at d (x ∷ σ) zero l = refl
wait_at d (x ∷ σ) (suc i) l = wait_at d σ i (omega arith)

module _ (ms : Meaning) where
  abbrev n : ℕ
  n = length ms

  heard_long : (σ : List StationState) (h port v : ℕ) (u : Option ℕ) → length (heard ms σ h port v u).stations ≡ length σ
  heard_long σ h port v None = refl
  heard_long σ h port v (Some s) = length-set σ h _

  pub arrive_long : (q : ℕ) (σ : List StationState) (h port v : ℕ) → length (arrive ms q σ h port v).stations ≡ length σ
  arrive_long q σ zero port v = refl
  arrive_long q σ (suc h) port v = heard_long σ h port v ((stance_at ms σ h).hears port v (state_at σ h).elapsed q)

  pub record Whole (σ : List StationState) : Type 0 where
    pub long : length σ ≡ n
    pub known : (i : ℕ) → i < n → (meaning_at ms i).known (state_at σ i).stance ≡ true

  pub set_whole : (σ : List StationState) (h s e : ℕ) → h < n → (meaning_at ms h).known s ≡ true → Whole σ → Whole (set σ h (in_stance s e))
  set_whole σ h s e l k w = record {
    long = length-set σ h _ ∙ w.long;
    known = λ i m. subst (λ f. (meaning_at ms i).known (f i).stance ≡ true) (put_set σ h (in_stance s e) (let x = w.long in omega arith)) (go i m (eqb i h) refl);
  }
    where
      go : (i : ℕ) → i < n → (b : Bool) → eqb i h ≡ b → (meaning_at ms i).known (cond b (in_stance s e) (state_at σ i)).stance ≡ true
      go i m true f = subst (λ x. (meaning_at ms x).known s ≡ true) (sym (eqb-true i h f)) k
      go i m false f = w.known i m

  module _ (q : ℕ) (steady : Steady ms) where
    heard_whole : (σ : List StationState) (h port v : ℕ) → h < n → (u : Option ℕ) → (stance_at ms σ h).hears port v (state_at σ h).elapsed q ≡ u →
        Whole σ → Whole (heard ms σ h port v u).stations
    heard_whole σ h port v l None e w = w
    heard_whole σ h port v l (Some s) e w = set_whole σ h s 0 l ((steady h l _ (w.known h l)).hearing_known _ _ _ _ s e) w

    arrive_whole : (σ : List StationState) (h port v : ℕ) → h ≤ n → Whole σ → Whole (arrive ms q σ h port v).stations
    arrive_whole σ zero port v l w = w
    arrive_whole σ (suc h) port v l w = heard_whole σ h port v (omega arith) _ refl w

    pub deliver_whole : (ps : List Path) → Fine n ps → (from port v : ℕ) (σ : List StationState) → Whole σ → Whole (deliver ms q ps from port v σ).stations
    deliver_whole [] fine from port v σ w = w
    deliver_whole (p ∷ ps) fine from port v σ w =
        elim (leaves p from port) as
        (λ b. Whole (cond b (and_then (arrive ms q σ p.hearer p.hearer_port v) (deliver ms q ps from port v)) (deliver ms q ps from port v σ)).stations) [
          | true ↦ deliver_whole ps fine.1 from port v _ (arrive_whole σ p.hearer p.hearer_port v fine.0 w)
          | false ↦ deliver_whole ps fine.1 from port v σ w
        ]

    pub send_whole : (ps : List Path) → Fine n ps → (i : ℕ) (w : Option Word) (σ : List StationState) → Whole σ → Whole (send ms q ps i w σ).stations
    send_whole ps fine i None σ h = h
    send_whole ps fine i (Some w) σ h = deliver_whole ps fine (suc i) w.port w.value σ h

    land_whole : (i s e : ℕ) (x : Stance) (σ : List StationState) → i < n → (meaning_at ms i).known s ≡ true → Whole σ → Whole (land i s e x σ).stations
    land_whole i s e x σ l k w =
        elim x.busy as
        (λ b. Whole (cond b (passed [] (set σ i (in_stance s e))) (passed (event Internal (suc i) 0 x.phase ∷ []) (set σ i (in_stance s 0)))).stations)
        [ true ↦ set_whole σ i s e l k w | false ↦ set_whole σ i s 0 l k w ]

    act_whole : (ps : List Path) → Fine n ps → (i : ℕ) → i < n → (m : Option Move) (σ : List StationState) → (stance_at ms σ i).move ≡ m → Whole σ → Whole (act ms q ps i m σ).stations
    act_whole ps fine i l None σ e w = w
    act_whole ps fine i l (Some m) σ e w =
        land_whole i m.follows _ ((meaning_at ms i).stance m.follows) _ l ((steady i l _ (w.known i l)).move_known m e) (send_whole ps fine i m.word σ w)

    module _ (o : Order) where
      abbrev net : Net
      net = record { stations = ms; order = o; parts = q }

      abbrev Kept : Outcome → Type 0
      Kept r = Whole r.state.stations

      acts_within : (s : NetState) (u w : Option ℕ) → calls.lowest_busy net s ≡ u → calls.lowest_due net s ≡ w → (i : ℕ) → option_or u w ≡ Some i → i < n
      acts_within s (Some j) w eu ew i e = let r = (is_lowest _ 0 n i (eu ∙ e)).under in omega arith
      acts_within s None (Some j) eu ew i e = let r = (is_lowest _ 0 n i (ew ∙ e)).under in omega arith
      acts_within s None None eu ew i e = absurd (some_not_none i (sym e))

      step_whole : (ps : List Path) → Fine n ps → (s : NetState) → Whole s.stations → (u : Option ℕ) → option_or (calls.lowest_busy net s) (calls.lowest_due net s) ≡ u → Kept (step_of net ps s u)
      step_whole ps fine s w None e = w
      step_whole ps fine s w (Some i) e = act_whole ps fine i (acts_within s _ _ refl refl i e) _ s.stations refl w

      waits_whole : (d : ℕ) (σ : List StationState) → Whole σ → Whole (map (λ x. in_stance x.stance (x.elapsed + d)) σ)
      waits_whole d σ w = record {
        long = length-map σ _ ∙ w.long;
        known = λ i l. subst (λ (x : StationState). (meaning_at ms i).known x.stance ≡ true) (sym (wait_at d σ i (let x = w.long in omega arith))) (w.known i l);
      }

      -- a call leaves a whole state whole
      pub call_whole : (ps : List Path) (c : Call) (s : NetState) → Whole s.stations → Whole (answer_call net ps c s).state.stations
      call_whole ps (wait d) s w =
          either_way Kept (number (calls.lowest_busy net s)) _ _ (λ k. w) (λ _.
          either_way Kept (number (calls.lowest_past net s d)) _ _ (λ k. w) (λ _.
          either_way Kept (at_zero (ltb 1000000000000000 (s.total + d))) _ _ (λ k. w) (λ _. waits_whole d s.stations w)))
      call_whole ps (word port value slots) s w =
          either_way Kept (bad_paths n ps) _ _ (λ k. w) (λ fine.
          either_way Kept (at_zero (ltb slots (room ps))) _ _ (λ k. w) (λ _.
          either_way Kept (number (calls.lowest_busy net s)) _ _ (λ k. w) (λ _.
          either_way Kept (number (due_before_words net o s)) _ _ (λ k. w) (λ _.
          deliver_whole ps (paths_fine n 1 ps fine) 0 port value s.stations w))))
      call_whole ps (step slots) s w =
          either_way Kept (bad_paths n ps) _ _ (λ k. w) (λ fine.
          either_way Kept (at_zero (ltb slots (room ps))) _ _ (λ k. w) (λ _.
          step_whole ps (paths_fine n 1 ps fine) s w _ refl))
