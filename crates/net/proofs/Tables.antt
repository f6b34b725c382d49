-- The table of a net: its front is what the stations' states are, and no elapsed parts in it are more than the total.
use Rattle.std.proofs.Common.{◌≡◌, ℕ, zero, suc, ◌+◌, ◌-◌, ◌<◌, ◌≤◌, Bool, true, false, cond, ltb, ◌⊎◌, List, [], ◌∷◌, ◌++◌, map, length, take, drop, set, Some, None, Option, ap, ◌∙◌, inl, inr, arith, length-append, length-drop}
use lib.ListN.{length-map}
use Rattle.std.specs.Option.{option_or}
use Rattle.std.proofs.lemmas.List.{get_or_append_left, get_or-append_right, get_or-drop, get_or-map, get_or_past, get_or-set_same, get_or-set_other, get_or-take, length-take-le, set_past, take_all, take-append-le}
use Rattle.std.proofs.lemmas.Bool.{cases_eq, cases_lt}
use Rattle.semantics.specs.declared.state.Move.{Move}
use Rattle.semantics.specs.declared.state.StationState.{StationState}
use Rattle.semantics.specs.Events.{event, leaves, Internal}
use Rattle.semantics.specs.Machine.{Stance, Meaning, meaning_at}
use Rattle.semantics.specs.Trees.{Word, Path}
use Rattle.semantics.specs.Net.{Net, NetState, in_stance, state_at, passed, and_then, heard, arrive, deliver, send, land, act}
use Rattle.semantics.specs.Calls.{Outcome, word, step, unless, number, at_zero, bad_paths, room, lowest_busy, lowest_due, due_before_words, step_of, answer_call}
use Rattle.net.specs.Invariant.{Within}
use Rattle.net.specs.Nets.{later}

-- The front of a table is written anew.
module _ (states table : List StationState) (n : ℕ) (long : length states ≡ n) where
  pub front : (k : ℕ) → k ≡ n → take k (states ++ drop n table) ≡ states
  front k e = take-append-le k states (drop n table) (omega arith) ∙ take_all k states (omega arith)

  pub length_front : length table ≡ 16 → n ≤ 16 → length (states ++ drop n table) ≡ 16
  length_front h l = simp (length-append, length-drop) (omega arith)

  pub within_front : (total : ℕ) → Within states total → Within table total → Within (states ++ drop n table) total
  within_front total a b i = go (cases_lt i n)
    where
      go : (i < n) ⊎ (n ≤ i) → (state_at (states ++ drop n table) i).elapsed ≤ total
      go (inl l) = let e = ap (λ x. x.elapsed) (get_or_append_left states (drop n table) (in_stance 0 0) i (omega arith)) in let h = a i in omega arith
      go (inr l) =
          let z : n + (i - n) ≡ i = omega arith in
          let e =
          ap (λ x. x.elapsed) (get_or-append_right states (drop n table) n i (in_stance 0 0) long l ∙ get_or-drop n table (i - n) (in_stance 0 0) ∙ ap (state_at table) z)
          in
          let h = b i in
          omega arith

-- what holds of a table holds of its front
pub within_take : (table : List StationState) (n total : ℕ) → Within table total → Within (take n table) total
within_take table n total h i = go (cases_lt i n)
  where
    go : (i < n) ⊎ (n ≤ i) → (state_at (take n table) i).elapsed ≤ total
    go (inl l) = let e = ap (λ x. x.elapsed) (get_or-take n table i (in_stance 0 0) l) in let w = h i in omega arith
    go (inr l) = past (cases_lt n (length table))
      where
        past : (n < length table) ⊎ (length table ≤ n) → (state_at (take n table) i).elapsed ≤ total
        past (inl s) =
            let e = ap (λ x. x.elapsed) (get_or_past (take n table) i (in_stance 0 0) (let q = length-take-le n table (omega arith) in omega arith)) in
            omega arith
        past (inr s) = let e = ap (λ t. (state_at t i).elapsed) (take_all n table s) in let w = h i in omega arith

pub within_set : (σ : List StationState) (total h s e : ℕ) → e ≤ total → Within σ total → Within (set σ h (in_stance s e)) total
within_set σ total h s e l w i = go (cases_eq i h) (cases_lt h (length σ))
  where
    go : (i ≡ h) ⊎ (i ≡ h → ⊥) → (h < length σ) ⊎ (length σ ≤ h) → (state_at (set σ h (in_stance s e)) i).elapsed ≤ total
    go (inl q) (inl m) =
        let z : (state_at (set σ h (in_stance s e)) i).elapsed ≡ e =
        ap (λ j. (state_at (set σ h (in_stance s e)) j).elapsed) q ∙ ap (λ x. x.elapsed) (get_or-set_same σ h (in_stance s e) (in_stance 0 0) m)
        in
        omega arith
    go (inl q) (inr m) = let z = ap (λ t. (state_at t i).elapsed) (set_past σ h (in_stance s e) m) in let a = w i in omega arith
    go (inr q) m = let z = ap (λ x. x.elapsed) (get_or-set_other σ h i (in_stance s e) (in_stance 0 0) q) in let a = w i in omega arith

pub within_later : (σ : List StationState) (total d : ℕ) → Within σ total → Within (map (later d) σ) (total + d)
within_later σ total d w i = go (cases_lt i (length σ))
  where
    go : (i < length σ) ⊎ (length σ ≤ i) → (state_at (map (later d) σ) i).elapsed ≤ total + d
    go (inl l) = let e = ap (λ x. x.elapsed) (get_or-map (later d) σ i (in_stance 0 0) (in_stance 0 0) l) in let a = w i in omega arith
    go (inr l) = let e = ap (λ x. x.elapsed) (get_or_past (map (later d) σ) i (in_stance 0 0) (let q = length-map σ (later d) in omega arith)) in omega arith

-- Words and steps set elapsed parts to 0, or leave them.
module _ (ms : Meaning) (q total : ℕ) where
  heard_within : (σ : List StationState) (h port v : ℕ) (u : Option ℕ) → Within σ total → Within (heard ms σ h port v u).stations total
  heard_within σ h port v None w = w
  heard_within σ h port v (Some s) w = within_set σ total h s 0 (omega arith) w

  arrive_within : (σ : List StationState) (h port v : ℕ) → Within σ total → Within (arrive ms q σ h port v).stations total
  arrive_within σ zero port v w = w
  arrive_within σ (suc h) port v w = heard_within σ h port v _ w

  deliver_within : (ps : List Path) (from port v : ℕ) (σ : List StationState) → Within σ total → Within (deliver ms q ps from port v σ).stations total
  deliver_within [] from port v σ w = w
  deliver_within (p ∷ ps) from port v σ w =
      elim (leaves p from port) as
      (λ b. Within (cond b (and_then (arrive ms q σ p.hearer p.hearer_port v) (deliver ms q ps from port v)) (deliver ms q ps from port v σ)).stations total) [
        | true ↦ deliver_within ps from port v _ (arrive_within σ p.hearer p.hearer_port v w)
        | false ↦ deliver_within ps from port v σ w
      ]

  send_within : (ps : List Path) (i : ℕ) (x : Option Word) (σ : List StationState) → Within σ total → Within (send ms q ps i x σ).stations total
  send_within ps i None σ w = w
  send_within ps i (Some x) σ w = deliver_within ps (suc i) x.port x.value σ w

  land_within : (i s e : ℕ) (x : Stance) (σ : List StationState) → e ≤ total → Within σ total → Within (land i s e x σ).stations total
  land_within i s e x σ l w = go x.busy
    where
      go : (b : Bool) → Within (cond b (passed [] (set σ i (in_stance s e))) (passed (event Internal (suc i) 0 x.phase ∷ []) (set σ i (in_stance s 0)))).stations total
      go true = within_set σ total i s e l w
      go false = within_set σ total i s 0 (omega arith) w

  act_within : (ps : List Path) (i : ℕ) (x : Option Move) (σ : List StationState) → Within σ total → Within (act ms q ps i x σ).stations total
  act_within ps i None σ w = w
  act_within ps i (Some m) σ w =
      land_within i m.follows (state_at σ i).elapsed ((meaning_at ms i).stance m.follows) _ (w i) (send_within ps i m.word σ w)

-- what a refusal keeps and what goes on has, a call has
either_way : (P : Outcome → Type 0) (u : Option ℕ) (d : ℕ → Outcome) (r : Outcome) → ((k : ℕ) → P (d k)) → P r → P (unless u d r)
either_way P None d r h k = k
either_way P (Some x) d r h k = h x

module _ (net : Net) (ps : List Path) (s : NetState) (w : Within s.stations s.total) where
  abbrev Kept : Outcome → Type 0
  Kept o = Within o.state.stations s.total

  pub word_within : (port value slots : ℕ) → Kept (answer_call net ps (word port value slots) s)
  word_within port value slots =
      either_way Kept (bad_paths (length net.stations) ps) _ _ (λ k. w)
      (either_way Kept (at_zero (ltb slots (room ps))) _ _ (λ k. w)
      (either_way Kept (number (lowest_busy net s)) _ _ (λ k. w)
      (either_way Kept (number (due_before_words net net.order s)) _ _ (λ k. w)
      (deliver_within net.stations net.parts s.total ps 0 port value s.stations w))))

  step_of_within : (o : Option ℕ) → Kept (step_of net ps s o)
  step_of_within None = w
  step_of_within (Some i) = act_within net.stations net.parts s.total ps i _ s.stations w

  pub step_within : (slots : ℕ) → Kept (answer_call net ps (step slots) s)
  step_within slots =
      either_way Kept (bad_paths (length net.stations) ps) _ _ (λ k. w)
      (either_way Kept (at_zero (ltb slots (room ps))) _ _ (λ k. w)
      (step_of_within (option_or (lowest_busy net s) (lowest_due net s))))
