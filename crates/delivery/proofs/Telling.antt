-- What is written of a delivery.
use Rattle.std.proofs.Common.{◌≡◌, ℕ, zero, suc, ◌+◌, ◌-◌, ◌*◌, ◌<◌, ◌≤◌, Bool, true, false, cond, List, [], ◌∷◌, ◌++◌, length, get_or, take, drop, set, Some, None, Option, sym, refl, ap, ◌∙◌, subst, ap₂, append_assoc, append-nil, arith, take-append-drop, length-append, length-drop}
use Rattle.std.proofs.lemmas.List.{take_more_set, drop-set-lt, length-set, length-take-le, take_all, take-append-le, drop-drop, drop_all, drop-append-le, at_drop_more, at_drop_all, get_or_past}
use Rattle.book.specs.declared.term.Path.{Path}
use Rattle.book.specs.declared.event.Event.{Event}
use Rattle.semantics.specs.declared.state.StationState.{StationState}
use Rattle.semantics.specs.Events.{event, leaves, Arrival, External, Output, Internal}
use Rattle.semantics.specs.declared.state.Move.{Move}
use Rattle.book.specs.declared.record.Word.{Word}
use Rattle.semantics.specs.Machine.{Stance, Meaning, meaning_at, blank_meaning}
use Rattle.semantics.specs.Net.{Passed, passed, and_then, heard, arrive, deliver, send, land, act, in_stance, state_at, stance_at}
use Rattle.delivery.specs.Telling.{along, Told}

-- nothing is told
pub told_nothing : (es : List Event) (σ : List StationState) (n k : ℕ) → Told (passed [] σ) es es σ n k n
told_nothing es σ n k = record { low = omega arith; high = omega arith; front = sym (append-nil (take n es)); rest = refl; left = refl }

-- one event, and where the stations stand then
pub told_one : (es : List Event) (σ : List StationState) (n k : ℕ) (a : Event) → n + 1 ≤ length es → 1 ≤ k → Told (passed (a ∷ []) σ) es (set es n a) σ n k (n + 1)
told_one es σ n k a h l = record {
  low = omega arith;
  high = omega arith;
  front = take_more_set es n a (omega arith);
  rest = drop-set-lt (n + 1) es n a (omega arith);
  left = refl;
}

pub told_two : (es : List Event) (σ : List StationState) (n : ℕ) (a b : Event) → n + 2 ≤ length es →
    Told (passed (a ∷ b ∷ []) σ) es (set (set es n a) (n + 1) b) σ n 2 (n + 2)
told_two es σ n a b h =
    let q : n + 2 ≡ n + 1 + 1 = omega arith in
    let l : n + 1 < length (set es n a) = rw length-set (omega arith) in
    record {
      low = omega arith;
      high = omega arith;
      front =
          ap (λ k. take k (set (set es n a) (n + 1) b)) q ∙ take_more_set (set es n a) (n + 1) b l
          ∙ ap (λ y. y ++ b ∷ []) (take_more_set es n a (omega arith)) ∙ append_assoc (take n es) (a ∷ []) (b ∷ []);
      rest = drop-set-lt (n + 2) (set es n a) (n + 1) b (omega arith) ∙ drop-set-lt (n + 2) es n a (omega arith);
      left = refl;
    }

pub drop_on : {X : Type 0} (a b : List X) (n r : ℕ) → n ≤ r → drop n a ≡ drop n b → drop r a ≡ drop r b
drop_on a b n r h e =
    let q : n + (r - n) ≡ r = omega arith in
    ap (λ k. drop k a) (sym q) ∙ sym (drop-drop (r - n) n a) ∙ ap (drop (r - n)) e ∙ drop-drop (r - n) n b ∙ ap (λ k. drop k b) q

-- two calls in a row
pub told_then : (x : Passed) (f : List StationState → Passed) (es es' es'' : List Event) (σ' σ'' : List StationState) (n k m j r : ℕ) →
    Told x es es' σ' n k m → Told (f σ') es' es'' σ'' m j r → Told (and_then x f) es es'' σ'' n (k + j) r
told_then x f es es' es'' σ' σ'' n k m j r a b = record {
  low = let h = a.low in let l = b.low in omega arith;
  high = let h = a.high in let l = b.high in omega arith;
  front =
      b.front ∙ ap₂ (λ y σ. y ++ (f σ).news) a.front a.left ∙ append_assoc (take n es) x.news (f x.stations).news;
  rest = b.rest ∙ drop_on es' es m r b.low a.rest;
  left = b.left ∙ ap (λ σ. (f σ).stations) a.left;
}

-- what is told in the slots from m on is told of all the slots
pub told_within : (x : Passed) (es ys : List Event) (σ : List StationState) (m j r : ℕ) → m + j ≤ length es → length ys ≡ length (take (length es - m) (drop m es)) →
    Told x (take (length es - m) (drop m es)) ys σ 0 j r → Told x es (take m es ++ (ys ++ drop (length es - m) (drop m es))) σ m j (m + r)
told_within x es ys σ m j r room same t =
    let k = length es - m in
    let rest-long : length (drop m es) ≡ length es - m = length-drop m es in
    let mid : take k (drop m es) ≡ drop m es = take_all k (drop m es) (omega arith) in
    let long : length ys ≡ length es - m = same ∙ ap length mid ∙ rest-long in
    let few : r ≤ length ys = let h = t.high in omega arith in
    let count : length x.news ≡ r = sym (ap length t.front) ∙ length-take-le r ys few in
    let is : ys ≡ x.news ++ drop r (drop m es) = sym (take-append-drop r ys) ∙ ap₂ ◌++◌ t.front (t.rest ∙ ap (drop r) mid) in
    let whole : take m es ++ (ys ++ drop k (drop m es)) ≡ (take m es ++ x.news) ++ drop (m + r) es =
    ap₂ (λ y z. take m es ++ (y ++ z)) is (drop_all k (drop m es) (omega arith)) ∙ ap (λ z. take m es ++ z) (append-nil (x.news ++ drop r (drop m es)))
    ∙ ap (λ z. take m es ++ (x.news ++ z)) (drop-drop r m es) ∙ sym (append_assoc (take m es) x.news (drop (m + r) es))
    in
    let front-long : length (take m es ++ x.news) ≡ m + r = length-append (take m es) x.news ∙ ap₂ ◌+◌ (length-take-le m es (omega arith)) count in
    record {
      low = omega arith;
      high = let h = t.high in omega arith;
      front =
          ap (take (m + r)) whole ∙ take-append-le (m + r) (take m es ++ x.news) (drop (m + r) es) (omega arith)
          ∙ take_all (m + r) (take m es ++ x.news) (omega arith);
      rest =
          ap (drop (m + r)) whole ∙ drop-append-le (m + r) (take m es ++ x.news) (drop (m + r) es) (omega arith)
          ∙ ap (λ z. z ++ drop (m + r) es) (drop_all (m + r) (take m es ++ x.news) (omega arith));
      left = t.left;
    }

-- where it is the same that has passed
pub told_same : (x y : Passed) (es es' : List Event) (σ : List StationState) (n k r : ℕ) → x ≡ y → Told x es es' σ n k r → Told y es es' σ n k r
told_same x y es es' σ n k r e t = subst (λ z. Told z es es' σ n k r) e t

module _ (ms : Meaning) (q : ℕ) (σ : List StationState) (hearer port v : ℕ) where
  -- the word goes outside, or to no station that is there: nobody hears it
  pub unheard_outside : hearer ≡ 0 → passed (event Arrival hearer port v ∷ []) σ ≡ arrive ms q σ hearer port v
  unheard_outside z = subst (λ k. passed (event Arrival k port v ∷ []) σ ≡ arrive ms q σ k port v) (sym z) refl

  pub unheard_past : length ms < hearer → passed (event Arrival hearer port v ∷ []) σ ≡ arrive ms q σ hearer port v
  unheard_past l = go hearer l
    where
      go : (k : ℕ) → length ms < k → passed (event Arrival k port v ∷ []) σ ≡ arrive ms q σ k port v
      go zero l = absurd (omega arith)
      go (suc h) l =
          let e : blank_meaning ≡ meaning_at ms h = sym (get_or_past ms h blank_meaning (omega arith)) in
          ap (λ m. heard ms σ h port v ((m.stance (state_at σ h).stance).hears port v (state_at σ h).elapsed q)) e

  -- what the station at place h makes of it
  pub heard_at : (h : ℕ) → hearer ≡ suc h → (o : Option ℕ) → o ≡ (stance_at ms σ h).hears port v (state_at σ h).elapsed q →
      heard ms σ h port v o ≡ arrive ms q σ hearer port v
  heard_at h z o e = ap (heard ms σ h port v) e ∙ ap (λ k. arrive ms q σ k port v) (sym z)

-- A delivery under way: what is left of it, from here, gives the whole.
pub record Going (ms : Meaning) (q from port v : ℕ) (ps : List Path) (es₀ es : List Event) (σ₀ σ : List StationState) (start n i : ℕ) : Type 0 where
  pub low : start ≤ n
  pub high : n ≤ start + 2 * i
  pub rest : drop n es ≡ drop n es₀
  pub news : take n es ++ (deliver ms q (drop i ps) from port v σ).news ≡ take start es₀ ++ (deliver ms q ps from port v σ₀).news
  pub states : (deliver ms q (drop i ps) from port v σ).stations ≡ (deliver ms q ps from port v σ₀).stations

module _ (ms : Meaning) (q from port v : ℕ) (ps : List Path) (es₀ : List Event) (σ₀ : List StationState) (start : ℕ) where
  pub going_none : Going ms q from port v ps es₀ es₀ σ₀ σ₀ start start 0
  going_none = record { low = omega arith; high = omega arith; rest = refl; news = refl; states = refl }

  pub going_all : (es : List Event) (σ : List StationState) (n i : ℕ) → length ps ≡ i → Going ms q from port v ps es₀ es σ₀ σ start n i →
      Told (deliver ms q ps from port v σ₀) es₀ es σ start (2 * length ps) n
  going_all es σ n i e g =
      let done = at_drop_all (λ ps. deliver ms q ps from port v σ) ps i (omega arith) in
      record {
        low = g.low;
        high = let h = g.high in omega arith;
        front = sym (append-nil (take n es)) ∙ ap (λ x. take n es ++ x.news) (sym done) ∙ g.news;
        rest = g.rest;
        left = ap (λ x. x.stations) (sym done) ∙ g.states;
      }

  -- the paths from i on begin with p
  one_path : (p : Path) (ps : List Path) (σ : List StationState) →
      and_then (along ms q from port v p σ) (deliver ms q ps from port v) ≡ deliver ms q (p ∷ ps) from port v σ
  one_path p ps σ = go (leaves p from port)
    where
      go : (b : Bool) → and_then (cond b (arrive ms q σ p.hearer p.hearer_port v) (passed [] σ)) (deliver ms q ps from port v)
          ≡ cond b (and_then (arrive ms q σ p.hearer p.hearer_port v) (deliver ms q ps from port v)) (deliver ms q ps from port v σ)
      go true = refl
      go false = refl

  pub going_more : (es es' : List Event) (σ σ' : List StationState) (n r i : ℕ) (p : Path) → Going ms q from port v ps es₀ es σ₀ σ start n i →
      i < length ps → p ≡ get_or ps i p → Told (along ms q from port v p σ) es es' σ' n 2 r → Going ms q from port v ps es₀ es' σ₀ σ' start r (i + 1)
  going_more es es' σ σ' n r i p g l is t =
      let later = drop (i + 1) ps in
      let now-is : deliver ms q (drop i ps) from port v σ ≡ deliver ms q (p ∷ later) from port v σ =
      at_drop_more (λ ps. deliver ms q ps from port v σ) ps i p l ∙ ap (λ y. deliver ms q (y ∷ later) from port v σ) (sym is)
      in
      let both = one_path p later σ ∙ sym now-is in
      let x = along ms q from port v p σ in
      record {
        low = let a = g.low in let b = t.low in omega arith;
        high = let a = g.high in let b = t.high in omega arith;
        rest = t.rest ∙ drop_on es es₀ n r t.low g.rest;
        news =
            ap₂ (λ y σ. y ++ (deliver ms q later from port v σ).news) t.front t.left
            ∙ append_assoc (take n es) x.news (deliver ms q later from port v x.stations).news
            ∙ ap (λ y. take n es ++ y.news) both ∙ g.news;
        states = ap (λ σ. (deliver ms q later from port v σ).stations) t.left ∙ ap (λ y. y.stations) both ∙ g.states;
      }

-- the events and states of a word that is heard, with the station's number and the new phase as they are written
pub heard_event : (ms : Meaning) (σ : List StationState) (port v h k s y : ℕ) → k ≡ suc h → y ≡ ((meaning_at ms h).stance s).phase →
    passed (event Arrival k port v ∷ event External k 0 y ∷ []) (set σ h (in_stance s 0)) ≡ heard ms σ h port v (Some s)
heard_event ms σ port v h k s y z e =
    ap₂ (λ k y. passed (event Arrival k port v ∷ event External k 0 y ∷ []) (set σ h (in_stance s 0))) z e

pub unheard_event : (ms : Meaning) (σ : List StationState) (port v h k : ℕ) → k ≡ suc h → passed (event Arrival k port v ∷ []) σ ≡ heard ms σ h port v None
unheard_event ms σ port v h k z = ap (λ k. passed (event Arrival k port v ∷ []) σ) z

-- one event, and then a call that tells more
module _ (ms : Meaning) (q : ℕ) (ps : List Path) (i : ℕ) (es es' : List Event) (σ σ' : List StationState) where
  pub told_sent : (o : Option Word) (w : Word) (k r : ℕ) → k ≡ suc i → o ≡ Some w → 1 ≤ length es →
      Told (deliver ms q ps k w.port w.value σ) (set es 0 (event Output k w.port w.value)) es' σ' 1 (2 * length ps) r →
      Told (send ms q ps i o σ) es es' σ' 0 (1 + 2 * length ps) r
  told_sent o w k r z e room t =
      subst (λ o. Told (send ms q ps i o σ) es es' σ' 0 (1 + 2 * length ps) r) (sym e)
      (subst (λ k. Told (and_then (passed (event Output k w.port w.value ∷ []) σ) (deliver ms q ps k w.port w.value)) es es' σ' 0 (1 + 2 * length ps) r) z
      (told_then _ (deliver ms q ps k w.port w.value) es _ es' σ σ' 0 1 1 (2 * length ps) r (told_one es σ 0 1 _ (omega arith) (omega arith)) t))

  pub told_unsent : (o : Option Word) → o ≡ None → Told (send ms q ps i o σ) es es σ 0 (1 + 2 * length ps) 0
  told_unsent o e = subst (λ o. Told (send ms q ps i o σ) es es σ 0 (1 + 2 * length ps) 0) (sym e) (told_nothing es σ 0 (1 + 2 * length ps))

  pub told_acted : (o : Option Move) (m : Move) (es'' : List Event) (σ'' : List StationState) (n r : ℕ) → Some m ≡ o →
      Told (send ms q ps i m.word σ) es es' σ' 0 (1 + 2 * length ps) n →
      Told (land i m.follows (state_at σ i).elapsed ((meaning_at ms i).stance m.follows) σ') es' es'' σ'' n 1 r →
      Told (act ms q ps i o σ) es es'' σ'' 0 (2 + 2 * length ps) r
  told_acted o m es'' σ'' n r e a b =
      let same : 1 + 2 * length ps + 1 ≡ 2 + 2 * length ps = omega arith in
      subst (λ o. Told (act ms q ps i o σ) es es'' σ'' 0 (2 + 2 * length ps) r) e
      (subst (λ k. Told (act ms q ps i (Some m) σ) es es'' σ'' 0 k r) same
      (told_then _ (land i m.follows (state_at σ i).elapsed ((meaning_at ms i).stance m.follows)) es es' es'' σ' σ'' 0 (1 + 2 * length ps) n 1 r a b))

  pub told_idle : (o : Option Move) → None ≡ o → Told (act ms q ps i o σ) es es σ 0 (2 + 2 * length ps) 0
  told_idle o e = subst (λ o. Told (act ms q ps i o σ) es es σ 0 (2 + 2 * length ps) 0) e (told_nothing es σ 0 (2 + 2 * length ps))

module _ (i s e : ℕ) (x : Stance) (es : List Event) (σ : List StationState) (n : ℕ) where
  pub landed_busy : true ≡ x.busy → Told (land i s e x σ) es es (set σ i (in_stance s e)) n 1 n
  landed_busy b =
      told_same _ _ es es _ n 1 n (ap (λ b. cond b (passed [] (set σ i (in_stance s e))) (passed (event Internal (suc i) 0 x.phase ∷ []) (set σ i (in_stance s 0)))) b)
      (told_nothing es (set σ i (in_stance s e)) n 1)

  pub landed_quiet : (k y : ℕ) → k ≡ suc i → y ≡ x.phase → n + 1 ≤ length es → false ≡ x.busy →
      Told (land i s e x σ) es (set es n (event Internal k 0 y)) (set σ i (in_stance s 0)) n 1 (n + 1)
  landed_quiet k y z p room b =
      told_same _ _ es _ _ n 1 (n + 1)
      (ap₂ (λ k y. passed (event Internal k 0 y ∷ []) (set σ i (in_stance s 0))) z p
      ∙ ap (λ b. cond b (passed [] (set σ i (in_stance s e))) (passed (event Internal (suc i) 0 x.phase ∷ []) (set σ i (in_stance s 0)))) b)
      (told_one es (set σ i (in_stance s 0)) n 1 (event Internal k 0 y) room (omega arith))
