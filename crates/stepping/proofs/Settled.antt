-- Where each station's rules leave no choice, a list of acts has at most one list of events and one end.
use Rattle.std.proofs.Common.{◌≡◌, ℕ, suc, ◌<◌, Bool, true, false, cond, eqb, ◌⊎◌, List, [], ◌∷◌, ◌++◌, Option, sym, refl, ap, ◌∙◌, subst, ap₂, inl, inr, arith}
use native.Mathlib.Nat.{suc_inj}
use Rattle.std.proofs.lemmas.Bool.{eqb-true}
use Rattle.semantics.specs.Times.{Fraction, Proper, Order}
use Rattle.semantics.specs.Trees.{Word, Path}
use Rattle.semantics.specs.Events.{Event, event, leaves, Arrival, External, Output}
use Rattle.semantics.specs.Runs.{Act, word, step, delay, Rules, put, Turn, lowest_busy, lowest_due, Delivered, done, elsewhere, outside, unheard, heard, Sent, nothing, one_word, landing, Does, delayed, worded, stepped, Run, ended, goes_on}
use Rattle.semantics.proofs.Options.{true_not_false, inner}
use Rattle.semantics.proofs.Devs.{turn_selects}

-- the states in G stay in it, and nothing is left to choose there
pub record Settled {X : Type 0} (A : Rules X) (G : X → Type 0) : Type 0 where
  pub later : (d : Fraction) (x : X) → Proper d → A.may_wait d x ≡ true → G x → G (A.later d x)
  pub hears_good : (x y : X) (p v : ℕ) → G x → A.Hears x p v y → G y
  pub hears_one : (x y z : X) (p v : ℕ) → G x → A.Hears x p v y → A.Hears x p v z → y ≡ z
  pub not_both : (x y : X) (p v : ℕ) → G x → A.Hears x p v y → A.Deaf x p v → ⊥
  pub moves_good : (x y : X) (w : Option Word) → (A.busy x ≡ true) ⊎ (A.due x ≡ true) → G x → A.Moves x w y → G y
  pub moves_one : (x y z : X) (w u : Option Word) → (A.busy x ≡ true) ⊎ (A.due x ≡ true) → G x → A.Moves x w y → A.Moves x u z → (w ≡ u) × (y ≡ z)

module _ {X : Type 0} (A : ℕ → Rules X) (n : ℕ) (G : ℕ → X → Type 0) (settled : (i : ℕ) → i < n → Settled (A i) (G i)) (o : Order) (paths : List Path) where
  abbrev Good : (ℕ → X) → Type 0
  Good σ = (i : ℕ) → i < n → G i (σ i)

  put_good : (σ : ℕ → X) (h : ℕ) (x : X) → Good σ → G h x → Good (put σ h x)
  put_good σ h x good g i l = go (eqb i h) refl
    where
      go : (b : Bool) → eqb i h ≡ b → G i (cond b x (σ i))
      go true e = subst (λ k. G k x) (sym (eqb-true i h e)) g
      go false e = good i l

  -- one path of a delivery
  pub data Hop (from port v : ℕ) (p : Path) (σ : ℕ → X) : List Event → (ℕ → X) → Type 0 where
    passes : leaves p from port ≡ false → Hop from port v p σ [] σ
    goes_out : leaves p from port ≡ true → p.hearer ≡ 0 → Hop from port v p σ (event Arrival 0 p.hearer_port v ∷ []) σ
    is_unheard : (h : ℕ) → leaves p from port ≡ true → p.hearer ≡ suc h → h < n → (A h).Deaf (σ h) p.hearer_port v →
        Hop from port v p σ (event Arrival (suc h) p.hearer_port v ∷ []) σ
    is_heard : (h : ℕ) (x : X) → leaves p from port ≡ true → p.hearer ≡ suc h → h < n → (A h).Hears (σ h) p.hearer_port v x →
        Hop from port v p σ (event Arrival (suc h) p.hearer_port v ∷ event External (suc h) 0 ((A h).phase x) ∷ []) (put σ h x)

  hop_good : {from port v : ℕ} {p : Path} {σ τ : ℕ → X} {fs : List Event} → Good σ → Hop from port v p σ fs τ → Good τ
  hop_good good (passes a) = good
  hop_good good (goes_out a b) = good
  hop_good good (is_unheard h a b l d) = good
  hop_good {σ = σ} good (is_heard h x a b l k) = put_good σ h x good ((settled h l).hears_good (σ h) x _ _ (good h l) k)

  away : {b : Bool} → b ≡ false → b ≡ true → ⊥
  away e f = true_not_false (sym f ∙ e)

  zero_suc : {k h : ℕ} → k ≡ 0 → k ≡ suc h → ⊥
  zero_suc e f = let z : ◌≡◌ {A = ℕ} 0 (suc _) = sym e ∙ f in omega arith

  abbrev Same : List Event → List Event → (ℕ → X) → (ℕ → X) → Type 0
  Same fs gs τ ρ = (fs ≡ gs) × (τ ≡ ρ)

  both_deaf : (v : ℕ) (p : Path) (σ : ℕ → X) (h k : ℕ) → h ≡ k →
      Same (event Arrival (suc h) p.hearer_port v ∷ []) (event Arrival (suc k) p.hearer_port v ∷ []) σ σ
  both_deaf v p σ h k e = (ap (λ z. event Arrival (suc z) p.hearer_port v ∷ []) e, refl)

  both_heard : (v : ℕ) (p : Path) (σ : ℕ → X) (h : ℕ) (x y : X) → x ≡ y →
      Same (event Arrival (suc h) p.hearer_port v ∷ event External (suc h) 0 ((A h).phase x) ∷ [])
      (event Arrival (suc h) p.hearer_port v ∷ event External (suc h) 0 ((A h).phase y) ∷ []) (put σ h x) (put σ h y)
  both_heard v p σ h x y e = (ap (λ z. event Arrival (suc h) p.hearer_port v ∷ event External (suc h) 0 ((A h).phase z) ∷ []) e, ap (put σ h) e)

  heard_one : (v : ℕ) (p : Path) (σ : ℕ → X) → Good σ → (h k : ℕ) (x y : X) → h < n → h ≡ k → (A h).Hears (σ h) p.hearer_port v x → (A k).Hears (σ k) p.hearer_port v y →
      Same (event Arrival (suc h) p.hearer_port v ∷ event External (suc h) 0 ((A h).phase x) ∷ [])
      (event Arrival (suc k) p.hearer_port v ∷ event External (suc k) 0 ((A k).phase y) ∷ []) (put σ h x) (put σ k y)
  heard_one v p σ good h k x y l e a b =
      subst (λ j. (A j).Hears (σ j) p.hearer_port v y →
      Same (event Arrival (suc h) p.hearer_port v ∷ event External (suc h) 0 ((A h).phase x) ∷ [])
      (event Arrival (suc j) p.hearer_port v ∷ event External (suc j) 0 ((A j).phase y) ∷ []) (put σ h x) (put σ j y)) e
      (λ c. both_heard v p σ h x y ((settled h l).hears_one (σ h) x y _ _ (good h l) a c)) b

  deaf_too : (v : ℕ) (p : Path) (σ : ℕ → X) → Good σ → (h k : ℕ) (x : X) → h < n → h ≡ k → (A h).Hears (σ h) p.hearer_port v x → (A k).Deaf (σ k) p.hearer_port v → ⊥
  deaf_too v p σ good h k x l e a b =
      (settled h l).not_both (σ h) x _ _ (good h l) a (subst (λ j. (A j).Deaf (σ j) p.hearer_port v) (sym e) b)

  one_place : {k h j : ℕ} → k ≡ suc h → k ≡ suc j → h ≡ j
  one_place e f = suc_inj (sym e ∙ f)

  hop_one : {from port v : ℕ} {p : Path} {σ τ ρ : ℕ → X} {fs gs : List Event} → Good σ → Hop from port v p σ fs τ → Hop from port v p σ gs ρ → Same fs gs τ ρ
  hop_one good (passes a) (passes b) = (refl, refl)
  hop_one good (passes a) (goes_out b c) = absurd (away a b)
  hop_one good (passes a) (is_unheard h b c l d) = absurd (away a b)
  hop_one good (passes a) (is_heard h x b c l d) = absurd (away a b)
  hop_one good (goes_out a e) (passes b) = absurd (away b a)
  hop_one good (goes_out a e) (goes_out b c) = (refl, refl)
  hop_one good (goes_out a e) (is_unheard h b c l d) = absurd (zero_suc e c)
  hop_one good (goes_out a e) (is_heard h x b c l d) = absurd (zero_suc e c)
  hop_one good (is_unheard h a e l d) (passes b) = absurd (away b a)
  hop_one good (is_unheard h a e l d) (goes_out b c) = absurd (zero_suc c e)
  hop_one {v = v} {p = p} {σ = σ} good (is_unheard h a e l d) (is_unheard k b c m f) = both_deaf v p σ h k (one_place e c)
  hop_one {v = v} {p = p} {σ = σ} good (is_unheard h a e l d) (is_heard k y b c m f) = absurd (deaf_too v p σ good k h y m (one_place c e) f d)
  hop_one good (is_heard h x a e l d) (passes b) = absurd (away b a)
  hop_one good (is_heard h x a e l d) (goes_out b c) = absurd (zero_suc c e)
  hop_one {v = v} {p = p} {σ = σ} good (is_heard h x a e l d) (is_unheard k b c m f) = absurd (deaf_too v p σ good h k x l (one_place e c) d f)
  hop_one {v = v} {p = p} {σ = σ} good (is_heard h x a e l d) (is_heard k y b c m f) = heard_one v p σ good h k x y l (one_place e c) d f

  -- a delivery is one path's, and then the others'
  record Split (from port v : ℕ) (p : Path) (ps : List Path) (σ : ℕ → X) (es : List Event) (τ : ℕ → X) : Type 0 where
    now : List Event
    more : List Event
    mid : ℕ → X
    hop : Hop from port v p σ now mid
    rest : Delivered A n o paths from port v ps mid more τ
    all : es ≡ now ++ more

  split : {from port v : ℕ} {p : Path} {ps : List Path} {σ τ : ℕ → X} {es : List Event} → Delivered A n o paths from port v (p ∷ ps) σ es τ → Split from port v p ps σ es τ
  split (elsewhere a c) = record { now = []; more = _; mid = _; hop = passes a; rest = c; all = refl }
  split (outside a b c) = record { now = _ ∷ []; more = _; mid = _; hop = goes_out a b; rest = c; all = refl }
  split (unheard h a b l d c) = record { now = _ ∷ []; more = _; mid = _; hop = is_unheard h a b l d; rest = c; all = refl }
  split (heard h x a b l d c) = record { now = _ ∷ _ ∷ []; more = _; mid = _; hop = is_heard h x a b l d; rest = c; all = refl }

  over_now : {from port v : ℕ} {σ τ : ℕ → X} {es : List Event} → Delivered A n o paths from port v [] σ es τ → Same [] es σ τ
  over_now done = (refl, refl)

  delivered_one : {from port v : ℕ} (ps : List Path) {σ τ ρ : ℕ → X} {es fs : List Event} → Good σ →
      Delivered A n o paths from port v ps σ es τ → Delivered A n o paths from port v ps σ fs ρ → Same es fs τ ρ × Good τ
  delivered_one [] {σ = σ} good c d =
      let a = over_now c in
      let b = over_now d in
      ((sym a.0 ∙ b.0, sym a.1 ∙ b.1), subst Good a.1 good)
  delivered_one {from} {port} {v} (p ∷ ps) {ρ = ρ} good c d =
      let a = split c in
      let b = split d in
      let h = hop_one good a.hop b.hop in
      let r = delivered_one ps (hop_good good a.hop) a.rest (subst (λ z. Delivered A n o paths from port v ps z b.more ρ) (sym h.1) b.rest) in
      ((a.all ∙ (ap₂ ◌++◌ h.0 r.0.0 ∙ sym b.all), r.0.1), r.1)

  sent_one : {i : ℕ} {w u : Option Word} {σ τ ρ : ℕ → X} {es fs : List Event} → Good σ → w ≡ u →
      Sent A n o paths i w σ es τ → Sent A n o paths i u σ fs ρ → Same es fs τ ρ × Good τ
  sent_one good e nothing nothing = ((refl, refl), good)
  sent_one good e nothing (one_word d) = absurd (let z : ◌≡◌ {A = ℕ} 0 1 = cc in omega arith)
  sent_one good e (one_word c) nothing = absurd (let z : ◌≡◌ {A = ℕ} 0 1 = cc in omega arith)
  sent_one {i} {σ = σ} {ρ = ρ} good e (one_word {w = w} {es = es} c) (one_word {w = u} {es = fs} d) =
      let same : w ≡ u = inner e in
      let r = delivered_one paths good c (subst (λ (z : Word). Delivered A n o paths (suc i) z.port z.value paths σ fs ρ) (sym same) d) in
      ((ap₂ (λ (z : Word) gs. event Output (suc i) z.port z.value ∷ gs) same r.0.0, r.0.1), r.1)

  turn_within : {σ : ℕ → X} {i : ℕ} → Turn A n o paths σ i → i < n
  turn_within (lowest_busy l b below) = l
  turn_within (lowest_due q l b below) = l

  turn_ready : {σ : ℕ → X} {i : ℕ} → Turn A n o paths σ i → ((A i).busy (σ i) ≡ true) ⊎ ((A i).due (σ i) ≡ true)
  turn_ready (lowest_busy l b below) = inl b
  turn_ready (lowest_due q l b below) = inr b

  -- a step's station, move and delivery
  record Step (σ : ℕ → X) (es : List Event) (τ : ℕ → X) : Type 0 where
    who : ℕ
    what : Option Word
    to : X
    turn : Turn A n o paths σ who
    move : (A who).Moves (σ who) what to
    news : List Event
    mid : ℕ → X
    sent : Sent A n o paths who what σ news mid
    all : es ≡ news ++ landing A n o paths who to
    end : τ ≡ put mid who to

  step_of : {σ τ : ℕ → X} {es : List Event} → Does A n o paths σ step es τ → Step σ es τ
  step_of (stepped i w x turn move sent) =
      record { who = i; what = w; to = x; turn = turn; move = move; news = _; mid = _; sent = sent; all = refl; end = refl }

  step_one : {σ τ ρ : ℕ → X} {es fs : List Event} → Good σ → Step σ es τ → Step σ fs ρ → Same es fs τ ρ × Good τ
  step_one {σ} {τ} {ρ} {es} {fs} good a b =
      let i : a.who ≡ b.who = inner (sym (turn_selects A n o paths σ a.who a.turn) ∙ turn_selects A n o paths σ b.who b.turn) in
      let l = turn_within a.turn in
      let m = (settled a.who l).moves_one (σ a.who) a.to b.to a.what b.what (turn_ready a.turn) (good a.who l) a.move
      (subst (λ k. (A k).Moves (σ k) b.what b.to) (sym i) b.move) in
      let s = sent_one good m.0 a.sent (subst (λ k. Sent A n o paths k b.what σ b.news b.mid) (sym i) b.sent) in
      let g = (settled a.who l).moves_good (σ a.who) a.to a.what (turn_ready a.turn) (good a.who l) a.move in (
        (
          a.all ∙ (ap₂ ◌++◌ s.0.0 (ap₂ (landing A n o paths) i m.1) ∙ sym b.all),
          a.end ∙ (ap (λ z. put z a.who a.to) s.0.1 ∙ (ap₂ (put b.mid) i m.1 ∙ sym b.end)),
        ),
        subst Good (sym a.end) (put_good a.mid a.who a.to s.1 g),
      )

  word_of : {p v : ℕ} {σ τ : ℕ → X} {es : List Event} → Does A n o paths σ (word p v) es τ → Delivered A n o paths 0 p v paths σ es τ
  word_of (worded q none c) = c

  delay_of : {d : Fraction} {σ τ : ℕ → X} {es : List Event} → Good σ → Does A n o paths σ (delay d) es τ → Same [] es (λ i. (A i).later d (σ i)) τ × Good τ
  delay_of {σ = σ} good (delayed {d = d} proper quiet may) = ((refl, refl), (λ i l. (settled i l).later d (σ i) proper (may i l) (good i l)))

  does_one : (a : Act) {σ τ ρ : ℕ → X} {es fs : List Event} → Good σ → Does A n o paths σ a es τ → Does A n o paths σ a fs ρ → Same es fs τ ρ × Good τ
  does_one (word p v) good x y = delivered_one paths good (word_of x) (word_of y)
  does_one step good x y = step_one good (step_of x) (step_of y)
  does_one (delay d) good x y =
      let a = delay_of good x in
      let b = delay_of good y in
      ((sym a.0.0 ∙ b.0.0, sym a.0.1 ∙ b.0.1), a.1)

  record First (a : Act) (acts : List Act) (σ : ℕ → X) (es : List Event) (τ : ℕ → X) : Type 0 where
    now : List Event
    more : List Event
    mid : ℕ → X
    does : Does A n o paths σ a now mid
    rest : Run A n o paths mid acts more τ
    all : es ≡ now ++ more

  first_of : {a : Act} {acts : List Act} {σ τ : ℕ → X} {es : List Event} → Run A n o paths σ (a ∷ acts) es τ → First a acts σ es τ
  first_of (goes_on d r) = record { now = _; more = _; mid = _; does = d; rest = r; all = refl }

  over_run : {σ τ : ℕ → X} {es : List Event} → Run A n o paths σ [] es τ → Same [] es σ τ
  over_run ended = (refl, refl)

  pub run_one : (acts : List Act) {σ τ ρ : ℕ → X} {es fs : List Event} → Good σ → Run A n o paths σ acts es τ → Run A n o paths σ acts fs ρ → (es ≡ fs) × (τ ≡ ρ)
  run_one [] good x y =
      let a = over_run x in
      let b = over_run y in
      (sym a.0 ∙ b.0, sym a.1 ∙ b.1)
  run_one (act ∷ acts) {ρ = ρ} good x y =
      let a = first_of x in
      let b = first_of y in
      let h = does_one act good a.does b.does in
      let r = run_one acts h.1 a.rest (subst (λ z. Run A n o paths z acts b.more ρ) (sym h.0.1) b.rest) in
      (a.all ∙ (ap₂ ◌++◌ h.0.0 r.0 ∙ sym b.all), r.1)
