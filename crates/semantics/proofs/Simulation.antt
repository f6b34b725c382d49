-- A run by the one side's rules is a run by the other's, with the same events, where each station's rules follow the other's.
use Rattle.std.proofs.Common.{◌≡◌, ℕ, suc, ◌<◌, Bool, true, false, cond, eqb, ◌⊎◌, List, [], ◌∷◌, ◌++◌, Option, sym, refl, ◌∙◌, subst, ap₂, inl, inr, arith}
use Rattle.std.proofs.lemmas.Bool.{eqb-true}
use Rattle.semantics.specs.Times.{Fraction, Proper, Order}
use Rattle.semantics.specs.Trees.{Word, Path}
use Rattle.semantics.specs.Events.{Event, event, Arrival, External, Internal}
use Rattle.semantics.specs.Runs.{Act, word, step, delay, Rules, put, AllQuiet, NoneDue, Turn, lowest_busy, lowest_due, Delivered, done, elsewhere, outside, unheard, heard, Sent, nothing, one_word, landing, Does, delayed, worded, stepped, Run, ended, goes_on}

-- B follows A on the states that S relates, over the delays in D.
pub record Follows {X Y : Type 0} (D : Fraction → Type 0) (A : Rules X) (B : Rules Y) (S : X → Y → Type 0) : Type 0 where
  pub busy : (x : X) (y : Y) → S x y → A.busy x ≡ B.busy y
  pub due : (x : X) (y : Y) → S x y → A.due x ≡ B.due y
  pub phase : (x : X) (y : Y) → S x y → A.phase x ≡ B.phase y
  pub may_wait : (d : Fraction) (x : X) (y : Y) → D d → A.busy x ≡ false → S x y → A.may_wait d x ≡ B.may_wait d y
  pub later : (d : Fraction) (x : X) (y : Y) → D d → A.may_wait d x ≡ true → S x y → S (A.later d x) (B.later d y)
  pub hears : (x x' : X) (y : Y) (p v : ℕ) → S x y → A.Hears x p v x' → (y' : Y) × (B.Hears y p v y' × S x' y')
  pub deaf : (x : X) (y : Y) (p v : ℕ) → S x y → A.Deaf x p v → B.Deaf y p v
  pub moves : (x x' : X) (y : Y) (w : Option Word) → (A.busy x ≡ true) ⊎ (A.due x ≡ true) → S x y → A.Moves x w x' → (y' : Y) × (B.Moves y w y' × S x' y')

-- every act whose delay is in D
abbrev pub Fit : (Fraction → Type 0) → Act → Type 0
Fit D (word p v) = Unit {0}
Fit D step = Unit {0}
Fit D (delay d) = D d

abbrev pub AllFit : (Fraction → Type 0) → List Act → Type 0
AllFit D [] = Unit {0}
AllFit D (a ∷ acts) = Fit D a × AllFit D acts

put_related : {X Y : Type 0} (n : ℕ) (S : ℕ → X → Y → Type 0) (σ : ℕ → X) (τ : ℕ → Y) → ((i : ℕ) → i < n → S i (σ i) (τ i)) → (h : ℕ) (x : X) (y : Y) → S h x y →
    (i : ℕ) → i < n → S i (put σ h x i) (put τ h y i)
put_related n S σ τ r h x y s i l = go (eqb i h) refl
  where
    go : (b : Bool) → eqb i h ≡ b → S i (cond b x (σ i)) (cond b y (τ i))
    go true e = subst (λ k. S k x y) (sym (eqb-true i h e)) s
    go false e = r i l

module _ {X Y : Type 0} (D : Fraction → Type 0) (A : ℕ → Rules X) (B : ℕ → Rules Y) (n : ℕ) (S : ℕ → X → Y → Type 0)
    (suit : (i : ℕ) → i < n → Follows D (A i) (B i) (S i)) (o : Order) (paths : List Path) where
  abbrev AllPaired : (ℕ → X) → (ℕ → Y) → Type 0
  AllPaired σ τ = (i : ℕ) → i < n → S i (σ i) (τ i)

  quiet_too : (σ : ℕ → X) (τ : ℕ → Y) → AllPaired σ τ → AllQuiet A n o paths σ → AllQuiet B n o paths τ
  quiet_too σ τ r q i l = sym ((suit i l).busy (σ i) (τ i) (r i l)) ∙ q i l

  none_due_too : (σ : ℕ → X) (τ : ℕ → Y) → AllPaired σ τ → NoneDue A n o paths σ → NoneDue B n o paths τ
  none_due_too σ τ r q i l = sym ((suit i l).due (σ i) (τ i) (r i l)) ∙ q i l

  turn_too : (σ : ℕ → X) (τ : ℕ → Y) (i : ℕ) → AllPaired σ τ → Turn A n o paths σ i → Turn B n o paths τ i
  turn_too σ τ i r (lowest_busy l b below) =
      lowest_busy l (sym ((suit i l).busy (σ i) (τ i) (r i l)) ∙ b)
      (λ k m. let lk : k < n = omega arith in sym ((suit k lk).busy (σ k) (τ k) (r k lk)) ∙ below k m)
  turn_too σ τ i r (lowest_due q l b below) =
      lowest_due (quiet_too σ τ r q) l (sym ((suit i l).due (σ i) (τ i) (r i l)) ∙ b)
      (λ k m. let lk : k < n = omega arith in sym ((suit k lk).due (σ k) (τ k) (r k lk)) ∙ below k m)

  delivered_too : {from port v : ℕ} {ps : List Path} {σ σ' : ℕ → X} {es : List Event} → (τ : ℕ → Y) → AllPaired σ τ →
      Delivered A n o paths from port v ps σ es σ' → (τ' : ℕ → Y) × (Delivered B n o paths from port v ps τ es τ' × AllPaired σ' τ')
  delivered_too τ r done = (τ, (done, r))
  delivered_too τ r (elsewhere no_way c) = let t = delivered_too τ r c in (t.0, (elsewhere no_way t.1.0, t.1.1))
  delivered_too τ r (outside way out c) = let t = delivered_too τ r c in (t.0, (outside way out t.1.0, t.1.1))
  delivered_too {σ = σ} τ r (unheard h way to l deaf c) =
      let t = delivered_too τ r c in
      (t.0, (unheard h way to l ((suit h l).deaf (σ h) (τ h) _ _ (r h l) deaf) t.1.0, t.1.1))
  delivered_too {from = from} {port = port} {v = v} {σ = σ} τ r (heard {p = p} {ps = ps} {es = es} h x way to l hears c) =
      let y = (suit h l).hears (σ h) x (τ h) p.hearer_port v (r h l) hears in
      let t = delivered_too (put τ h y.0) (put_related n S σ τ r h x y.0 y.1.1) c in (
        t.0,
        (
          subst (λ k. Delivered B n o paths from port v (p ∷ ps) τ (event Arrival (suc h) p.hearer_port v ∷ event External (suc h) 0 k ∷ es) t.0)
              (sym ((suit h l).phase x y.0 y.1.1))
              (heard h y.0 way to l y.1.0 t.1.0),
          t.1.1,
        ),
      )

  sent_too : {i : ℕ} {w : Option Word} {σ σ' : ℕ → X} {es : List Event} → (τ : ℕ → Y) → AllPaired σ τ →
      Sent A n o paths i w σ es σ' → (τ' : ℕ → Y) × (Sent B n o paths i w τ es τ' × AllPaired σ' τ')
  sent_too τ r nothing = (τ, (nothing, r))
  sent_too τ r (one_word c) = let t = delivered_too τ r c in (t.0, (one_word t.1.0, t.1.1))

  landing_same : (i : ℕ) → i < n → (x : X) (y : Y) → S i x y → landing A n o paths i x ≡ landing B n o paths i y
  landing_same i l x y s = ap₂ (λ b k. cond b [] (event Internal (suc i) 0 k ∷ [])) ((suit i l).busy x y s) ((suit i l).phase x y s)

  turn_within : (σ : ℕ → X) (i : ℕ) → Turn A n o paths σ i → i < n
  turn_within σ i (lowest_busy l b below) = l
  turn_within σ i (lowest_due q l b below) = l

  turn_ready : (σ : ℕ → X) (i : ℕ) → Turn A n o paths σ i → ((A i).busy (σ i) ≡ true) ⊎ ((A i).due (σ i) ≡ true)
  turn_ready σ i (lowest_busy l b below) = inl b
  turn_ready σ i (lowest_due q l b below) = inr b

  pub does_too : {σ σ' : ℕ → X} {a : Act} {es : List Event} → (τ : ℕ → Y) → AllPaired σ τ → Fit D a → Does A n o paths σ a es σ' →
      (τ' : ℕ → Y) × (Does B n o paths τ a es τ' × AllPaired σ' τ')
  does_too {σ = σ} τ r fit (delayed {d = d} good q may) = (
    (λ i. (B i).later d (τ i)),
    (
      delayed good (quiet_too σ τ r q) (λ i l. sym ((suit i l).may_wait d (σ i) (τ i) fit (q i l) (r i l)) ∙ may i l),
      (λ i l. (suit i l).later d (σ i) (τ i) fit (may i l) (r i l)),
    ),
  )
  does_too {σ = σ} τ r fit (worded q none c) =
      let t = delivered_too τ r c in
      (t.0, (worded (quiet_too σ τ r q) (λ first. none_due_too σ τ r (none first)) t.1.0, t.1.1))
  does_too {σ = σ} τ r fit (stepped {σ' = σ'} {es = es} i w x turn move sent) =
      let l = turn_within σ i turn in
      let y = (suit i l).moves (σ i) x (τ i) w (turn_ready σ i turn) (r i l) move in
      let t = sent_too τ r sent in (
        put t.0 i y.0,
        (
          subst (λ land. Does B n o paths τ step (es ++ land) (put t.0 i y.0)) (sym (landing_same i l x y.0 y.1.1))
              (stepped i w y.0 (turn_too σ τ i r turn) y.1.0 t.1.0),
          put_related n S σ' t.0 t.1.1 i x y.0 y.1.1,
        ),
      )

  pub run_too : {σ σ' : ℕ → X} {acts : List Act} {es : List Event} → (τ : ℕ → Y) → AllPaired σ τ → AllFit D acts → Run A n o paths σ acts es σ' →
      (τ' : ℕ → Y) × (Run B n o paths τ acts es τ' × AllPaired σ' τ')
  run_too τ r fit ended = (τ, (ended, r))
  run_too τ r fit (goes_on g rest) =
      let t = does_too τ r fit.0 g in
      let u = run_too t.0 t.1.1 fit.1 rest in
      (u.0, (goes_on t.1.0 u.1.0, u.1.1))

-- the delays of a run are proper
does_proper : {X : Type 0} {A : ℕ → Rules X} {n : ℕ} {o : Order} {paths : List Path} {σ σ' : ℕ → X} {a : Act} {es : List Event} → Does A n o paths σ a es σ' → Fit Proper a
does_proper (delayed good q may) = good
does_proper (worded q none c) = tt
does_proper (stepped i w x turn move sent) = tt

pub run_proper : {X : Type 0} {A : ℕ → Rules X} {n : ℕ} {o : Order} {paths : List Path} {σ σ' : ℕ → X} {acts : List Act} {es : List Event} → Run A n o paths σ acts es σ' → AllFit Proper acts
run_proper ended = tt
run_proper (goes_on g rest) = (does_proper g, run_proper rest)
