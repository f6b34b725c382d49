-- Runs: words, steps and delays of any fraction of a net tick, by the rules of each station. One inductive relation
-- serves every kind of station.
use Rattle.std.specs.Prelude.{◌≡◌, ℕ, suc, ◌<◌, Bool, true, false, cond, List, [], ◌∷◌, ◌++◌, Some, None, Option, ◌==◌}
use Rattle.semantics.specs.Times.{Fraction, Proper, Order, StepFirst}
use Rattle.semantics.specs.Trees.{Word, Path}
use Rattle.semantics.specs.Events.{Event, event, leaves, Arrival, External, Output, Internal}

-- What may be done with a net: a word from outside, a step, or a delay in net ticks.
pub data Act : Type 0 where
  word : (port value : ℕ) → Act
  step : Act
  delay : Fraction → Act

-- How one kind of station goes, on states X: whether it is busy, or due; the phase that it tells; whether a delay may
-- come, and its state after it; how it may hear a word, and when it does not; and how it may move, with which word.
pub record Rules (X : Type 0) : Type 1 where
  pub busy : X → Bool
  pub due : X → Bool
  pub phase : X → ℕ
  pub may_wait : Fraction → X → Bool
  pub later : Fraction → X → X
  pub Hears : X → ℕ → ℕ → X → Type 0
  pub Deaf : X → ℕ → ℕ → Type 0
  pub Moves : X → Option Word → X → Type 0

-- the same states, but x at the place i
abbrev pub put : {X : Type 0} → (ℕ → X) → ℕ → X → ℕ → X
put σ i x k = cond (k == i) x (σ k)

-- A net of n stations, each by its rules, with its order and paths. A state gives each station's, by its place from 0;
-- place i is station i + 1.
module _ {X : Type 0} (rules : ℕ → Rules X) (n : ℕ) (order : Order) (paths : List Path) where
  abbrev pub AllQuiet : (ℕ → X) → Type 0
  AllQuiet σ = (i : ℕ) → i < n → (rules i).busy (σ i) ≡ false

  abbrev pub NoneDue : (ℕ → X) → Type 0
  NoneDue σ = (i : ℕ) → i < n → (rules i).due (σ i) ≡ false

  -- The station that a step acts for (the select function): the lowest busy one, else the lowest due one.
  pub data Turn (σ : ℕ → X) (i : ℕ) : Type 0 where
    lowest_busy : i < n → (rules i).busy (σ i) ≡ true → ((k : ℕ) → k < i → (rules k).busy (σ k) ≡ false) → Turn σ i
    lowest_due : AllQuiet σ → i < n → (rules i).due (σ i) ≡ true → ((k : ℕ) → k < i → (rules k).due (σ k) ≡ false) → Turn σ i

  -- A word from a station's port, or from outside (station 0), goes along the paths in their order (the coupling). On
  -- each path that leaves there it arrives outside, or at a station that does not hear it, or at one that does.
  pub data Delivered (from port v : ℕ) : List Path → (ℕ → X) → List Event → (ℕ → X) → Type 0 where
    done : {σ : ℕ → X} → Delivered from port v [] σ [] σ
    elsewhere : {p : Path} {ps : List Path} {σ σ' : ℕ → X} {es : List Event} →
        leaves p from port ≡ false → Delivered from port v ps σ es σ' → Delivered from port v (p ∷ ps) σ es σ'
    outside : {p : Path} {ps : List Path} {σ σ' : ℕ → X} {es : List Event} →
        leaves p from port ≡ true → p.hearer ≡ 0 →
        Delivered from port v ps σ es σ' → Delivered from port v (p ∷ ps) σ (event Arrival 0 p.hearer_port v ∷ es) σ'
    unheard : {p : Path} {ps : List Path} {σ σ' : ℕ → X} {es : List Event} (h : ℕ) →
        leaves p from port ≡ true → p.hearer ≡ suc h → h < n → (rules h).Deaf (σ h) p.hearer_port v →
        Delivered from port v ps σ es σ' → Delivered from port v (p ∷ ps) σ (event Arrival (suc h) p.hearer_port v ∷ es) σ'
    heard : {p : Path} {ps : List Path} {σ σ' : ℕ → X} {es : List Event} (h : ℕ) (x : X) →
        leaves p from port ≡ true → p.hearer ≡ suc h → h < n → (rules h).Hears (σ h) p.hearer_port v x →
        Delivered from port v ps (put σ h x) es σ' →
        Delivered from port v (p ∷ ps) σ (event Arrival (suc h) p.hearer_port v ∷ event External (suc h) 0 ((rules h).phase x) ∷ es) σ'

  -- what the station at place i sends with its move: nothing, or a word that goes along the paths
  pub data Sent (i : ℕ) : Option Word → (ℕ → X) → List Event → (ℕ → X) → Type 0 where
    nothing : {σ : ℕ → X} → Sent i None σ [] σ
    one_word : {w : Word} {σ σ' : ℕ → X} {es : List Event} →
        Delivered (suc i) w.port w.value paths σ es σ' →
        Sent i (Some w) σ (event Output (suc i) w.port w.value ∷ es) σ'

  -- a move that ends in a quiet state is told
  abbrev pub landing : ℕ → X → List Event
  landing i x = cond ((rules i).busy x) [] (event Internal (suc i) 0 ((rules i).phase x) ∷ [])

  -- One act, its events, and the state that it ends in. Delays and words come only while no station is busy, and under
  -- step first a word only while none is due. A step takes its station's move: the word is delivered first.
  pub data Does : (ℕ → X) → Act → List Event → (ℕ → X) → Type 0 where
    delayed : {σ : ℕ → X} {d : Fraction} → Proper d → AllQuiet σ →
        ((i : ℕ) → i < n → (rules i).may_wait d (σ i) ≡ true) → Does σ (delay d) [] (λ i. (rules i).later d (σ i))
    worded : {σ σ' : ℕ → X} {p v : ℕ} {es : List Event} → AllQuiet σ → (order ≡ StepFirst → NoneDue σ) →
        Delivered 0 p v paths σ es σ' → Does σ (word p v) es σ'
    stepped : {σ σ' : ℕ → X} {es : List Event} (i : ℕ) (w : Option Word) (x : X) →
        Turn σ i → (rules i).Moves (σ i) w x → Sent i w σ es σ' → Does σ step (es ++ landing i x) (put σ' i x)

  -- A run: the acts lead, with all these events, from the one state to the other.
  pub data Run : (ℕ → X) → List Act → List Event → (ℕ → X) → Type 0 where
    ended : {σ : ℕ → X} → Run σ [] [] σ
    goes_on : {σ σ' τ : ℕ → X} {a : Act} {acts : List Act} {es fs : List Event} →
        Does σ a es σ' → Run σ' acts fs τ → Run σ (a ∷ acts) (es ++ fs) τ
