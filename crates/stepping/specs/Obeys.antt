-- A list of calls that is obeyed, as a list of acts that rules allow.
use Rattle.std.specs.Prelude.{◌≡◌, ℕ, ◌+◌, ◌^◌, ◌≤◌, List, [], ◌∷◌, ◌++◌, Ok}
use Rattle.semantics.specs.Times.{fraction}
use Rattle.semantics.specs.Trees.{Path}
use Rattle.semantics.specs.Events.{Event}
use Rattle.semantics.specs.Net.{Net, NetState}
use Rattle.semantics.specs.Calls.{Call, wait, word, step, room, answer_call, left_by}
use Rattle.semantics.specs.Runs.{Act, delay}
use Rattle.semantics.specs.Runs as runs

-- The act that a call asks for: a wait of d parts, q to a net tick, is a delay of d / q net ticks.
abbrev pub act_of : ℕ → Call → Act
act_of q (wait d) = delay (fraction d q)
act_of q (word port value slots) = runs.word port value
act_of q (step slots) = runs.step

abbrev pub acts_of : ℕ → List Call → List Act
acts_of q [] = []
acts_of q (c ∷ cs) = act_of q c ∷ acts_of q cs

module _ (net : Net) (paths : List Path) where
  -- every call of the list is obeyed, with these events in all
  abbrev pub AllObeyed : List Call → NetState → List Event → Type 0
  AllObeyed [] s es = es ≡ []
  AllObeyed (c ∷ cs) s es =
      (fs : List Event) × (gs : List Event)
      × ((answer_call net paths c s).answer ≡ Ok fs) × AllObeyed cs (answer_call net paths c s).state gs × (es ≡ fs ++ gs)

  -- a call has room for its events, and the total stays in its range
  abbrev pub Enough : Call → NetState → Type 0
  Enough (wait d) s = s.total + d ≤ 10 ^ 15
  Enough (word port value slots) s = room paths ≤ slots
  Enough (step slots) s = room paths ≤ slots

  abbrev pub AllEnough : List Call → NetState → Type 0
  AllEnough [] s = Unit {0}
  AllEnough (c ∷ cs) s = Enough c s × AllEnough cs (answer_call net paths c s).state

  -- From the state s the calls are obeyed, with these events, exactly where their acts are allowed; and the states that
  -- both then come to correspond. Only for the way back must there be room and a total in range.
  pub record StepsBy {X : Type 0} (s : NetState) (cs : List Call) (es : List Event) (Allowed : (ℕ → X) → Type 0) (Stands : NetState → (ℕ → X) → Type 0) : Type 0 where
    pub obeyed_allowed : AllObeyed cs s es → (τ : ℕ → X) × (Allowed τ × Stands (left_by net paths cs s) τ)
    pub allowed_obeyed : AllEnough cs s → (τ : ℕ → X) → Allowed τ → AllObeyed cs s es × Stands (left_by net paths cs s) τ
