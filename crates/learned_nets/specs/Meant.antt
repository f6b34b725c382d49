-- A net in code can learn nothing of a number that is no stance. That changes nothing: over a sound machine, what can be
-- learned of a net does all that is meant by it.
use Rattle.std.specs.Prelude.{◌≡◌, ℕ, List}
use Rattle.semantics.specs.Times.{Order}
use Rattle.semantics.specs.Trees.{Path}
use Rattle.semantics.specs.Machine.{Meaning, Sound}
use Rattle.semantics.specs.Net.{NetState}
use Rattle.semantics.specs.Calls.{Made, Call, make, answer_call, answers, left_by, telling}
use Rattle.delivery.specs.Known.{learned_net}
use Rattle.stepping.specs.AnyMachine.{Reached}

-- From the first state of a making: in every state that calls lead to, each with paths of its own, the next call has the
-- same answer and leaves the same state, and every station tells the same. So a list of calls, under any paths, has the
-- same answers, leaves the same state, and every station then tells the same.
pub record AsMeant (made : Made) : Type 0 where
  pub one_call : (s : NetState) → Reached made.net made.state s → (paths : List Path) (c : Call) →
      answer_call (learned_net made.net) paths c s ≡ answer_call made.net paths c s
  pub one_telling : (s : NetState) → Reached made.net made.state s → (k : ℕ) → telling (learned_net made.net) s k ≡ telling made.net s k
  pub all_answers : (paths : List Path) (cs : List Call) → answers (learned_net made.net) paths cs made.state ≡ answers made.net paths cs made.state
  pub all_left : (paths : List Path) (cs : List Call) → left_by (learned_net made.net) paths cs made.state ≡ left_by made.net paths cs made.state
  pub all_tellings : (paths : List Path) (cs : List Call) (k : ℕ) →
      telling (learned_net made.net) (left_by (learned_net made.net) paths cs made.state) k ≡ telling made.net (left_by made.net paths cs made.state) k

-- for every sound machine, and whatever its net is made with
abbrev pub NetsAnswerAsMeant : Type 0
NetsAnswerAsMeant = (ms : Meaning) → Sound ms → (ps : List Path) (o : Order) (q slots : ℕ) → AsMeant (make ms ps o q slots)
