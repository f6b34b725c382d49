-- A word, refused or delivered.
use Rattle.std.proofs.Common.{◌≡◌, ℕ, suc, ◌<◌, ltb, List, length, Some, None, Ok, Err, Option, sym, refl, ap, ◌∙◌, ap₂, arith}
use Rattle.book.specs.declared.refusal.Refusal.{Refusal}
use Rattle.book.specs.declared.refusal.Fault.TheVariants.{Busy, Due}
use Rattle.book.specs.declared.term.Path.{Path}
use Rattle.book.specs.declared.term.Order.{Order}
use Rattle.book.specs.declared.term.Order.TheVariants.{StepFirst, WordFirst}
use Rattle.semantics.specs.declared.state.StationState.{StationState}
use Rattle.semantics.specs.Machine.{Meaning}
use Rattle.semantics.proofs.Lowest.{is_lowest}
use Rattle.semantics.proofs.Options.{some_not_none}
use Rattle.semantics.specs.Net.{Net, NetState, busy_at, due_at, deliver}
use Rattle.semantics.specs.Calls.{Outcome, lowest, number, unless, at_zero, bad_paths, room, declined, answered, lowest_busy, due_before_words, answer_call, word}
use Rattle.calls.specs.Slots.{due_among, opening}
use Rattle.calls.proofs.Paths.{refused_first, passed_first}

module _ (net : Net) (ps : List Path) (port value slots : ℕ) (s : NetState) where
  -- the answer after the first tests, by the busy and the due station that were found
  abbrev word_by : Option ℕ → Option ℕ → Outcome
  word_by busy due =
      unless (number busy) (declined Busy s)
      (unless (number due) (declined Due s)
      (answered s (deliver net.stations net.parts ps 0 port value s.stations)))

  due_same : (o : Order) → due_among net.stations o net.parts s.stations (length net.stations) ≡ due_before_words net o s
  due_same StepFirst = refl
  due_same WordFirst = refl

  pub word_refused : (e : Refusal) → Err e ≡ opening (length net.stations) ps slots → record { answer = Err e; state = s } ≡ answer_call net ps (word port value slots) s
  word_refused e h = refused_first s _ (bad_paths (length net.stations) ps) (at_zero (ltb slots (room ps))) e h

  module _ (passed : Ok tt ≡ opening (length net.stations) ps slots) where
    word_is : (busy due : Option ℕ) → busy ≡ lowest_busy net s → due ≡ due_among net.stations net.order net.parts s.stations (length net.stations) →
        word_by busy due ≡ answer_call net ps (word port value slots) s
    word_is busy due b d =
        ap₂ word_by b (d ∙ due_same net.order) ∙ passed_first s _ (bad_paths (length net.stations) ps) (at_zero (ltb slots (room ps))) passed

    pub word_at_busy : (i k : ℕ) → k ≡ suc i → Some i ≡ lowest_busy net s → declined Busy s k ≡ answer_call net ps (word port value slots) s
    word_at_busy i k z b = ap (declined Busy s) z ∙ word_is (Some i) _ b refl

    pub word_at_due : (i k : ℕ) → k ≡ suc i → None ≡ lowest_busy net s → Some i ≡ due_among net.stations net.order net.parts s.stations (length net.stations) →
        declined Due s k ≡ answer_call net ps (word port value slots) s
    word_at_due i k z b d = ap (declined Due s) z ∙ word_is None (Some i) b d

    pub word_goes : None ≡ lowest_busy net s → None ≡ due_among net.stations net.order net.parts s.stations (length net.stations) →
        answered s (deliver net.stations net.parts ps 0 port value s.stations) ≡ answer_call net ps (word port value slots) s
    word_goes b d = word_is None None b d

pub busy_under : (ms : Meaning) (σ : List StationState) (n i : ℕ) → Some i ≡ lowest (busy_at ms σ) 0 n → i < n
busy_under ms σ n i e = let l = (is_lowest (busy_at ms σ) 0 n i (sym e)).under in omega arith

pub due_under : (ms : Meaning) (o : Order) (q : ℕ) (σ : List StationState) (n i : ℕ) → Some i ≡ due_among ms o q σ n → i < n
due_under ms StepFirst q σ n i e = let l = (is_lowest (due_at ms q σ) 0 n i (sym e)).under in omega arith
due_under ms WordFirst q σ n i e = absurd (some_not_none i e)
