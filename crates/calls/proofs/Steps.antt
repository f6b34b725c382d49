-- A step, refused or taken.
use Rattle.std.proofs.Common.{◌≡◌, ℕ, ◌<◌, ◌≤◌, ltb, List, ◌++◌, length, drop, Some, None, Ok, Err, Option, sym, refl, ap, ◌∙◌, ap₂, arith, take-append-drop}
use Rattle.std.proofs.lemmas.List.{length-take-le}
use Rattle.std.specs.Option.{option_or}
use Rattle.book.specs.declared.refusal.Refusal.{Refusal}
use Rattle.book.specs.declared.term.Path.{Path}
use Rattle.book.specs.declared.event.Event.{Event}
use Rattle.semantics.specs.declared.state.StationState.{StationState}
use Rattle.semantics.specs.Machine.{Meaning}
use Rattle.semantics.specs.Net.{Net, NetState, Passed, busy_at, due_at}
use Rattle.semantics.proofs.Lowest.{is_lowest}
use Rattle.semantics.specs.Calls.{lowest, at_zero, bad_paths, room, step_of, answer_call, step}
use Rattle.delivery.specs.Telling.{Told}
use Rattle.calls.specs.Slots.{turn, opening}
use Rattle.calls.proofs.Paths.{refused_first, passed_first}

module _ (net : Net) (ps : List Path) (slots : ℕ) (s : NetState) where
  pub step_refused : (e : Refusal) → Err e ≡ opening (length net.stations) ps slots → record { answer = Err e; state = s } ≡ answer_call net ps (step slots) s
  step_refused e h = refused_first s _ (bad_paths (length net.stations) ps) (at_zero (ltb slots (room ps))) e h

  pub step_goes : Ok tt ≡ opening (length net.stations) ps slots → (o : Option ℕ) → o ≡ turn net.stations net.parts s.stations (length net.stations) →
      step_of net ps s o ≡ answer_call net ps (step slots) s
  step_goes passed o t = ap (step_of net ps s) t ∙ passed_first s _ (bad_paths (length net.stations) ps) (at_zero (ltb slots (room ps))) passed

-- what is told from the first slot on: as many events as the answer says, and then what stood there
pub told_count : (x : Passed) (es es' : List Event) (σ : List StationState) (k r : ℕ) → r ≤ length es' → Told x es es' σ 0 k r → r ≡ length x.news
told_count x es es' σ k r h t = sym (length-take-le r es' h) ∙ ap length t.front

pub told_written : (x : Passed) (es es' : List Event) (σ : List StationState) (k r : ℕ) → r ≤ length es' → Told x es es' σ 0 k r →
    es' ≡ x.news ++ drop (length x.news) es
told_written x es es' σ k r h t =
    sym (take-append-drop r es') ∙ ap₂ ◌++◌ t.front t.rest ∙ ap (λ n. x.news ++ drop n es) (told_count x es es' σ k r h t)

-- the place that a step acts for is one of the n
pub turn_under : (ms : Meaning) (q : ℕ) (σ : List StationState) (n i : ℕ) → Some i ≡ turn ms q σ n → i < n
turn_under ms q σ n i e = go (lowest (busy_at ms σ) 0 n) refl e
  where
    go : (o : Option ℕ) → lowest (busy_at ms σ) 0 n ≡ o → Some i ≡ option_or o (lowest (due_at ms q σ) 0 n) → i < n
    go (Some k) h e = let l = (is_lowest (busy_at ms σ) 0 n i (h ∙ sym e)).under in omega arith
    go None h e = let l = (is_lowest (due_at ms q σ) 0 n i (sym e)).under in omega arith
