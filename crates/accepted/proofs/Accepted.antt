-- The trees of accepted books are lawful, and so their meanings are sound.
use Rattle.std.proofs.Common.{◌≡◌, ℕ, true, false, List, Ok, Err, Result, refl, ap, ◌∙◌}
use Rattle.book.specs.declared.refusal.Refusal.{Refusal}
use Rattle.book.specs.declared.term.BookKind.{BookKind}
use Rattle.book.specs.declared.term.BookKind.TheVariants.{Model, Automaton}
use Rattle.records.specs.Fits.{Bytes}
use Rattle.std.proofs.lemmas.Bool.{both_ways}
use Rattle.book_check.specs.Check.{check_of}
use Rattle.semantics.specs.Books.{read_model, read_automata}
use Rattle.semantics.specs.LawfulModels.{LawfulModel}
use Rattle.semantics.specs.LawfulAutomata.{LawfulAutomata}
use Rattle.semantics.specs.Machine.{Sound}
use Rattle.semantics.specs.Meanings.{model_meaning, automata_meaning}
use Rattle.semantics.proofs.Sound.{meanings_sound}
use Rattle.structure.specs.Sound as structure
use Rattle.lawful_models.proofs.Accepted.{accepted_models_are_lawful}
use Rattle.lawful_automata.proofs.Accepted.{accepted_automata_are_lawful}
use Rattle.accepted.specs.Accepted.{accepts, answers, same_kind}

-- what it is that the test passes
pub accepts_kind : (b : List ℕ) (kind : BookKind) → accepts b kind ≡ true → check_of b ≡ Ok kind
unfolding accepts
accepts_kind b kind h = go (check_of b) kind h
  where
    go : (r : Result BookKind Refusal) (kind : BookKind) → answers r kind ≡ true → r ≡ Ok kind
    go (Ok Model) Model h = refl
    go (Ok Model) Automaton h = absurd (both_ways false refl h)
    go (Ok Automaton) Model h = absurd (both_ways false refl h)
    go (Ok Automaton) Automaton h = refl
    go (Err e) kind h = absurd (both_ways false refl h)

pub kind_accepts : (b : List ℕ) (kind : BookKind) → check_of b ≡ Ok kind → accepts b kind ≡ true
unfolding accepts
kind_accepts b kind h = ap (λ r. answers r kind) h ∙ same kind
  where
    same : (kind : BookKind) → same_kind kind kind ≡ true
    same Model = refl
    same Automaton = refl

-- of a model book
pub model_structure : (b : List ℕ) → Bytes b → accepts b Model ≡ true → structure.Sound b Model
model_structure b bytes h = ((accepted_models_are_lawful b bytes).0 (accepts_kind b Model h)).0.sound

pub model_lawful : (b : List ℕ) → Bytes b → accepts b Model ≡ true → LawfulModel (read_model b)
model_lawful b bytes h = ((accepted_models_are_lawful b bytes).0 (accepts_kind b Model h)).1

pub model_sound : (b : List ℕ) → Bytes b → accepts b Model ≡ true → Sound (model_meaning (read_model b))
model_sound b bytes h = meanings_sound.models (read_model b) (model_lawful b bytes h)

-- of an automaton book
pub automata_structure : (b : List ℕ) → Bytes b → accepts b Automaton ≡ true → structure.Sound b Automaton
automata_structure b bytes h = ((accepted_automata_are_lawful b bytes).0 (accepts_kind b Automaton h)).0

pub automata_lawful_tree : (b : List ℕ) → Bytes b → accepts b Automaton ≡ true → LawfulAutomata (read_automata b)
automata_lawful_tree b bytes h = ((accepted_automata_are_lawful b bytes).0 (accepts_kind b Automaton h)).1

pub automata_sound : (b : List ℕ) → Bytes b → accepts b Automaton ≡ true → Sound (automata_meaning (read_automata b))
automata_sound b bytes h = meanings_sound.automata (read_automata b) (automata_lawful_tree b bytes h)
