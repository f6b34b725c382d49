-- Which automaton books are accepted.
use Rattle.std.specs.Prelude.{◌≡◌, ℕ, ◌↔◌, List, Ok}
use Rattle.book.specs.declared.term.BookKind.TheVariants.{Automaton}
use Rattle.records.specs.Fits.{Bytes}
use Rattle.structure.specs.Sound.{Sound}
use Rattle.semantics.specs.Books.{read_automata}
use Rattle.semantics.specs.LawfulAutomata.{LawfulAutomata}
use Rattle.book_check.specs.Check.{check_of}

-- An automaton book is accepted exactly if its structure is right and its tree is lawful.
abbrev pub AcceptedAutomataAreLawful : Type 0
AcceptedAutomataAreLawful =
    (b : List ℕ) → Bytes b → check_of b ≡ Ok Automaton ↔ Sound b Automaton × LawfulAutomata (read_automata b)
