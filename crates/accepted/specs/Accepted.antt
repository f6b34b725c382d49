-- Books that the check accepts, as a test.
use Rattle.std.specs.Prelude.{ℕ, Bool, true, false, List, Ok, Err, Result}
use Rattle.book.specs.declared.refusal.Refusal.{Refusal}
use Rattle.book.specs.declared.term.BookKind.{BookKind}
use Rattle.book.specs.declared.term.BookKind.TheVariants.{Model, Automaton}
use Rattle.book_check.specs.Check.{check_of}

abbrev pub same_kind : BookKind → BookKind → Bool
same_kind Model Model = true
same_kind Model Automaton = false
same_kind Automaton Model = false
same_kind Automaton Automaton = true

abbrev pub answers : Result BookKind Refusal → BookKind → Bool
answers (Ok k) kind = same_kind k kind
answers (Err e) kind = false

-- the check answers that the bytes are a book of that kind
unfoldable pub accepts : List ℕ → BookKind → Bool
accepts b kind = answers (check_of b) kind
