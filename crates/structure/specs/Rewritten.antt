-- A book whose structure is right, read record by record and written again, has the same bytes.
use Rattle.std.specs.Prelude.{◌≡◌, ℕ, List, length, Ok, Option}
use Rattle.book.specs.declared.record.Record.{Record}
use Rattle.book.specs.declared.term.BookKind.{BookKind}
use Rattle.book.specs.declared.term.BookKind.TheVariants.{Model, Automaton}
use Rattle.records.specs.Fits.{Bytes, ModelFits, AutomatonFits}
use Rattle.records.specs.Model.{decoded_model, encoded_model}
use Rattle.records.specs.Automaton.{decoded_automaton, encoded_automaton}
use Rattle.records.specs.Books.{book_bytes}
use Rattle.records.specs.Heads.{head_in}
use Rattle.records.specs.Returns.{ReadFrom}
use Rattle.structure.specs.Faults.{told_records}
use Rattle.structure.specs.Structure.{structure_of}

-- its records are read as some list, and the bytes written of the head and of that list are the book's
abbrev pub Rewritten : {B : Type 0} → BookKind → (B → Type 0) → (List ℕ → Option (Record B)) → (Record B → List ℕ) → List ℕ → Type 0
Rewritten {B} kind fits decoded encoded b =
    (xs : List (Record B)) × (length xs ≡ told_records b) × ReadFrom fits decoded encoded b 1 xs × (book_bytes kind encoded (head_in b) xs ≡ b)

abbrev pub SoundBooksRewritten : Type 0
SoundBooksRewritten =
    (b : List ℕ) → Bytes b
    → (structure_of b ≡ Ok Model → Rewritten Model ModelFits decoded_model encoded_model b)
    × (structure_of b ≡ Ok Automaton → Rewritten Automaton AutomatonFits decoded_automaton encoded_automaton b)
