-- Records come back: what is written is read again, and what is read is written again as it was.
use Rattle.std.specs.Prelude.{◌≡◌, ℕ, ◌+◌, ◌*◌, ◌^◌, ◌<◌, List, [], ◌∷◌, ◌++◌, length, Some, Ok, Option, slice_index_or}
use Rattle.std.specs.List.{AllByRecursion}
use Rattle.book.specs.Bytes.{row}
use Rattle.book.specs.declared.term.BookKind.{BookKind}
use Rattle.book.specs.declared.term.BookKind.TheVariants.{Model, Automaton}
use Rattle.book.specs.declared.record.Head.{Head}
use Rattle.records.specs.Books.{head_bytes, book_bytes, record_of}
use Rattle.book.specs.declared.record.Record.{Record}
use Rattle.records.specs.Fits.{Bytes, Fits, ModelFits, AutomatonFits}
use Rattle.records.specs.Model.{decoded_model, encoded_model}
use Rattle.records.specs.Automaton.{decoded_automaton, encoded_automaton}

module _ {B : Type 0} (fits : B → Type 0) (decoded : List ℕ → Option (Record B)) (encoded : Record B → List ℕ) where
  -- a record that is written is read as it was
  abbrev pub IsReadBack : Type 0
  IsReadBack = (x : Record B) → Fits fits x → decoded (encoded x) ≡ Some x

  -- a row that is read is written as it was
  abbrev pub IsWrittenBack : Type 0
  IsWrittenBack = (r : List ℕ) (x : Record B) → Bytes r → decoded r ≡ Some x → encoded x ≡ r

  -- the rows of a book from record k on are read as these records
  abbrev pub ReadFrom : List ℕ → ℕ → List (Record B) → Type 0
  ReadFrom b k [] = Unit {0}
  ReadFrom b k (x ∷ xs) = (decoded (row b k) ≡ Some x) × ReadFrom b (k + 1) xs

  module _ (kind : BookKind) where
    -- every record of a book that is written is read as it was, whatever stands behind the book
    abbrev pub WrittenReads : Type 0
    WrittenReads =
        (head : Head) (xs : List (Record B)) (behind : List ℕ) → AllByRecursion (Fits fits) xs → length xs < 2 ^ 16
        → (k : ℕ) (x : Record B) → k < length xs → x ≡ slice_index_or xs k x → record_of decoded (book_bytes kind encoded head xs ++ behind) (k + 1) ≡ Ok x

    -- a book that is read record by record, and written again, has the same bytes
    abbrev pub ReadWrites : Type 0
    ReadWrites =
        (b : List ℕ) (head : Head) (xs : List (Record B)) → Bytes b → length b ≡ 32 * (length xs + 1)
        → row b 0 ≡ head_bytes kind (length xs) head → ReadFrom b 1 xs → book_bytes kind encoded head xs ≡ b

abbrev pub ModelRecordsReturn : Type 0
ModelRecordsReturn = IsReadBack ModelFits decoded_model encoded_model × IsWrittenBack ModelFits decoded_model encoded_model

abbrev pub AutomatonRecordsReturn : Type 0
AutomatonRecordsReturn = IsReadBack AutomatonFits decoded_automaton encoded_automaton × IsWrittenBack AutomatonFits decoded_automaton encoded_automaton

abbrev pub ModelBooksReturn : Type 0
ModelBooksReturn =
    WrittenReads ModelFits decoded_model encoded_model Model × ReadWrites ModelFits decoded_model encoded_model Model

abbrev pub AutomatonBooksReturn : Type 0
AutomatonBooksReturn =
    WrittenReads AutomatonFits decoded_automaton encoded_automaton Automaton × ReadWrites AutomatonFits decoded_automaton encoded_automaton Automaton
