-- The bytes of a printed book: how many records they hold, and what they are read as.
use Rattle.std.specs.Prelude.{◌≡◌, ◌+◌, ◌*◌, ◌≤◌, length}
use Rattle.semantics.specs.Trees.{ModelNet}
use Rattle.semantics.specs.LawfulModels.{LawfulModel}
use Rattle.semantics.specs.LawfulAutomata.{automata_records}
use Rattle.semantics.specs.Print.{print}
use Rattle.semantics.specs.Books.{read_automata}
use Rattle.semantics.specs.Rows.{printed_records, printed_book}

-- A lawful model net, which has at most 1,000 records, is printed as 1 to 2,000 records: as many as the printed tree
-- takes. The bytes are those records and a head.
pub record FitsABook (m : ModelNet) : Type 0 where
  pub as_many : length (printed_records m) ≡ automata_records (print m)
  pub some_record : 1 ≤ length (printed_records m)
  pub few_records : length (printed_records m) ≤ 2000
  pub bytes : length (printed_book m) ≡ 32 * (length (printed_records m) + 1)

abbrev pub PrintedFits : Type 0
PrintedFits = (m : ModelNet) → LawfulModel m → FitsABook m

-- The bytes, read along their chains as any automaton book is, give the printed tree.
abbrev pub PrintedReadsBack : Type 0
PrintedReadsBack = (m : ModelNet) → LawfulModel m → read_automata (printed_book m) ≡ print m
