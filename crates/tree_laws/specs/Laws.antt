-- What the check of a book says of its tree, for both kinds of book.
use Rattle.std.specs.Prelude.{◌≡◌, ℕ, ◌<◌, true, false, ◌↔◌, List, map, length, None, Ok, nat_lt}
use Rattle.std.specs.List.{AllByRecursion}
use Rattle.book.specs.Chains.{whole_records}
use Rattle.book.specs.declared.term.BookKind.{BookKind}
use Rattle.records.specs.Fits.{Bytes}
use Rattle.structure.specs.Structure.{structure_of}
use Rattle.visits.specs.Smallest.{smallest}
use Rattle.fields.specs.Fields.{path_at}
use Rattle.chains.specs.Some.{among}
use Rattle.chains.specs.Paths.{path_faults}
use Rattle.semantics.specs.Limits.{LawfulPath}
use Rattle.semantics.specs.Books.{place_in}
use Rattle.book_check.specs.Check.{check_of}
use Rattle.tree_records.specs.TreeRecords.{stations_in, paths_in}

pub record LawsOfTrees : Type 0 where
  -- a book that is accepted is of the kind that its structure tells
  pub kinds : (b : List ℕ) (kind : BookKind) → check_of b ≡ Ok kind → structure_of b ≡ Ok kind
  -- a record is one of a chain exactly if its place is in the chain
  pub places : (ks : List ℕ) (k : ℕ) → among k ks ≡ true ↔ place_in ks k < length ks
  -- no path is found wrong exactly if every path of the tree is lawful
  pub paths : (b : List ℕ) → Bytes b → nat_lt 2000 (whole_records b) ≡ false →
      smallest (path_faults b) ≡ None ↔ AllByRecursion (LawfulPath (length (stations_in b))) (map (path_at b) (paths_in b))
