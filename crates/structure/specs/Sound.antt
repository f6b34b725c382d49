-- What a book is whose structure is right, in the subject's own words.
use Rattle.std.specs.Prelude.{◌≡◌, ℕ, ◌+◌, ◌*◌, ◌≤◌, true, ◌⊎◌, List, length, Ok}
use Rattle.std.specs.List.{AllByRecursion}
use Rattle.book.specs.Bytes.{at, row}
use Rattle.book.specs.Terms.{book_byte, most_records, order_byte, kind_byte}
use Rattle.book.specs.declared.term.BookKind.{BookKind}
use Rattle.book.specs.declared.term.Order.{Order}
use Rattle.links.specs.declared.link.Link.{Link}
use Rattle.links.specs.Fields.{links_of}
use Rattle.links.specs.Naming.{named_from}
use Rattle.links.specs.Reached.{Reached}
use Rattle.structure.specs.Faults.{told_records, head_laid}
use Rattle.structure.specs.Structure.{laid_in, links_in, structure_of}

-- the index fields of record k of a book of that kind
abbrev pub links_at : BookKind → List ℕ → ℕ → List Link
links_at kind b = links_of (links_in kind) b

-- an index field names nothing, or a record of the book of the right kind
abbrev pub Right : List ℕ → ℕ → Link → Type 0
Right b n l = (l.to ≡ 0) ⊎ ((l.to ≤ n) × (at (row b l.to) 0 ≡ kind_byte l.kind))

pub record Sound (b : List ℕ) (kind : BookKind) : Type 0 where
  -- the head and its records are all that there is
  pub whole : length b ≡ 32 * (told_records b + 1)
  pub kind_told : at b 0 ≡ book_byte kind
  pub version_told : at b 1 ≡ 1
  pub order_told : (o : Order) × (at b 4 ≡ order_byte o)
  pub some_records : 1 ≤ told_records b
  pub few_records : told_records b ≤ most_records kind
  pub head_is_laid : head_laid (row b 0) ≡ true
  pub each_laid : (k : ℕ) → 1 ≤ k → k ≤ told_records b → laid_in kind (row b k) ≡ true
  pub each_right : (k : ℕ) → k ≤ told_records b → AllByRecursion (Right b (told_records b)) (links_at kind b k)
  -- by all index fields, the head's among them
  pub each_named_once : (k : ℕ) → 1 ≤ k → k ≤ told_records b → named_from (links_at kind b) k (told_records b + 1) 0 ≡ 1
  pub each_reached : (k : ℕ) → 1 ≤ k → k ≤ told_records b → Reached (links_at kind b) (told_records b) k

-- the check passes just the sound books
abbrev pub PassesSound : Type 0
PassesSound =
    (b : List ℕ) (kind : BookKind) → (structure_of b ≡ Ok kind → Sound b kind) × (Sound b kind → structure_of b ≡ Ok kind)
