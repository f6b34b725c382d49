-- The records of a book: their bytes, and what is known of them where the structure is right.
use Rattle.std.proofs.Common.{◌≡◌, ℕ, ◌+◌, ◌*◌, ◌<◌, ◌≤◌, false, ltb, List, take, drop, sym, ap, ◌∙◌, subst, ap₂, ⊎_elim, arith}
use Rattle.std.specs.List.{ContainsAt as Has, AllByRecursion}
use Rattle.std.proofs.lemmas.List.{get_or-drop, get_or-take, get_or_past, length-take}
use Rattle.std.proofs.ByRecursion.{all-has}
use Rattle.std.proofs.lemmas.Bool.{cases_lt, le-ltb}
use Rattle.book.specs.Bytes.{at, two, row}
use Rattle.book.specs.Chains.{whole_records}
use Rattle.book.specs.Terms.{most_records}
use Rattle.book.specs.declared.term.BookKind.{BookKind}
use Rattle.book.specs.declared.term.BookKind.TheVariants.{Model, Automaton}
use Rattle.records.specs.Fits.{Byte, Bytes}
use Rattle.links.specs.Queues.{Distinct}
use Rattle.structure.specs.Faults.{told_records}
use Rattle.structure.specs.Sound.{Sound}
use Rattle.fields.specs.Fields.{rest_of}
use Rattle.tree_records.specs.TreeRecords.{stations_in, phases_in, edges_in, TreeOf}

-- the bytes of a record, and those from 4 on
rest_at : (r : List ℕ) (i : ℕ) → at (drop 4 r) i ≡ at r (4 + i)
rest_at r i = get_or-drop 4 r i 0

pub rest_two : (r : List ℕ) (i : ℕ) → two (drop 4 r) i ≡ two r (4 + i)
rest_two r i =
    let next : 4 + (i + 1) ≡ 4 + i + 1 = omega arith in
    ap₂ (λ x y. 256 * x + y) (rest_at r i) (rest_at r (i + 1) ∙ ap (at r) next)

pub rest_byte : (b : List ℕ) → Bytes b → (k : ℕ) → Bytes (rest_of b k)
rest_byte b bytes k i =
    let d = drop (32 * k) b in
    subst Byte (sym (rest_at (row b k) i))
    (⊎_elim
    (λ (inside : 4 + i < 32). subst Byte (sym (get_or-take 32 d (4 + i) 0 inside ∙ get_or-drop (32 * k) b (4 + i) 0)) (bytes (32 * k + (4 + i))))
    (λ (past : 32 ≤ 4 + i). subst Byte (sym (get_or_past (take 32 d) (4 + i) 0 (omega (arith, length-take 32 d)))) (omega arith))
    (cases_lt (4 + i) 32))

-- a sound book is short enough for its chains to be followed
pub short : (b : List ℕ) (kind : BookKind) → Sound b kind → ltb 2000 (whole_records b) ≡ false
short b kind s = le-ltb 2000 (whole_records b) (go kind s.few_records)
  where
    go : (k : BookKind) → told_records b ≤ most_records k → whole_records b ≤ 2000
    go Model few = let whole = s.whole in omega arith
    go Automaton few = let whole = s.whole in omega arith

-- and no edge of a phase stands twice in its chain
pub edges_different : (b : List ℕ) (kind : BookKind) → TreeOf b kind → (s : ℕ) → Has (stations_in b) s → (p : ℕ) → Has (phases_in b s) p → Distinct (edges_in b p)
edges_different b kind tree s hs p hp =
    all-has (λ x. Distinct (edges_in b x)) (phases_in b s) p (all-has (λ x. AllByRecursion (λ y. Distinct (edges_in b y)) (phases_in b x)) (stations_in b) s tree.edges_apart hs) hp
