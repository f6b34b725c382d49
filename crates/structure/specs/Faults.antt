-- What is wrong with a book's length, its head, a record's layout, and a record's links.
use Rattle.std.specs.Prelude.{ℕ, ◌+◌, ◌*◌, Bool, false, cond, not, ◌&&◌, ◌||◌, List, [], ◌∷◌, length, is_some, ◌==◌, nat_lt}
use Rattle.std.specs.List.{list_any}
use Rattle.book.specs.Bytes.{at, two, row, zeros}
use Rattle.book.specs.Terms.{most_records, order_of_byte, kind_byte}
use Rattle.book.specs.declared.term.BookKind.{BookKind}
use Rattle.links.specs.declared.link.Link.{Link}
use Rattle.links.specs.Naming.{named_from, member}

-- the number of records behind the head, as the head tells it
abbrev pub told_records : List ℕ → ℕ
told_records b = two b 2

-- under 64 bytes, or not the bytes of the head and its records
abbrev pub wrong_length : List ℕ → Bool
wrong_length b = nat_lt (length b) 64 || not (length b == 32 * (told_records b + 1))

-- the version, the order or the number of records of a book of that kind
abbrev pub wrong_head : BookKind → List ℕ → Bool
wrong_head kind b =
    not (at b 1 == 1)
    || (not (is_some (order_of_byte (at b 4))) || (told_records b == 0 || nat_lt (most_records kind) (told_records b)))

-- the head's bytes without a meaning are zero
abbrev pub head_laid : List ℕ → Bool
head_laid r = zeros r 5 6 && zeros r 10 32

-- record i of the book is not laid out as it should be; `laid` is the test of a record's 32 bytes
abbrev pub unlaid : (List ℕ → Bool) → List ℕ → ℕ → Bool
unlaid laid b i =
    let r = row b i in
    let head = head_laid r in
    let other = laid r in
    not (cond (i == 0) head other)

-- an index field goes past the last record n, or to a record of another kind
abbrev pub wrong_link : List ℕ → ℕ → Link → Bool
wrong_link b n l =
    let astray = nat_lt n l.to || not (at (row b l.to) 0 == kind_byte l.kind) in
    not (l.to == 0) && astray

abbrev pub some_link : (Link → Bool) → List Link → Bool
some_link test ls = list_any test ls

-- record i has a wrong index field; or it is not the head, and it is not named exactly once by all
-- index fields or not among the records `seen` that are reached
abbrev pub ill_linked : (ℕ → List Link) → List ℕ → ℕ → List ℕ → ℕ → Bool
ill_linked links b n seen i =
    let wrong = some_link (wrong_link b n) (links i) in
    let unlinked = not (named_from links i (n + 1) 0 == 1) || not (member i seen) in
    wrong || (not (i == 0) && unlinked)
