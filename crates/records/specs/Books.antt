-- A book written as bytes, and its records read back.
use Rattle.std.specs.Prelude.{ℕ, ◌+◌, ◌*◌, min, cond, ◌||◌, List, [], ◌∷◌, ◌++◌, length, take, drop, replicate, Some, None, Ok, Err, Option, Result, ◌==◌, nat_lt}
use Rattle.book.specs.Bytes.{two, two_bytes, row}
use Rattle.book.specs.Chains.{whole_records}
use Rattle.book.specs.Terms.{book_byte, most_records, order_byte}
use Rattle.book.specs.Refusals.{refused}
use Rattle.book.specs.declared.refusal.Fault.TheVariants as faults
use Rattle.book.specs.declared.refusal.Refusal.{Refusal}
use Rattle.book.specs.declared.term.BookKind.{BookKind}
use Rattle.book.specs.declared.record.Head.{Head}
use Rattle.book.specs.declared.record.Record.{Record}

-- the head's 32 bytes: 0 the kind of book, 1 is 1, 2–3 the number of records, 4 the order, 6–7 the first station, 8–9 the first path
abbrev pub head_bytes : BookKind → ℕ → Head → List ℕ
head_bytes kind n head =
    book_byte kind ∷ 1 ∷ (two_bytes n ++ (order_byte head.order ∷ 0 ∷ (two_bytes head.first_station ++ (two_bytes head.first_path ++ replicate 22 0))))

module _ {B : Type 0} where
  -- the rows of records, one after the other
  abbrev pub rows : (Record B → List ℕ) → List (Record B) → List ℕ
  rows encoded [] = []
  rows encoded (x ∷ xs) = encoded x ++ rows encoded xs

  -- a book: its head, then its records
  abbrev pub book_bytes : BookKind → (Record B → List ℕ) → Head → List (Record B) → List ℕ
  book_bytes kind encoded head xs = head_bytes kind (length xs) head ++ rows encoded xs

  -- the record of a row that was decoded, or the refusal of its layout
  abbrev pub laid_out : ℕ → Option (Record B) → Result (Record B) Refusal
  laid_out k None = Err (refused faults.Layout k)
  laid_out k (Some x) = Ok x

  -- record k: there is none of that number where it is 0, past the head's number, or not wholly in the bytes
  abbrev pub record_of : (List ℕ → Option (Record B)) → List ℕ → ℕ → Result (Record B) Refusal
  record_of decoded b k =
      let there = laid_out k (decoded (row b k)) in
      cond (k == 0 || nat_lt (min (two b 2) (whole_records b)) k) (Err (refused faults.Links k)) there

-- what writing n records of that kind into so much room answers: the bytes written, or why not
abbrev pub write_answer : BookKind → ℕ → ℕ → Result ℕ Refusal
write_answer kind n room =
    let written = Ok (32 * (n + 1)) in
    let fits = cond (nat_lt room (32 * (n + 1))) (Err (refused faults.Room 0)) written in
    cond (n == 0 || nat_lt (most_records kind) n) (Err (refused faults.Head 0)) fits

-- the buffer with a row put in at record k
abbrev pub put_row : List ℕ → ℕ → List ℕ → List ℕ
put_row out k r = take (32 * k) out ++ (r ++ drop (32 * k + 32) out)

-- the buffer with the rows of records put in from record k on
abbrev pub put_rows : {B : Type 0} → (Record B → List ℕ) → List ℕ → ℕ → List (Record B) → List ℕ
put_rows encoded out k [] = out
put_rows encoded out k (x ∷ xs) = put_rows encoded (put_row out k (encoded x)) (k + 1) xs
