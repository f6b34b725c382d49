-- Books come back, written and read, and read and written.
use Rattle.std.proofs.Common.{◌≡◌, ℕ, zero, suc, ◌+◌, ◌-◌, ◌*◌, ◌/◌, ◌<◌, ◌≤◌, min, cond, List, [], ◌∷◌, ◌++◌, length, get_or, take, drop, Some, Err, Option, sym, refl, ap, ◌∙◌, subst, ⊎_elim, append_assoc, arith, lit<, length-append}
use Rattle.std.proofs.lemmas.List.{take_at, drop_at, drop-drop, take-append-drop, get_or-take, get_or-drop, get_or_past, drop_all, length-take}
use Rattle.std.proofs.ByRecursion.{All-get_or}
use Rattle.std.proofs.lemmas.Bool.{ne_eqb, le-ltb, or_from, cases_lt}
use Rattle.book.specs.Bytes.{two, row}
use Rattle.book.specs.Chains.{whole_records}
use Rattle.book.specs.Refusals.{refused}
use Rattle.book.specs.declared.refusal.Fault.TheVariants as faults
use Rattle.book.specs.declared.term.BookKind.{BookKind}
use Rattle.book.specs.declared.record.Head.{Head}
use Rattle.book.specs.declared.record.Record.{Record}
use Rattle.records.specs.Fits.{Byte, Bytes, Fits, ModelFits, AutomatonFits}
use Rattle.records.specs.Books.{book_bytes, rows, laid_out}
use Rattle.records.specs.Returns.{IsReadBack, IsWrittenBack, ReadFrom, WrittenReads, ReadWrites, ModelBooksReturn, AutomatonBooksReturn}
use Rattle.book.specs.declared.term.BookKind.TheVariants.{Model, Automaton}
use Rattle.book.specs.declared.record.ModelBody.{ModelBody}
use Rattle.book.specs.declared.record.ModelBody.TheVariants as model
use Rattle.book.specs.declared.record.AutomatonBody.{AutomatonBody}
use Rattle.book.specs.declared.record.AutomatonBody.TheVariants as automata
use Rattle.records.specs.Model.{decoded_model, encoded_model, model_rest}
use Rattle.records.specs.Automaton.{decoded_automaton, encoded_automaton, automaton_rest}
use Rattle.records.proofs.ReadsBack.{model_reads_back, automaton_reads_back}
use Rattle.records.proofs.WritesBack.{model_writes_back, automaton_writes_back}
use Rattle.records.proofs.Numbers.{two_back}

module _ {B : Type 0} (fits : B → Type 0) (decoded : List ℕ → Option (Record B)) (encoded : Record B → List ℕ)
    (long : (x : Record B) → length (encoded x) ≡ 32) (reads : IsReadBack fits decoded encoded) (writes : IsWrittenBack fits decoded encoded) where
  rows_long : (xs : List (Record B)) → length (rows encoded xs) ≡ 32 * length xs
  rows_long [] = refl
  rows_long (x ∷ xs) = omega (arith, length-append (encoded x) (rows encoded xs), long x, rows_long xs)

  -- row k of rows
  row_at : (xs : List (Record B)) (t : List ℕ) (k : ℕ) (x : Record B) → k < length xs → x ≡ get_or xs k x → take 32 (drop (32 * k) (rows encoded xs ++ t)) ≡ encoded x
  row_at [] t k x h e = absurd (omega arith)
  row_at (y ∷ ys) t zero x h e =
      ap (take 32) (append_assoc (encoded y) (rows encoded ys) t) ∙ take_at (encoded y) (rows encoded ys ++ t) 32 (long y) ∙ ap encoded (sym e)
  row_at (y ∷ ys) t (suc k) x h e =
      let n : 32 * suc k ≡ 32 + 32 * k = omega arith in
      ap (λ m. take 32 (drop m ((encoded y ++ rows encoded ys) ++ t))) n
      ∙ ap (take 32) (sym (drop-drop (32 * k) 32 ((encoded y ++ rows encoded ys) ++ t)))
      ∙ ap (λ l. take 32 (drop (32 * k) (drop 32 l))) (append_assoc (encoded y) (rows encoded ys) t)
      ∙ ap (λ l. take 32 (drop (32 * k) l)) (drop_at (encoded y) (rows encoded ys ++ t) 32 (long y))
      ∙ row_at ys t k x (omega arith) e

  module _ (kind : BookKind) where
    book_row : (head : Head) (xs : List (Record B)) (t : List ℕ) (k : ℕ) (x : Record B) → k < length xs → x ≡ get_or xs k x → row (book_bytes kind encoded head xs ++ t) (k + 1) ≡ encoded x
    book_row head xs t k x h e =
        let n : 32 * (k + 1) ≡ 32 + 32 * k = omega arith in
        let b = book_bytes kind encoded head xs ++ t in
        ap (λ m. take 32 (drop m b)) n
        ∙ ap (take 32) (sym (drop-drop (32 * k) 32 b))
        ∙ row_at xs t k x h e

    pub written_reads : WrittenReads fits decoded encoded kind
    written_reads head xs t all few k x h e =
        let b = book_bytes kind encoded head xs ++ t in
        let fit : Fits fits x = subst (Fits fits) (sym e) (All-get_or (Fits fits) xs k x h all) in
        let there : decoded (row b (k + 1)) ≡ Some x = ap decoded (book_row head xs t k x h e) ∙ reads x fit in
        let count : two b 2 ≡ length xs = two_back (length xs) few in
        let size : length b ≡ 32 + (length (rows encoded xs) + length t) = omega (arith, length-append (book_bytes kind encoded head xs) t) in
        let whole : k + 1 ≤ length b / 32 - 1 = omega (arith, rows_long xs, size) in
        let inside : k + 1 ≤ min (two b 2) (whole_records b) = omega (arith, count, whole) in
        ap (λ test. cond test (Err (refused faults.Links (k + 1))) (laid_out (k + 1) (decoded (row b (k + 1)))))
        (or_from _ _ (ne_eqb (k + 1) 0 (λ z. absurd (omega arith))) (le-ltb (min (two b 2) (whole_records b)) (k + 1) inside))
        ∙ ap (laid_out (k + 1)) there

  row_bytes_fit : (b : List ℕ) (k : ℕ) → Bytes b → Bytes (row b k)
  row_bytes_fit b k bytes i =
      let d = drop (32 * k) b in
      ⊎_elim
      (λ (inside : i < 32). subst Byte (sym (get_or-take 32 d i 0 inside ∙ get_or-drop (32 * k) b i 0)) (bytes (32 * k + i)))
      (λ (past : 32 ≤ i). subst Byte (sym (get_or_past (take 32 d) i 0 (omega (arith, length-take 32 d)))) (lit< tt))
      (cases_lt i 32)

  -- the rows from record k on are what their records are written as
  rows_again : (b : List ℕ) (xs : List (Record B)) (k : ℕ) → Bytes b → length b ≡ 32 * (length xs + k) → ReadFrom fits decoded encoded b k xs → rows encoded xs ≡ drop (32 * k) b
  rows_again b [] k bytes size r = sym (drop_all (32 * k) b (omega arith))
  rows_again b (x ∷ xs) k bytes size r =
      let here : encoded x ≡ row b k = writes (row b k) x (row_bytes_fit b k bytes) r.0 in
      let n : 32 * (k + 1) ≡ 32 * k + 32 = omega arith in
      let later : rows encoded xs ≡ drop (32 * k + 32) b = rows_again b xs (k + 1) bytes (omega arith) r.1 ∙ ap (λ m. drop m b) n in
      ap (λ l. l ++ rows encoded xs) here
      ∙ ap (λ l. row b k ++ l) (later ∙ sym (drop-drop 32 (32 * k) b))
      ∙ take-append-drop 32 (drop (32 * k) b)

  module _ (kind : BookKind) where
    pub read_writes : ReadWrites fits decoded encoded kind
    read_writes b head xs bytes size first r =
        ap (λ l. l ++ rows encoded xs) (sym first) ∙ ap (λ l. take 32 b ++ l) (rows_again b xs 1 bytes size r) ∙ take-append-drop 32 b

model_long : (x : Record ModelBody) → length (encoded_model x) ≡ 32
model_long x = go x.body
  where
    go : (y : ModelBody) → suc (suc (suc (suc (length (model_rest y))))) ≡ 32
    go (model.Station s) = refl
    go (model.Phase p) = refl
    go (model.Edge e) = refl
    go (model.Word w) = refl
    go (model.Path p) = refl

automaton_long : (x : Record AutomatonBody) → length (encoded_automaton x) ≡ 32
automaton_long x = go x.body
  where
    go : (y : AutomatonBody) → suc (suc (suc (suc (length (automaton_rest y))))) ≡ 32
    go (automata.Automaton a) = refl
    go (automata.Location l) = refl
    go (automata.Transition t) = refl
    go (automata.Path p) = refl

pub model_books_return : ModelBooksReturn
model_books_return =
    (written_reads ModelFits decoded_model encoded_model model_long model_reads_back model_writes_back Model, read_writes ModelFits decoded_model encoded_model model_long model_reads_back model_writes_back Model)

pub automaton_books_return : AutomatonBooksReturn
automaton_books_return =
    (written_reads AutomatonFits decoded_automaton encoded_automaton automaton_long automaton_reads_back automaton_writes_back Automaton, read_writes AutomatonFits decoded_automaton encoded_automaton automaton_long automaton_reads_back automaton_writes_back Automaton)
