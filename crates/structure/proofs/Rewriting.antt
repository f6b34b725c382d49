-- The records of a sound book, and its head, are written as they were read.
use Rattle.std.proofs.Common.{◌≡◌, ℕ, zero, suc, ◌+◌, ◌*◌, ◌<◌, ◌≤◌, true, false, List, [], ◌∷◌, ◌++◌, length, replicate, is_some, Some, None, Option, unwrap_or, sym, refl, ap, ◌∙◌, subst, ⊎_elim, arith, lit<}
use Rattle.std.proofs.lemmas.List.{get_or-take, get_or_past, length-take-le}
use Rattle.std.proofs.lemmas.Bool.{and_parts, both_ways, cases_lt}
use Rattle.book.specs.Bytes.{at, two, row, two_bytes, zeros}
use Rattle.book.specs.Terms.{book_byte, order_byte, order_of_byte}
use Rattle.book.specs.declared.record.Record.{Record}
use Rattle.book.specs.declared.term.BookKind.{BookKind}
use Rattle.book.specs.declared.term.BookKind.TheVariants.{Model, Automaton}
use Rattle.book.specs.declared.term.Order.{Order}
use Rattle.book.specs.declared.term.Order.TheVariants.{StepFirst, WordFirst}
use Rattle.records.specs.Fits.{Byte, Bytes, ModelFits, AutomatonFits}
use Rattle.records.specs.Model.{decoded_model, encoded_model}
use Rattle.records.specs.Automaton.{decoded_automaton, encoded_automaton}
use Rattle.records.specs.Books.{head_bytes}
use Rattle.records.specs.Heads.{order_in, head_in}
use Rattle.records.specs.Returns.{ReadFrom, ReadWrites}
use Rattle.records.proofs.BooksBack.{model_books_return, automaton_books_return}
use Rattle.records.proofs.Same.{same_two, same_four}
use Rattle.records.proofs.Spelled.{byte_spelled, two_field, zero_field, end_field}
use Rattle.structure.specs.Faults.{told_records}
use Rattle.structure.specs.Structure.{laid_in}
use Rattle.structure.specs.Sound.{Sound}
use Rattle.structure.specs.Rewritten.{Rewritten, SoundBooksRewritten}
use Rattle.structure.proofs.Soundness.{passes_sound}

order_again : (b : List ℕ) (o : Order) → at b 4 ≡ order_byte o → order_byte (order_in b) ≡ at b 4
order_again b o e = ap (λ x. order_byte (unwrap_or (order_of_byte x) StepFirst)) e ∙ go o ∙ sym e
  where
    go : (o : Order) → order_byte (unwrap_or (order_of_byte (order_byte o)) StepFirst) ≡ order_byte o
    go StepFirst = refl
    go WordFirst = refl

-- the first row is written as it was
module _ (b : List ℕ) (kind : BookKind) (bytes : Bytes b) (s : Sound b kind) where
  r : List ℕ
  r = row b 0

  long : length r ≡ 32
  unfolding r
  long = length-take-le 32 b (omega (arith, s.whole))

  at_row : (i : ℕ) → i < 32 → at r i ≡ at b i
  unfolding r
  at_row i h = get_or-take 32 b i 0 h

  two_row : (i : ℕ) → i + 1 < 32 → two r i ≡ two b i
  two_row i h = same_two (λ x y. 256 * x + y) (at_row i (omega arith)) (at_row (i + 1) h)

  row_bytes : Bytes r
  row_bytes i =
      ⊎_elim
      (λ (inside : i < 32). subst Byte (sym (at_row i inside)) (bytes i))
      (λ (past : 32 ≤ i). subst Byte (sym (get_or_past r i 0 (omega (arith, long)))) (lit< tt))
      (cases_lt i 32)

  spelled : at r 0 ∷ at r 1 ∷ (two_bytes (two r 2) ++ (at r 4 ∷ (replicate 1 0 ++ (two_bytes (two r 6) ++ (two_bytes (two r 8) ++ replicate 22 0))))) ≡ r
  unfolding r
  spelled =
      let z = and_parts (zeros r 5 6) (zeros r 10 32) s.head_is_laid in
      byte_spelled r row_bytes 0 _ (omega (arith, long)) (byte_spelled r row_bytes 1 _ (omega (arith, long)) (two_field r row_bytes 2 _ (omega (arith, long))
      (byte_spelled r row_bytes 4 _ (omega (arith, long)) (zero_field r row_bytes 5 1 _ (omega (arith, long)) z.0
      (two_field r row_bytes 6 _ (omega (arith, long)) (two_field r row_bytes 8 _ (omega (arith, long)) (end_field r row_bytes 10 22 (sym long) z.1)))))))

  pub head_again : (n : ℕ) → n ≡ told_records b → row b 0 ≡ head_bytes kind n (head_in b)
  unfolding r
  head_again n e =
      sym spelled
      ∙ same_four (λ w x y z. w ∷ x ∷ (two_bytes y ++ (z ∷ 0 ∷ (two_bytes (two r 6) ++ (two_bytes (two r 8) ++ replicate 22 0)))))
      (at_row 0 (lit< tt) ∙ s.kind_told) (at_row 1 (lit< tt) ∙ s.version_told) (two_row 2 (lit< tt) ∙ sym e) (at_row 4 (lit< tt) ∙ sym (order_again b s.order_told.0 s.order_told.1))
      ∙ same_two (λ x y. book_byte kind ∷ 1 ∷ (two_bytes n ++ (order_byte (order_in b) ∷ 0 ∷ (two_bytes x ++ (two_bytes y ++ replicate 22 0))))) (two_row 6 (lit< tt)) (two_row 8 (lit< tt))

-- a list of the records that every row is read as
module _ {B : Type 0} (fits : B → Type 0) (decoded : List ℕ → Option (Record B)) (encoded : Record B → List ℕ) (b : List ℕ) where
  read_all : (m k : ℕ) → ((i : ℕ) → k ≤ i → i < k + m → is_some (decoded (row b i)) ≡ true) → (xs : List (Record B)) × (length xs ≡ m) × ReadFrom fits decoded encoded b k xs
  read_all zero k laid = ([], refl, tt)
  read_all (suc m) k laid =
      let rest = read_all m (k + 1) (λ i low high. laid i (omega arith) (omega arith)) in
      go (decoded (row b k)) refl (laid k (omega arith) (omega arith)) rest.0 rest.1 rest.2
    where
      go : (o : Option (Record B)) → decoded (row b k) ≡ o → is_some o ≡ true → (xs : List (Record B)) → length xs ≡ m → ReadFrom fits decoded encoded b (k + 1) xs
          → (ys : List (Record B)) × (length ys ≡ suc m) × ReadFrom fits decoded encoded b k ys
      go None e t xs n f = absurd (both_ways false refl t)
      go (Some x) e t xs n f = (x ∷ xs, ap suc n, (e, f))

  rewritten : (kind : BookKind) → Bytes b → Sound b kind → ReadWrites fits decoded encoded kind → ((i : ℕ) → laid_in kind (row b i) ≡ is_some (decoded (row b i))) → Rewritten kind fits decoded encoded b
  rewritten kind bytes s back same =
      let n = told_records b in
      let all = read_all n 1 (λ i low high. sym (same i) ∙ s.each_laid i low (omega arith)) in
      let size : length b ≡ 32 * (length all.0 + 1) = s.whole ∙ ap (λ m. 32 * (m + 1)) (sym all.1) in
      (all.0, all.1, all.2, back b (head_in b) all.0 bytes size (head_again b kind bytes s (length all.0) all.1) all.2)

pub sound_books_rewritten : SoundBooksRewritten
sound_books_rewritten b bytes = (
  λ e. rewritten ModelFits decoded_model encoded_model b Model bytes ((passes_sound b Model).0 e) model_books_return.1 (λ i. refl),
  λ e. rewritten AutomatonFits decoded_automaton encoded_automaton b Automaton bytes ((passes_sound b Automaton).0 e) automaton_books_return.1 (λ i. refl),
)
