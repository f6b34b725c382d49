-- Rows put into a buffer, one after the other.
use Rattle.std.proofs.Common.{◌≡◌, ℕ, suc, ◌+◌, ◌*◌, ◌<◌, List, [], ◌∷◌, ◌++◌, length, get_or, drop, sym, refl, ap, ◌∙◌, append_assoc, arith, length-append}
use Rattle.std.proofs.lemmas.List.{take_at, drop_at, drop-drop, drop_more}
use Rattle.book.specs.declared.record.Record.{Record}
use Rattle.book.specs.declared.record.Head.{Head}
use Rattle.book.specs.declared.term.BookKind.{BookKind}
use Rattle.records.specs.Books.{head_bytes, book_bytes, rows, put_row, put_rows}

-- a row put in behind what is written already
put_after : (p r t : List ℕ) (k : ℕ) → length p ≡ 32 * k → put_row (p ++ t) k r ≡ (p ++ r) ++ drop 32 t
put_after p r t k e =
    ap (λ l. l ++ (r ++ drop (32 * k + 32) (p ++ t))) (take_at p t (32 * k) e)
    ∙ ap (λ l. p ++ (r ++ l)) (sym (drop-drop 32 (32 * k) (p ++ t)) ∙ ap (drop 32) (drop_at p t (32 * k) e))
    ∙ sym (append_assoc p r (drop 32 t))

module _ {B : Type 0} (encoded : Record B → List ℕ) where
  -- one record of the list more
  pub put_more : (rs : List (Record B)) (i : ℕ) (x : Record B) (out out' row : List ℕ) → i < length rs → x ≡ get_or rs i x → row ≡ encoded x → out' ≡ put_row out (i + 1) row
      → put_rows encoded out' (i + 1 + 1) (drop (i + 1) rs) ≡ put_rows encoded out (i + 1) (drop i rs)
  put_more rs i x out out' row h is made put =
      let here : drop i rs ≡ x ∷ drop (i + 1) rs = drop_more rs i x h ∙ ap (λ y. y ∷ drop (i + 1) rs) (sym is) in
      ap (λ o. put_rows encoded o (i + 1 + 1) (drop (i + 1) rs)) (put ∙ ap (put_row out (i + 1)) made)
      ∙ sym (ap (put_rows encoded out (i + 1)) here)

  module _ (long : (x : Record B) → length (encoded x) ≡ 32) where
    -- all of them, behind what is written already
    pub put_all : (xs : List (Record B)) (p t : List ℕ) (k : ℕ) → length p ≡ 32 * k → put_rows encoded (p ++ t) k xs ≡ p ++ (rows encoded xs ++ drop (32 * length xs) t)
    put_all [] p t k e = refl
    put_all (x ∷ xs) p t k e =
        let r = encoded x in
        let e' : length (p ++ r) ≡ 32 * (k + 1) = omega (arith, length-append p r, long x) in
        let n : 32 + 32 * length xs ≡ 32 * suc (length xs) = omega arith in
        ap (λ o. put_rows encoded o (k + 1) xs) (put_after p r t k e)
        ∙ put_all xs (p ++ r) (drop 32 t) (k + 1) e'
        ∙ append_assoc p r (rows encoded xs ++ drop (32 * length xs) (drop 32 t))
        ∙ ap (λ l. p ++ (r ++ (rows encoded xs ++ l))) (drop-drop (32 * length xs) 32 t ∙ ap (λ m. drop m t) n)
        ∙ ap (λ l. p ++ l) (sym (append_assoc r (rows encoded xs) (drop (32 * suc (length xs)) t)))

    -- a head, and then all records
    pub book_put : (kind : BookKind) (head : Head) (rs : List (Record B)) (old h out out' : List ℕ)
        → h ≡ head_bytes kind (length rs) head → out ≡ h ++ drop 32 old → out' ≡ put_rows encoded out 1 rs
        → out' ≡ book_bytes kind encoded head rs ++ drop (32 * (length rs + 1)) old
    book_put kind head rs old h out out' is first rest =
        let H = head_bytes kind (length rs) head in
        let n : 32 + 32 * length rs ≡ 32 * (length rs + 1) = omega arith in
        rest
        ∙ ap (λ o. put_rows encoded o 1 rs) (first ∙ ap (λ l. l ++ drop 32 old) is)
        ∙ put_all rs H (drop 32 old) 1 refl
        ∙ ap (λ l. H ++ (rows encoded rs ++ l)) (drop-drop (32 * length rs) 32 old ∙ ap (λ m. drop m old) n)
        ∙ sym (append_assoc H (rows encoded rs) (drop (32 * (length rs + 1)) old))
