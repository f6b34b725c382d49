-- A book passes exactly if it is sound.
use Rattle.std.proofs.Common.{◌≡◌, ℕ, ◌+◌, ◌≤◌, Bool, true, false, cond, not, eqb, ltb, List, [], ◌∷◌, length, is_some, Some, None, sym, refl, ap, ◌∙◌, inl, inr, ⊎_elim, arith}
use Rattle.std.specs.List.{AllByRecursion}
use Rattle.std.proofs.lemmas.Bool.{or_parts, or_from, and_cases, and_left, and_right, not-false, not_from_true, not_from_false, eqb-true, eqb-false, eq-eqb, ne_eqb, ltb-false, le-ltb, both_ways, cases_eq}
use Rattle.book.specs.Bytes.{at, row}
use Rattle.book.specs.Terms.{book_byte, book_of_byte, most_records, order_byte, order_of_byte}
use Rattle.book.specs.declared.term.BookKind.{BookKind}
use Rattle.book.specs.declared.term.BookKind.TheVariants.{Model, Automaton}
use Rattle.book.specs.declared.term.Order.{Order}
use Rattle.book.specs.declared.term.Order.TheVariants.{StepFirst, WordFirst}
use Rattle.links.specs.declared.link.Link.{Link}
use Rattle.links.specs.Naming.{named_from, reached}
use Rattle.links.specs.Reached.{Reached}
use Rattle.links.proofs.Closure.{reach_is_least}
use Rattle.structure.specs.Faults.{told_records, head_laid, unlaid, wrong_link, some_link, ill_linked}
use Rattle.structure.specs.Structure.{laid_in}
use Rattle.structure.specs.Sound.{links_at, Right, Sound, PassesSound}
use Rattle.structure.proofs.Stages.{Passed, passed, passes, none_fails, fails_none}

-- the kind and the order by their bytes
kind_from : (x : ℕ) (kind : BookKind) → book_of_byte x ≡ Some kind → x ≡ book_byte kind
kind_from x kind e = go (eqb x 77) (eqb x 65) refl refl e
  where
    go : (m a : Bool) → eqb x 77 ≡ m → eqb x 65 ≡ a → cond m (Some Model) (cond a (Some Automaton) None) ≡ Some kind → x ≡ book_byte kind
    go true a is _ f = let same : Model ≡ kind = cc f in eqb-true x 77 is ∙ ap book_byte same
    go false true _ is f = let same : Automaton ≡ kind = cc f in eqb-true x 65 is ∙ ap book_byte same
    go false false _ _ f = let z : ◌≡◌ {A = ℕ} 0 1 = cc f in absurd (omega arith)

kind_to : (x : ℕ) (kind : BookKind) → x ≡ book_byte kind → book_of_byte x ≡ Some kind
kind_to x Model e = ap book_of_byte e
kind_to x Automaton e = ap book_of_byte e

order_from : (x : ℕ) → is_some (order_of_byte x) ≡ true → (o : Order) × (x ≡ order_byte o)
order_from x e = go (eqb x 0) (eqb x 1) refl refl e
  where
    go : (s w : Bool) → eqb x 0 ≡ s → eqb x 1 ≡ w → is_some (cond s (Some StepFirst) (cond w (Some WordFirst) None)) ≡ true → (o : Order) × (x ≡ order_byte o)
    go true w is _ f = (StepFirst, eqb-true x 0 is)
    go false true _ is f = (WordFirst, eqb-true x 1 is)
    go false false _ _ f = absurd (both_ways false refl f)

order_to : (x : ℕ) (o : Order) → x ≡ order_byte o → is_some (order_of_byte x) ≡ true
order_to x StepFirst e = ap (λ y. is_some (order_of_byte y)) e
order_to x WordFirst e = ap (λ y. is_some (order_of_byte y)) e

-- an index field that is not wrong is right
module _ (b : List ℕ) (n : ℕ) where
  right_from : (l : Link) → wrong_link b n l ≡ false → Right b n l
  right_from l e =
      ⊎_elim {C = Right b n l}
      (λ none. inl (eqb-true l.to 0 (not-false _ none)))
      (λ fine. let parts = or_parts (ltb n l.to) _ fine in inr (ltb-false n l.to parts.0, eqb-true _ _ (not-false _ parts.1)))
      (and_cases (not (eqb l.to 0)) _ e)

  right_to : (l : Link) → Right b n l → wrong_link b n l ≡ false
  right_to l r =
      ⊎_elim {C = wrong_link b n l ≡ false}
      (λ none. and_left _ _ (not_from_true _ (eq-eqb l.to 0 none)))
      (λ fine. and_right (not (eqb l.to 0)) _ (or_from (ltb n l.to) _ (le-ltb n l.to fine.0) (not_from_true _ (eq-eqb _ _ fine.1))))
      r

  all_right : (ls : List Link) → some_link (wrong_link b n) ls ≡ false → AllByRecursion (Right b n) ls
  all_right [] e = tt
  all_right (l ∷ ls) e = let parts = or_parts (wrong_link b n l) _ e in (right_from l parts.0, all_right ls parts.1)

  none_wrong : (ls : List Link) → AllByRecursion (Right b n) ls → some_link (wrong_link b n) ls ≡ false
  none_wrong [] a = refl
  none_wrong (l ∷ ls) a = or_from (wrong_link b n l) _ (right_to l a.0) (none_wrong ls a.1)

-- the layout of each record
module _ (laid : List ℕ → Bool) (b : List ℕ) where
  laid_at : (i : ℕ) → i ≡ 0 → unlaid laid b i ≡ not (head_laid (row b i))
  laid_at i e = ap (λ t. not (cond t (head_laid (row b i)) (laid (row b i)))) (eq-eqb i 0 e)

  laid_past : (i : ℕ) → (i ≡ 0 → ⊥) → unlaid laid b i ≡ not (laid (row b i))
  laid_past i e = ap (λ t. not (cond t (head_laid (row b i)) (laid (row b i)))) (ne_eqb i 0 e)

-- the links of each record
module _ (links : ℕ → List Link) (b : List ℕ) (n : ℕ) where
  abbrev seen : List ℕ
  seen = reached links n

  linked_right : (i : ℕ) → ill_linked links b n seen i ≡ false → AllByRecursion (Right b n) (links i)
  linked_right i e = all_right b n (links i) (or_parts (some_link (wrong_link b n) (links i)) _ e).0

  linked_there : (i : ℕ) → ill_linked links b n seen i ≡ false → 1 ≤ i → (named_from links i (n + 1) 0 ≡ 1) × Reached links n i
  linked_there i e low =
      let later = (or_parts (some_link (wrong_link b n) (links i)) _ e).1 in
      let some : not (eqb i 0) ≡ true = not_from_false _ (ne_eqb i 0 (λ z. absurd (omega arith))) in
      ⊎_elim {C = (named_from links i (n + 1) 0 ≡ 1) × Reached links n i}
      (λ head. absurd (both_ways _ head some))
      (λ there.
      let parts = or_parts (not (eqb (named_from links i (n + 1) 0) 1)) _ there in
      (eqb-true _ 1 (not-false _ parts.0), ((reach_is_least links n).lists i).0 (not-false _ parts.1)))
      (and_cases (not (eqb i 0)) _ later)

  links_right : (i : ℕ) → AllByRecursion (Right b n) (links i) → (1 ≤ i → (named_from links i (n + 1) 0 ≡ 1) × Reached links n i) → ill_linked links b n seen i ≡ false
  links_right i right there =
      or_from (some_link (wrong_link b n) (links i)) _ (none_wrong b n (links i) right)
      (⊎_elim
      (λ (head : i ≡ 0). and_left _ _ (not_from_true _ (eq-eqb i 0 head)))
      (λ (other : i ≡ 0 → ⊥).
      let known = there (omega arith) in
      and_right (not (eqb i 0)) _ (or_from _ _ (not_from_true _ (eq-eqb _ 1 known.0)) (not_from_true _ (((reach_is_least links n).lists i).1 known.1))))
      (cases_eq i 0))

sound : (b : List ℕ) (kind : BookKind) → Passed b kind → Sound b kind
sound b kind p =
    let n = told_records b in
    let long = or_parts (ltb (length b) 64) _ p.length_right in
    let version = or_parts (not (eqb (at b 1) 1)) _ p.head_right in
    let order = or_parts (not (is_some (order_of_byte (at b 4)))) _ version.1 in
    let count = or_parts (eqb n 0) _ order.1 in
    let some = eqb-false n 0 count.0 in
    let laid = none_fails (unlaid (laid_in kind) b) n p.laid in
    let linked = none_fails (ill_linked (links_at kind b) b n (reached (links_at kind b) n)) n p.linked in
    record {
      whole = eqb-true _ _ (not-false _ long.1);
      kind_told = kind_from (at b 0) kind p.kind_known;
      version_told = eqb-true _ _ (not-false _ version.0);
      order_told = order_from (at b 4) (not-false _ order.0);
      some_records = omega arith;
      few_records = ltb-false (most_records kind) n count.1;
      head_is_laid = not-false _ (sym (laid_at (laid_in kind) b 0 refl) ∙ laid 0 (omega arith));
      each_laid = λ k low high. not-false _ (sym (laid_past (laid_in kind) b k (λ z. absurd (omega arith))) ∙ laid k high);
      each_right = λ k high. linked_right (links_at kind b) b n k (linked k high);
      each_named_once = λ k low high. (linked_there (links_at kind b) b n k (linked k high) low).0;
      each_reached = λ k low high. (linked_there (links_at kind b) b n k (linked k high) low).1;
    }

accepted : (b : List ℕ) (kind : BookKind) → Sound b kind → Passed b kind
accepted b kind s =
    let n = told_records b in
    record {
      length_right = or_from (ltb (length b) 64) _ (le-ltb (length b) 64 (omega (arith, s.whole, s.some_records))) (not_from_true _ (eq-eqb _ _ s.whole));
      kind_known = kind_to (at b 0) kind s.kind_told;
      head_right = or_from _ _ (not_from_true _ (eq-eqb _ _ s.version_told))
          (or_from _ _ (not_from_true _ (order_to (at b 4) s.order_told.0 s.order_told.1))
          (or_from _ _ (ne_eqb n 0 (λ z. absurd (omega (arith, s.some_records)))) (le-ltb (most_records kind) n s.few_records)));
      laid = fails_none (unlaid (laid_in kind) b) n (λ i high. ⊎_elim
          (λ (head : i ≡ 0). laid_at (laid_in kind) b i head ∙ not_from_true _ (ap (λ k. head_laid (row b k)) head ∙ s.head_is_laid))
          (λ (other : i ≡ 0 → ⊥). laid_past (laid_in kind) b i other ∙ not_from_true _ (s.each_laid i (omega arith) high))
          (cases_eq i 0));
      linked = fails_none (ill_linked (links_at kind b) b n (reached (links_at kind b) n)) n (λ i high. links_right (links_at kind b) b n i (s.each_right i high) (λ low. (s.each_named_once i low high, s.each_reached i low high)));
    }

pub passes_sound : PassesSound
passes_sound b kind = (λ e. sound b kind (passed b kind e), λ s. passes b kind (accepted b kind s))
