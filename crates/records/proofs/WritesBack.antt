-- What is read of a row is written back as it was.
use Rattle.std.proofs.Common.{◌≡◌, ℕ, zero, suc, ◌+◌, ◌-◌, ◌<◌, ◌≤◌, Bool, true, false, cond, ◌&&◌, ◌||◌, eqb, leb, List, ◌∷◌, ◌++◌, length, drop, replicate, Some, None, Option, sym, refl, ap, ◌∙◌, subst, ⊎_elim, arith, lit<, lit≤, length-drop}
use Rattle.std.proofs.lemmas.Bool.{and_parts, eqb-true, leb-true, both_ways, cases_eq}
use Rattle.book.specs.Bytes.{at, two, four, eight, two_bytes, four_bytes, eight_bytes, zeros}
use Rattle.book.specs.Terms.{kind_byte}
use Rattle.book.specs.declared.record.Label.{Label}
use Rattle.book.specs.declared.record.Label.TheVariants.{Silent, Hears, Sends}
use Rattle.book.specs.declared.record.Record.{Record}
use Rattle.book.specs.declared.record.ModelBody.{ModelBody}
use Rattle.book.specs.declared.record.ModelBody.TheVariants as model
use Rattle.book.specs.declared.record.AutomatonBody.{AutomatonBody}
use Rattle.book.specs.declared.record.AutomatonBody.TheVariants as automata
use Rattle.records.specs.Fields.{decoded_by, with_next, given, fraction_in, fraction_bytes, path_in, path_laid, path_rest, window_laid, marked, bit}
use Rattle.records.specs.Fits.{Byte, Bytes, ModelFits, AutomatonFits}
use Rattle.records.specs.Model.{decoded_model, encoded_model, model_body, model_fields, model_laid, model_kind, model_marks, model_rest, station_in, station_laid, phase_in, phase_laid, edge_in, edge_laid, word_in, word_laid, no_fraction}
use Rattle.records.specs.Automaton.{decoded_automaton, encoded_automaton, automaton_body, automaton_fields, automaton_rows_laid, automaton_kind, automaton_marks, automaton_rest, automaton_in, automaton_laid, bound_in, bound_ticks, bound_marks, location_in, location_laid, label_in, label_laid, label_byte, label_port, label_lowest, label_highest, transition_in, transition_laid}
use Rattle.records.specs.Returns.{IsWrittenBack}
use Rattle.records.proofs.Spelled.{byte_spelled, two_field, four_field, eight_field, zero_field, end_field}
use Rattle.std.proofs.lemmas.List.{get_or-drop}
use Rattle.book.proofs.Zeros.{zeros_more}
use Rattle.records.proofs.Same.{same_two, same_four}
use Rattle.records.proofs.Windows.{marks_again, high_again, eight_cases}

-- bytes 6 to 9 of a transition, and what follows
abbrev label_row : List ℕ → Label → List ℕ
label_row t l = label_byte l ∷ label_port l ∷ label_lowest l ∷ label_highest l ∷ t

-- the twenty-eight bytes of each kind of record
module _ (b : List ℕ) (long : length b ≡ 28) (bytes : Bytes b) where
  one : (i : ℕ) (t : List ℕ) → i < 28 → t ≡ drop (i + 1) b → at b i ∷ t ≡ drop i b
  one i t h e = byte_spelled b bytes i t (omega arith) e

  two_at : (i : ℕ) (t : List ℕ) → i + 2 ≤ 28 → t ≡ drop (i + 2) b → two_bytes (two b i) ++ t ≡ drop i b
  two_at i t h e = two_field b bytes i t (omega arith) e

  four_at : (i : ℕ) (t : List ℕ) → i + 4 ≤ 28 → t ≡ drop (i + 4) b → four_bytes (four b i) ++ t ≡ drop i b
  four_at i t h e = four_field b bytes i t (omega arith) e

  eight_at : (i : ℕ) (t : List ℕ) → i + 8 ≤ 28 → t ≡ drop (i + 8) b → eight_bytes (eight b i) ++ t ≡ drop i b
  eight_at i t h e = eight_field b bytes i t (omega arith) e

  zero_at : (i k : ℕ) (t : List ℕ) → i + k ≤ 28 → zeros b i (i + k) ≡ true → t ≡ drop (i + k) b → replicate k 0 ++ t ≡ drop i b
  zero_at i k t h z e = zero_field b bytes i k t (omega arith) z e

  end_at : (i k : ℕ) → i + k ≡ 28 → zeros b i (i + k) ≡ true → replicate k 0 ≡ drop i b
  end_at i k h z = end_field b bytes i k (omega arith) z

  pub path_again : zeros b 4 28 ≡ true → path_rest (path_in b) ≡ b
  path_again z = one 0 _ (lit< tt) (one 1 _ (lit< tt) (one 2 _ (lit< tt) (one 3 _ (lit< tt) (end_at 4 24 refl z))))

  station_again : zeros b 4 28 ≡ true → model_rest (model.Station (station_in b)) ≡ b
  station_again z = two_at 0 _ (lit≤ tt) (two_at 2 _ (lit≤ tt) (end_at 4 24 refl z))

  phase_again : zeros b 6 8 ≡ true → zeros b 16 28 ≡ true → model_rest (model.Phase (phase_in b)) ≡ b
  phase_again y z =
      two_at 0 _ (lit≤ tt) (two_at 2 _ (lit≤ tt) (two_at 4 _ (lit≤ tt) (zero_at 6 2 _ (lit≤ tt) y
      (four_at 8 _ (lit≤ tt) (four_at 12 _ (lit≤ tt) (end_at 16 12 refl z))))))

  word_again : zeros b 2 28 ≡ true → model_rest (model.Word (word_in b)) ≡ b
  word_again z = one 0 _ (lit< tt) (one 1 _ (lit< tt) (end_at 2 26 refl z))

  -- a number whose bytes are zero
  zero_byte : (w i : ℕ) → zeros b i (i + w) ≡ true → (k : ℕ) → k < w → at b (i + k) ≡ 0
  zero_byte zero i z k h = absurd (omega arith)
  zero_byte (suc w) i z k h =
      let more : zeros b i (i + suc w) ≡ (eqb (at b i) 0 && zeros b (i + 1) (i + suc w)) = zeros_more b i (i + suc w) (omega arith) in
      let p = and_parts (eqb (at b i) 0) _ (sym more ∙ z) in
      let s : i + suc w ≡ i + 1 + w = omega arith in
      ⊎_elim
      (λ (e : k ≡ 0). let j : i + k ≡ i = omega arith in ap (at b) j ∙ eqb-true (at b i) 0 p.0)
      (λ (n : k ≡ 0 → ⊥).
      let j : i + k ≡ i + 1 + (k - 1) = omega arith in
      ap (at b) j ∙ zero_byte w (i + 1) (ap (λ x. zeros b (i + 1) x) (sym s) ∙ p.1) (k - 1) (omega arith))
      (cases_eq k 0)

  zero_four : (i w : ℕ) → zeros b i (i + w) ≡ true → (k : ℕ) → k + 4 ≤ w → four b (i + k) ≡ 0
  zero_four i w z k h =
      let c = zero_byte w i z in
      let p : i + k + 1 ≡ i + (k + 1) = omega arith in
      let q : i + k + 2 ≡ i + (k + 2) = omega arith in
      let r : i + k + 2 + 1 ≡ i + (k + 3) = omega arith in
      omega (arith, c k (omega arith), ap (at b) p ∙ c (k + 1) (omega arith), ap (at b) q ∙ c (k + 2) (omega arith), ap (at b) r ∙ c (k + 3) (omega arith))

  no_fraction_again : zeros b 16 24 ≡ true → no_fraction ≡ fraction_in b 20
  no_fraction_again z = same_two (λ x y. record { numerator = x; denominator = y }) (sym (zero_four 16 8 z 0 (lit≤ tt))) (sym (zero_four 16 8 z 4 (lit≤ tt)))

  edge_again : (m : ℕ) → edge_laid m b ≡ true → model_rest (model.Edge (edge_in m b)) ≡ b
  edge_again m e =
      let p = and_parts (window_laid m (zeros b 16 24)) _ e in
      let q = and_parts (zeros b 5 8) _ p.1 in
      let h = high_again no_fraction m (zeros b 16 24) (fraction_in b 12) (fraction_in b 20) p.0 no_fraction_again in
      two_at 0 _ (lit≤ tt) (one 2 _ (lit< tt) (one 3 _ (lit< tt) (one 4 _ (lit< tt) (zero_at 5 3 _ (lit≤ tt) q.0
      (four_at 8 _ (lit≤ tt) (four_at 12 _ (lit≤ tt)
      (ap (λ f. fraction_bytes f ++ replicate 4 0) h ∙ four_at 16 _ (lit≤ tt) (four_at 20 _ (lit≤ tt) (end_at 24 4 refl q.1)))))))))

  automaton_again : zeros b 8 28 ≡ true → automaton_rest (automata.Automaton (automaton_in b)) ≡ b
  automaton_again z = two_at 0 _ (lit≤ tt) (two_at 2 _ (lit≤ tt) (four_at 4 _ (lit≤ tt) (end_at 8 20 refl z)))

  bound_again : (m : ℕ) → leb m 3 ≡ true → (marked m 2 || zeros b 8 16) ≡ true → bound_ticks (bound_in m b) ≡ eight b 8
  bound_again m few e =
      let zeroes : zeros b 8 16 ≡ true → 0 ≡ eight b 8 = λ z. omega (arith, zero_four 8 8 z 0 (lit≤ tt), zero_four 8 8 z 4 (lit≤ tt)) in
      let less : m ≤ 3 = leb-true m 3 few in
      eight_cases (λ n. (marked n 2 || zeros b 8 16) ≡ true → n ≤ 3 → bound_ticks (bound_in n b) ≡ eight b 8)
      (λ z _. zeroes z) (λ z _. zeroes z) (λ _ _. refl) (λ _ _. refl)
      (λ _ h. absurd (omega arith)) (λ _ h. absurd (omega arith)) (λ _ h. absurd (omega arith)) (λ _ h. absurd (omega arith))
      m (omega arith) e less

  location_again : (m : ℕ) → location_laid m b ≡ true → automaton_rest (automata.Location (location_in m b)) ≡ b
  location_again m e =
      let p = and_parts (leb m 3) _ e in
      let q = and_parts (marked m 2 || zeros b 8 16) _ p.1 in
      let r = and_parts (zeros b 5 8) _ q.1 in
      two_at 0 _ (lit≤ tt) (two_at 2 _ (lit≤ tt) (one 4 _ (lit< tt) (zero_at 5 3 _ (lit≤ tt) r.0
      (ap (λ n. eight_bytes n ++ replicate 12 0) (bound_again m p.0 q.0) ∙ eight_at 8 _ (lit≤ tt) (end_at 16 12 refl r.1)))))

  -- bytes 6 to 9 of a transition
  label_again : (t : List ℕ) → label_laid b ≡ true → t ≡ drop 6 b → label_row t (label_in b) ≡ drop 2 b
  label_again t e s = go (eqb (at b 2) 0) (eqb (at b 2) 1) (eqb (at b 2) 2) refl refl refl e
    where
      spelled : at b 2 ∷ at b 3 ∷ at b 4 ∷ at b 5 ∷ t ≡ drop 2 b
      spelled = one 2 _ (lit< tt) (one 3 _ (lit< tt) (one 4 _ (lit< tt) (one 5 _ (lit< tt) s)))

      go : (x y z : Bool) → eqb (at b 2) 0 ≡ x → eqb (at b 2) 1 ≡ y → eqb (at b 2) 2 ≡ z
          → cond x (zeros b 3 6) (cond y true (cond z (eqb (at b 4) (at b 5)) false)) ≡ true
          → label_row t (cond x Silent (cond y (Hears (at b 3) (at b 4) (at b 5)) (Sends (at b 3) (at b 4)))) ≡ drop 2 b
      go true y z p q r f =
          let c = zero_byte 3 3 f in
          let k : label_row t Silent ≡ at b 2 ∷ at b 3 ∷ at b 4 ∷ at b 5 ∷ t =
          same_four (λ w x y z. w ∷ x ∷ y ∷ z ∷ t) (sym (eqb-true (at b 2) 0 p)) (sym (c 0 (lit< tt))) (sym (c 1 (lit< tt))) (sym (c 2 (lit< tt))) in
          k ∙ spelled
      go false true z p q r f = ap (λ w. w ∷ at b 3 ∷ at b 4 ∷ at b 5 ∷ t) (sym (eqb-true (at b 2) 1 q)) ∙ spelled
      go false false true p q r f =
          same_two (λ w x. w ∷ at b 3 ∷ at b 4 ∷ x ∷ t) (sym (eqb-true (at b 2) 2 r)) (eqb-true (at b 4) (at b 5) f) ∙ spelled
      go false false false p q r f = absurd (both_ways false refl f)

  reset_again : (n : ℕ) → leb n 1 ≡ true → bit (eqb n 1) 1 ≡ n
  reset_again zero e = refl
  reset_again (suc zero) e = refl
  reset_again (suc (suc n)) e = let h : suc (suc n) ≤ 1 = leb-true (suc (suc n)) 1 e in absurd (omega arith)

  transition_again : (m : ℕ) → transition_laid m b ≡ true → automaton_rest (automata.Transition (transition_in m b)) ≡ b
  transition_again m e =
      let p = and_parts (window_laid m (zeros b 16 24)) _ e in
      let q = and_parts (label_laid b) _ p.1 in
      let r = and_parts (leb (at b 6) 1) _ q.1 in
      let s = and_parts (zeros b 7 8) _ r.1 in
      let zeroes : zeros b 16 24 ≡ true → 0 ≡ eight b 16 = λ z. omega (arith, zero_four 16 8 z 0 (lit≤ tt), zero_four 16 8 z 4 (lit≤ tt)) in
      let h = high_again 0 m (zeros b 16 24) (eight b 8) (eight b 16) p.0 zeroes in
      let ends = ap (λ n. eight_bytes n ++ replicate 4 0) h ∙ eight_at 16 _ (lit≤ tt) (end_at 24 4 refl s.1) in
      let resets = same_two (λ n t. n ∷ t) (reset_again (at b 6) r.0) refl ∙ one 6 _ (lit< tt) (zero_at 7 1 _ (lit≤ tt) s.0 (eight_at 8 _ (lit≤ tt) ends)) in
      two_at 0 _ (lit≤ tt) (label_again _ q.0 resets)

-- a record's kind, marks and bytes are those that it was read from
record Again (kind marks : ℕ) (rest : List ℕ) (kind' marks' : ℕ) (rest' : List ℕ) : Type 0 where
  same_kind : kind' ≡ kind
  same_marks : marks' ≡ marks
  same_rest : rest' ≡ rest

again : {k m : ℕ} {b : List ℕ} {k' m' : ℕ} {b' : List ℕ} → k ≡ k' → m' ≡ m → b' ≡ b → Again k m b k' m' b'
again p q r = record { same_kind = sym p; same_marks = q; same_rest = r }

module _ (k m : ℕ) (b : List ℕ) (long : length b ≡ 28) (bytes : Bytes b) where
  ModelAgain : ModelBody → Type 0
  ModelAgain y = Again k m b (kind_byte (model_kind y)) (model_marks y) (model_rest y)

  model_again : model_laid k m b ≡ true → ModelAgain (model_fields k m b)
  unfolding ModelAgain
  model_again e = go (eqb k 1) (eqb k 2) (eqb k 3) (eqb k 4) (eqb k 5) refl refl refl refl refl e
    where
      go : (p q r s t : Bool) → eqb k 1 ≡ p → eqb k 2 ≡ q → eqb k 3 ≡ r → eqb k 4 ≡ s → eqb k 5 ≡ t
          → cond p (station_laid m b) (cond q (phase_laid m b) (cond r (edge_laid m b) (cond s (word_laid m b) (cond t (path_laid m b) false)))) ≡ true
          → ModelAgain (cond p (model.Station (station_in b)) (cond q (model.Phase (phase_in b)) (cond r (model.Edge (edge_in m b)) (cond s (model.Word (word_in b)) (model.Path (path_in b))))))
      go true q r s t a c d f g e =
          let x = and_parts (eqb m 0) _ e in
          again (eqb-true k 1 a) (sym (eqb-true m 0 x.0)) (station_again b long bytes x.1)
      go false true r s t a c d f g e =
          let x = and_parts (eqb m 0) _ e in
          let y = and_parts (zeros b 6 8) _ x.1 in
          again (eqb-true k 2 c) (sym (eqb-true m 0 x.0)) (phase_again b long bytes y.0 y.1)
      go false false true s t a c d f g e =
          let x = and_parts (window_laid m (zeros b 16 24)) _ e in
          again (eqb-true k 3 d) (marks_again no_fraction m (zeros b 16 24) (fraction_in b 12) (fraction_in b 20) x.0) (edge_again b long bytes m e)
      go false false false true t a c d f g e =
          let x = and_parts (eqb m 0) _ e in
          again (eqb-true k 4 f) (sym (eqb-true m 0 x.0)) (word_again b long bytes x.1)
      go false false false false true a c d f g e =
          let x = and_parts (eqb m 0) _ e in
          again (eqb-true k 5 g) (sym (eqb-true m 0 x.0)) (path_again b long bytes x.1)
      go false false false false false a c d f g e = absurd (both_ways false refl e)

  AutomatonAgain : AutomatonBody → Type 0
  AutomatonAgain y = Again k m b (kind_byte (automaton_kind y)) (automaton_marks y) (automaton_rest y)

  location_marks_again : leb m 3 ≡ true → bit (marked m 1) 1 + bound_marks (bound_in m b) ≡ m
  location_marks_again few =
      let less : m ≤ 3 = leb-true m 3 few in
      eight_cases (λ n. n ≤ 3 → bit (marked n 1) 1 + bound_marks (bound_in n b) ≡ n)
      (λ _. refl) (λ _. refl) (λ _. refl) (λ _. refl)
      (λ h. absurd (omega arith)) (λ h. absurd (omega arith)) (λ h. absurd (omega arith)) (λ h. absurd (omega arith))
      m (omega arith) less

  automaton_again_at : automaton_rows_laid k m b ≡ true → AutomatonAgain (automaton_fields k m b)
  unfolding AutomatonAgain
  automaton_again_at e = go (eqb k 1) (eqb k 2) (eqb k 3) (eqb k 5) refl refl refl refl e
    where
      go : (p q r t : Bool) → eqb k 1 ≡ p → eqb k 2 ≡ q → eqb k 3 ≡ r → eqb k 5 ≡ t
          → cond p (automaton_laid m b) (cond q (location_laid m b) (cond r (transition_laid m b) (cond t (path_laid m b) false))) ≡ true
          → AutomatonAgain (cond p (automata.Automaton (automaton_in b)) (cond q (automata.Location (location_in m b)) (cond r (automata.Transition (transition_in m b)) (automata.Path (path_in b)))))
      go true q r t a c d g e =
          let x = and_parts (eqb m 0) _ e in
          again (eqb-true k 1 a) (sym (eqb-true m 0 x.0)) (automaton_again b long bytes x.1)
      go false true r t a c d g e =
          let x = and_parts (leb m 3) _ e in
          again (eqb-true k 2 c) (location_marks_again x.0) (location_again b long bytes m e)
      go false false true t a c d g e =
          let x = and_parts (window_laid m (zeros b 16 24)) _ e in
          again (eqb-true k 3 d) (marks_again 0 m (zeros b 16 24) (eight b 8) (eight b 16) x.0) (transition_again b long bytes m e)
      go false false false true a c d g e =
          let x = and_parts (eqb m 0) _ e in
          again (eqb-true k 5 g) (sym (eqb-true m 0 x.0)) (path_again b long bytes x.1)
      go false false false false a c d g e = absurd (both_ways false refl e)

given_some : {X : Type 0} (t : Bool) (x y : X) → given t x ≡ Some y → (t ≡ true) × (x ≡ y)
given_some true x y e = (refl, cc)
given_some false x y e = let z : ◌≡◌ {A = ℕ} 0 1 = cc in absurd (omega arith)

next_some : {B : Type 0} (n : ℕ) (o : Option B) (x : Record B) → with_next n o ≡ Some x → (n ≡ x.next) × (o ≡ Some x.body)
next_some n None x e = let z : ◌≡◌ {A = ℕ} 0 1 = cc in absurd (omega arith)
next_some n (Some y) x e =
    let s : ◌≡◌ {A = Record _} (record { next = n; body = y }) x = cc in
    (ap (λ r. r.next) s, ap (λ r. Some r.body) s)

row_some : {B : Type 0} (body : ℕ → ℕ → List ℕ → Option B) (r : List ℕ) (x : Record B) → decoded_by body r ≡ Some x
    → (length r ≡ 32) × (two r 2 ≡ x.next) × (body (at r 0) (at r 1) (drop 4 r) ≡ Some x.body)
row_some body r x e = go (eqb (length r) 32) refl e
  where
    go : (t : Bool) → eqb (length r) 32 ≡ t → cond t (with_next (two r 2) (body (at r 0) (at r 1) (drop 4 r))) None ≡ Some x
        → (length r ≡ 32) × (two r 2 ≡ x.next) × (body (at r 0) (at r 1) (drop 4 r) ≡ Some x.body)
    go true p f = let n = next_some (two r 2) (body (at r 0) (at r 1) (drop 4 r)) x f in (eqb-true (length r) 32 p, n.0, n.1)
    go false p f = let z : ◌≡◌ {A = ℕ} 0 1 = cc in absurd (omega arith)

-- a row that is spelled by its parts
row_again : (r : List ℕ) (n : ℕ) (k m : ℕ) (b : List ℕ) → Bytes r → length r ≡ 32 → two r 2 ≡ n → Again (at r 0) (at r 1) (drop 4 r) k m b → k ∷ m ∷ (two_bytes n ++ b) ≡ r
row_again r n k m b bytes long next a =
    same_four (λ w x y z. w ∷ x ∷ (two_bytes y ++ z)) a.same_kind a.same_marks (sym next) a.same_rest
    ∙ byte_spelled r bytes 0 _ (omega arith) (byte_spelled r bytes 1 _ (omega arith) (two_field r bytes 2 (drop 4 r) (omega arith) refl))

rest_bytes : (r : List ℕ) → Bytes r → Bytes (drop 4 r)
rest_bytes r bytes i = subst Byte (sym (get_or-drop 4 r i 0)) (bytes (4 + i))

pub model_writes_back : IsWrittenBack ModelFits decoded_model encoded_model
unfolding ModelAgain
model_writes_back r x bytes e =
    let b = drop 4 r in
    let p = row_some model_body r x e in
    let q = given_some (model_laid (at r 0) (at r 1) b) (model_fields (at r 0) (at r 1) b) x.body p.2 in
    let long : length b ≡ 28 = omega (arith, length-drop 4 r, p.0) in
    let a = model_again (at r 0) (at r 1) b long (rest_bytes r bytes) q.0 in
    row_again r x.next _ _ _ bytes p.0 p.1 (subst (ModelAgain (at r 0) (at r 1) b long (rest_bytes r bytes)) q.1 a)

pub automaton_writes_back : IsWrittenBack AutomatonFits decoded_automaton encoded_automaton
unfolding AutomatonAgain
automaton_writes_back r x bytes e =
    let b = drop 4 r in
    let p = row_some automaton_body r x e in
    let q = given_some (automaton_rows_laid (at r 0) (at r 1) b) (automaton_fields (at r 0) (at r 1) b) x.body p.2 in
    let long : length b ≡ 28 = omega (arith, length-drop 4 r, p.0) in
    let a = automaton_again_at (at r 0) (at r 1) b long (rest_bytes r bytes) q.0 in
    row_again r x.next _ _ _ bytes p.0 p.1 (subst (AutomatonAgain (at r 0) (at r 1) b long (rest_bytes r bytes)) q.1 a)
