-- What a row that decodes holds, and what chains of rows are.
use Rattle.std.proofs.Common.{◌≡◌, ℕ, zero, suc, ◌+◌, ◌<◌, ◌≤◌, Bool, true, false, cond, ◌||◌, eqb, ltb, List, [], ◌∷◌, ◌++◌, length, get_or, drop, Some, None, sym, refl, ap, ◌∙◌, subst, arith}
use Rattle.std.proofs.lemmas.Bool.{eq-eqb, ne_eqb, le-ltb, or_from}
use Rattle.book.specs.Bytes.{at, two, row}
use Rattle.book.specs.Chains.{chain, chain_of, next_index, whole_records}
use Rattle.book.specs.declared.term.Path.{Path}
use Rattle.book.specs.declared.record.Automaton.{Automaton}
use Rattle.book.specs.declared.record.Location.{Location}
use Rattle.book.specs.declared.record.Transition.{Transition}
use Rattle.book.specs.declared.record.AutomatonBody.{AutomatonBody}
use Rattle.book.specs.declared.record.AutomatonBody.TheVariants as bodies
use Rattle.records.specs.Fields.{given, with_next, path_in}
use Rattle.records.specs.Automaton.{automaton_in, location_in, transition_in, automaton_rows_laid, automaton_fields, decoded_automaton}
use Rattle.semantics.specs.Books.{place_in}
use Rattle.semantics.specs.Rows.{Rec, leading, chained, count_from}
use Rattle.semantics.proofs.Options.{some_not_none, inner}

-- a row that decodes has the next index and the fields of its record
pub decoded_parts : (r : List ℕ) (x : Rec) → decoded_automaton r ≡ Some x → (two r 2 ≡ x.next) × (automaton_fields (at r 0) (at r 1) (drop 4 r) ≡ x.body)
decoded_parts r x e = go (eqb (length r) 32) (automaton_rows_laid (at r 0) (at r 1) (drop 4 r)) e
  where
    go : (a b : Bool) → cond a (with_next (two r 2) (given b (automaton_fields (at r 0) (at r 1) (drop 4 r)))) None ≡ Some x →
        (two r 2 ≡ x.next) × (automaton_fields (at r 0) (at r 1) (drop 4 r) ≡ x.body)
    go true true h = let same = inner h in (ap (λ y. y.next) same, ap (λ y. y.body) same)
    go true false h = absurd (some_not_none x (sym h))
    go false b h = absurd (some_not_none x (sym h))

-- which of the four it is
module _ (a : Automaton) (l : Location) (t : Transition) (p : Path) where
  abbrev one_of : Bool → Bool → Bool → AutomatonBody
  one_of x y z = cond x (bodies.Automaton a) (cond y (bodies.Location l) (cond z (bodies.Transition t) (bodies.Path p)))

  is_automaton : (x y z : Bool) (b : Automaton) → one_of x y z ≡ bodies.Automaton b → a ≡ b
  is_automaton true y z b e = cc
  is_automaton false true z b e = absurd (let q : ◌≡◌ {A = ℕ} 0 1 = cc in omega arith)
  is_automaton false false true b e = absurd (let q : ◌≡◌ {A = ℕ} 0 1 = cc in omega arith)
  is_automaton false false false b e = absurd (let q : ◌≡◌ {A = ℕ} 0 1 = cc in omega arith)

  is_location : (x y z : Bool) (b : Location) → one_of x y z ≡ bodies.Location b → l ≡ b
  is_location true y z b e = absurd (let q : ◌≡◌ {A = ℕ} 0 1 = cc in omega arith)
  is_location false true z b e = cc
  is_location false false true b e = absurd (let q : ◌≡◌ {A = ℕ} 0 1 = cc in omega arith)
  is_location false false false b e = absurd (let q : ◌≡◌ {A = ℕ} 0 1 = cc in omega arith)

  is_transition : (x y z : Bool) (b : Transition) → one_of x y z ≡ bodies.Transition b → t ≡ b
  is_transition true y z b e = absurd (let q : ◌≡◌ {A = ℕ} 0 1 = cc in omega arith)
  is_transition false true z b e = absurd (let q : ◌≡◌ {A = ℕ} 0 1 = cc in omega arith)
  is_transition false false true b e = cc
  is_transition false false false b e = absurd (let q : ◌≡◌ {A = ℕ} 0 1 = cc in omega arith)

  is_path : (x y z : Bool) (b : Path) → one_of x y z ≡ bodies.Path b → p ≡ b
  is_path true y z b e = absurd (let q : ◌≡◌ {A = ℕ} 0 1 = cc in omega arith)
  is_path false true z b e = absurd (let q : ◌≡◌ {A = ℕ} 0 1 = cc in omega arith)
  is_path false false true b e = absurd (let q : ◌≡◌ {A = ℕ} 0 1 = cc in omega arith)
  is_path false false false b e = cc

module _ (b : List ℕ) where
  -- record k of the book is x
  abbrev pub Holds : ℕ → Rec → Type 0
  Holds k x = decoded_automaton (row b k) ≡ Some x

  pub holds_next : (k : ℕ) (x : Rec) → Holds k x → next_index (row b k) ≡ x.next
  holds_next k x h = (decoded_parts (row b k) x h).0

  fields : (k : ℕ) (x : Rec) → Holds k x → automaton_fields (at (row b k) 0) (at (row b k) 1) (drop 4 (row b k)) ≡ x.body
  fields k x h = (decoded_parts (row b k) x h).1

  pub holds_automaton : (k next : ℕ) (a : Automaton) → Holds k (record { next = next; body = bodies.Automaton a }) → automaton_in (drop 4 (row b k)) ≡ a
  holds_automaton k next a h = is_automaton (automaton_in (drop 4 (row b k))) (location_in (at (row b k) 1) (drop 4 (row b k))) (transition_in (at (row b k) 1) (drop 4 (row b k))) (path_in (drop 4 (row b k))) (eqb (at (row b k) 0) 1) (eqb (at (row b k) 0) 2) (eqb (at (row b k) 0) 3) a (fields k _ h)

  pub holds_location : (k next : ℕ) (l : Location) → Holds k (record { next = next; body = bodies.Location l }) → location_in (at (row b k) 1) (drop 4 (row b k)) ≡ l
  holds_location k next l h = is_location (automaton_in (drop 4 (row b k))) (location_in (at (row b k) 1) (drop 4 (row b k))) (transition_in (at (row b k) 1) (drop 4 (row b k))) (path_in (drop 4 (row b k))) (eqb (at (row b k) 0) 1) (eqb (at (row b k) 0) 2) (eqb (at (row b k) 0) 3) l (fields k _ h)

  pub holds_transition : (k next : ℕ) (t : Transition) → Holds k (record { next = next; body = bodies.Transition t }) → transition_in (at (row b k) 1) (drop 4 (row b k)) ≡ t
  holds_transition k next t h = is_transition (automaton_in (drop 4 (row b k))) (location_in (at (row b k) 1) (drop 4 (row b k))) (transition_in (at (row b k) 1) (drop 4 (row b k))) (path_in (drop 4 (row b k))) (eqb (at (row b k) 0) 1) (eqb (at (row b k) 0) 2) (eqb (at (row b k) 0) 3) t (fields k _ h)

  pub holds_path : (k next : ℕ) (p : Path) → Holds k (record { next = next; body = bodies.Path p }) → path_in (drop 4 (row b k)) ≡ p
  holds_path k next p h = is_path (automaton_in (drop 4 (row b k))) (location_in (at (row b k) 1) (drop 4 (row b k))) (transition_in (at (row b k) 1) (drop 4 (row b k))) (path_in (drop 4 (row b k))) (eqb (at (row b k) 0) 1) (eqb (at (row b k) 0) 2) (eqb (at (row b k) 0) 3) p (fields k _ h)

  -- from record k on the book holds these, and they are records of it
  abbrev pub Reads : ℕ → List Rec → Type 0
  Reads k [] = Unit {0}
  Reads k (x ∷ xs) = Holds k x × Reads (suc k) xs

  pub record Stands (k : ℕ) (xs : List Rec) : Type 0 where
    pub reads : Reads k xs
    pub inside : k + length xs ≤ suc (whole_records b)

  pub here : (k : ℕ) (x : Rec) (xs : List Rec) → Stands k (x ∷ xs) → Holds k x × (k ≤ whole_records b)
  here k x xs s = (s.reads.0, (let a = s.inside in omega arith))

  pub behind : (k : ℕ) (x : Rec) (xs : List Rec) → Stands k (x ∷ xs) → Stands (suc k) xs
  behind k x xs s = record { reads = s.reads.1; inside = let a = s.inside in omega arith }

  reads_left : (xs ys : List Rec) (k : ℕ) → Reads k (xs ++ ys) → Reads k xs
  reads_left [] ys k h = tt
  reads_left (x ∷ xs) ys k h = (h.0, reads_left xs ys (suc k) h.1)

  long : (xs ys : List Rec) → length (xs ++ ys) ≡ length xs + length ys
  long [] ys = omega arith
  long (x ∷ xs) ys = let a = long xs ys in omega arith

  pub left : (xs ys : List Rec) (k : ℕ) → Stands k (xs ++ ys) → Stands k xs
  left xs ys k s = record { reads = reads_left xs ys k s.reads; inside = let a = s.inside in let c = long xs ys in omega arith }

  pub right : (xs ys : List Rec) (k n : ℕ) → n ≡ k + length xs → Stands k (xs ++ ys) → Stands n ys
  right [] ys k n e s = subst (λ j. Stands j ys) (let f : k ≡ n = omega arith in f) s
  right (x ∷ xs) ys k n e s = right xs ys (suc k) n (omega arith) (behind k x (xs ++ ys) s)

  -- From s the next indices lead through these records, in rising order above low, and end.
  abbrev pub Leads : ℕ → ℕ → List ℕ → Type 0
  Leads low s [] = s ≡ 0
  Leads low s (k ∷ ks) = (s ≡ k) × (low < k) × (k ≤ whole_records b) × Leads k (next_index (row b k)) ks

  leads_room : (low s : ℕ) (ks : List ℕ) → low ≤ whole_records b → Leads low s ks → low + length ks ≤ whole_records b
  leads_room low s [] l h = omega arith
  leads_room low s (k ∷ ks) l h = let on = leads_room k (next_index (row b k)) ks h.2 h.3 in let up = h.1 in omega arith

  chain_is : (ks : List ℕ) (fuel low s : ℕ) → length ks ≤ fuel → Leads low s ks → chain (λ j. next_index (row b j)) (whole_records b) fuel s ≡ ks
  chain_is [] zero low s l h = refl
  chain_is [] (suc fuel) low s l h =
      ap (λ c. cond c [] (s ∷ chain (λ j. next_index (row b j)) (whole_records b) fuel (next_index (row b s)))) (ap (λ c. c || ltb (whole_records b) s) (eq-eqb s 0 h))
  chain_is (k ∷ ks) zero low s l h = absurd (omega arith)
  chain_is (k ∷ ks) (suc fuel) low s l h =
      let up = h.1 in
      let more = chain_is ks fuel k (next_index (row b k)) (omega arith) h.3 in
      ap (chain (λ j. next_index (row b j)) (whole_records b) (suc fuel)) h.0
      ∙ ap (λ c. cond c [] (k ∷ chain (λ j. next_index (row b j)) (whole_records b) fuel (next_index (row b k))))
      (or_from _ _ (ne_eqb k 0 (λ e. omega arith)) (le-ltb (whole_records b) k h.2))
      ∙ ap (λ r. k ∷ r) more

  pub chain_leads : (s : ℕ) (ks : List ℕ) → Leads 0 s ks → chain_of b s ≡ ks
  chain_leads s ks h = let room = leads_room 0 s ks (omega arith) h in chain_is ks (whole_records b) 0 s (omega arith) h

  pub leads_start : (low s : ℕ) (ks : List ℕ) → Leads low s ks → s ≡ get_or ks 0 0
  leads_start low s [] h = h
  leads_start low s (k ∷ ks) h = h.0

  -- records in rising order are found at their places
  above : (low s : ℕ) (ks : List ℕ) → Leads low s ks → (t : ℕ) → t < length ks → low < get_or ks t 0
  above low s [] h t l = absurd (omega arith)
  above low s (k ∷ ks) h zero l = h.1
  above low s (k ∷ ks) h (suc t) l = let a = above k (next_index (row b k)) ks h.3 t (omega arith) in let c = h.1 in omega arith

  pub place_back : (low s : ℕ) (ks : List ℕ) → Leads low s ks → (t : ℕ) → t < length ks → place_in ks (get_or ks t 0) ≡ t
  place_back low s [] h t l = absurd (omega arith)
  place_back low s (k ∷ ks) h zero l = ap (λ c. cond c 0 (suc (place_in ks k))) (eq-eqb k k refl)
  place_back low s (k ∷ ks) h (suc t) l =
      let a = above k (next_index (row b k)) ks h.3 t (omega arith) in
      ap (λ c. cond c 0 (suc (place_in ks (get_or ks t 0)))) (ne_eqb k (get_or ks t 0) (λ e. omega arith))
      ∙ ap suc (place_back k (next_index (row b k)) ks h.3 t (omega arith))

  -- records of one chain that stand one after another
  pub chained_leads : {A : Type 0} (write : ℕ → A → Rec) → ((next : ℕ) (x : A) → (write next x).next ≡ next) →
      (xs : List A) (k low : ℕ) → low < k → Stands k (chained write k xs) → Leads low (leading k 0 xs) (count_from k xs)
  chained_leads write nexts [] k low l s = refl
  chained_leads write nexts (x ∷ xs) k low l s =
      let next = leading (suc k) 0 xs in
      let rest = chained write (suc k) xs in
      let on = chained_leads write nexts xs (suc k) k (omega arith) (behind k (write next x) rest s) in
      let it = here k (write next x) rest s in
      (refl, l, it.1, subst (λ j. Leads k j (count_from (suc k) xs)) (sym (holds_next k (write next x) it.0 ∙ nexts next x)) on)
