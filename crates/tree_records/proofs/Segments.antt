-- The parts of a book's tree have no record more often than it is named from them and from where they begin.
use Rattle.std.proofs.Common.{◌≡◌, ℕ, zero, suc, ◌+◌, ◌<◌, ◌≤◌, Bool, true, false, cond, ◌||◌, eqb, ltb, List, [], ◌∷◌, length, refl, ap, ◌∙◌, subst, ⊎_elim, arith}
use Rattle.std.specs.List.{flat_map, AllByRecursion}
use Rattle.std.proofs.lemmas.List.{get_or-take}
use Rattle.std.proofs.ByRecursion.{All-append, All-weaker}
use Rattle.std.proofs.lemmas.Bool.{ne_eqb, eqb-false, ltb-false, or_parts, cond-false}
use Rattle.book.specs.Bytes.{at, two, row}
use Rattle.book.specs.Chains.{chain, chain_of, next_index, whole_records}
use Rattle.book.specs.Terms.{kind_byte}
use Rattle.book.specs.declared.term.BookKind.{BookKind}
use Rattle.book.specs.declared.term.BookKind.TheVariants.{Model, Automaton}
use Rattle.book.specs.declared.term.Kind.{Kind}
use Rattle.book.specs.declared.term.Kind.TheVariants.{Station, Phase, Edge, Word, Path}
use Rattle.links.specs.declared.link.Link.{Link}
use Rattle.links.specs.Fields.{link, no_link, only_next}
use Rattle.links.specs.Naming.{names}
use Rattle.links.proofs.Chains.{chain_on}
use Rattle.structure.specs.Faults.{told_records}
use Rattle.structure.specs.Structure.{links_in}
use Rattle.structure.specs.Sound.{Sound, Right, links_at}
use Rattle.tree_records.specs.TreeRecords.{stations_in, phases_in, edges_in, words_in, paths_in, of_phase, of_station, tree_records}
use Rattle.tree_records.proofs.Once.{total, same, count, same_no, total_append, joined_single, all_into_joined}

-- what a chain meets, one record at a time: it stops at 0 and past n
module _ (next : ℕ → ℕ) (n : ℕ) where
  chain_by : (P : List ℕ → Type 0) (k i : ℕ) → P [] → (1 ≤ i → i ≤ n → P (i ∷ chain next n k (next i))) → P (chain next n (suc k) i)
  chain_by P k i none some = go (eqb i 0 || ltb n i) refl
    where
      go : (t : Bool) → (eqb i 0 || ltb n i) ≡ t → P (cond t [] (i ∷ chain next n k (next i)))
      go true e = none
      go false e =
          let parts = or_parts (eqb i 0) (ltb n i) e in
          let low = eqb-false i 0 parts.0 in
          some (omega arith) (ltb-false n i parts.1)

  pub chain_within : (k i : ℕ) → AllByRecursion (λ j. (1 ≤ j) × (j ≤ n)) (chain next n k i)
  chain_within zero i = tt
  chain_within (suc k) i = chain_by (AllByRecursion (λ j. (1 ≤ j) × (j ≤ n))) k i tt (λ low high. ((low, high), chain_within k (next i)))

  pub chain_some : (k i : ℕ) → 1 ≤ k → 1 ≤ i → i ≤ n → 1 ≤ length (chain next n k i)
  chain_some zero i room low high = absurd (omega arith)
  chain_some (suc k) i room low high = omega (arith, ap length (chain_on next n k i (λ z. absurd (omega arith)) high))

  -- f gives for a record the records that hang on it, itself among them, and `named` how often a record names k
  chain_counts : (k : ℕ) (named : ℕ → ℕ) (f : ℕ → List ℕ) (Good : ℕ → Type 0)
      → ((j : ℕ) → 1 ≤ j → j ≤ n → Good j → Good (next j) × (count k (f j) + same k (next j) ≤ same k j + total named (f j)))
      → (fuel i : ℕ) → Good i → count k (flat_map f (chain next n fuel i)) ≤ same k i + total named (flat_map f (chain next n fuel i))
  chain_counts k named f Good step zero i good = omega arith
  chain_counts k named f Good step (suc fuel) i good =
      chain_by (λ l. count k (flat_map f l) ≤ same k i + total named (flat_map f l)) fuel i (omega arith)
      (λ low high.
      let here = step i low high good in
      let l = chain next n fuel (next i) in
      let rest = chain_counts k named f Good step fuel (next i) here.0 in
      omega (arith, here.1, total_append (same k) (f i) (flat_map f l), total_append named (f i) (flat_map f l)))

-- the index fields of a record of a known kind
abbrev fields : Kind → BookKind → List ℕ → List Link
fields Station kind r = link (next_index r) Station ∷ link (two r 4) Phase ∷ no_link ∷ []
fields Phase Model r = link (next_index r) Phase ∷ link (two r 4) Edge ∷ link (two r 8) Word ∷ []
fields Phase Automaton r = link (next_index r) Phase ∷ link (two r 4) Edge ∷ no_link ∷ []
fields Edge kind r = only_next (next_index r) Edge
fields Word Model r = only_next (next_index r) Word
fields Word Automaton r = no_link ∷ no_link ∷ no_link ∷ []
fields Path kind r = only_next (next_index r) Path

fields_are : (what : Kind) (kind : BookKind) (r : List ℕ) → at r 0 ≡ kind_byte what → links_in kind r ≡ fields what kind r
fields_are Station Model r e = rw e
fields_are Station Automaton r e = rw e
fields_are Phase Model r e = rw e
fields_are Phase Automaton r e = rw e
fields_are Edge Model r e = rw e
fields_are Edge Automaton r e = rw e
fields_are Word Model r e = rw e
fields_are Word Automaton r e = rw e
fields_are Path Model r e = rw e
fields_are Path Automaton r e = rw e

-- the head's bytes are those at the start of the book
pub head_two : (b : List ℕ) (i : ℕ) → i < 31 → two (row b 0) i ≡ two b i
head_two b i h =
    let x : at (row b 0) i ≡ at b i = get_or-take 32 b i 0 (omega arith) in
    let y : at (row b 0) (i + 1) ≡ at b (i + 1) = get_or-take 32 b (i + 1) 0 (omega arith) in
    omega (arith, x, y)

-- a book whose structure is right
module _ (b : List ℕ) (kind : BookKind) (s : Sound b kind) where
  abbrev n : ℕ
  n = told_records b

  -- record j, which an index field names as one of that kind
  links_there : (what : Kind) (j : ℕ) → 1 ≤ j → Right b n (link j what) → links_at kind b j ≡ fields what kind (row b j)
  links_there what j low right =
      let other : j ≡ 0 → ⊥ = λ z. absurd (omega arith) in
      cond-false (eqb j 0) _ _ (ne_eqb j 0 other)
      ∙ ⊎_elim {C = links_in kind (row b j) ≡ fields what kind (row b j)} (λ z. absurd (other z)) (λ it. fields_are what kind (row b j) it.1) right

  rights_there : (what : Kind) (j : ℕ) → 1 ≤ j → Right b n (link j what) → AllByRecursion (Right b n) (fields what kind (row b j))
  rights_there what j low right =
      subst (AllByRecursion (Right b n)) (links_there what j low right) (s.each_right j (⊎_elim (λ z. absurd (omega arith)) (λ it. it.0) right))

  module _ (k : ℕ) (some : 1 ≤ k) where
    -- how often record j names k
    abbrev names_by : ℕ → ℕ
    names_by j = names k (links_at kind b j)

    -- k stands among the records xs no more often than they name it, and once more where i is k
    abbrev Few : ℕ → List ℕ → Type 0
    Few i xs = count k xs ≤ same k i + total names_by xs

    none : same k 0 ≡ 0
    none = same_no k 0 (λ z. absurd (omega arith))

    -- a chain of records that hold no other index
    leaves : (what : Kind) → ((r : List ℕ) → fields what kind r ≡ only_next (next_index r) what) → (i : ℕ) → Right b n (link i what) → Few i (chain_of b i)
    leaves what only i right =
        subst (Few i) (joined_single (chain_of b i))
        (chain_counts (λ j. next_index (row b j)) (whole_records b) k names_by (λ j. j ∷ []) (λ j. Right b n (link j what))
        (λ j low high good.
        let all = subst (AllByRecursion (Right b n)) (only (row b j)) (rights_there what j low good) in
        let is : names_by j ≡ names k (only_next (next_index (row b j)) what) = ap (names k) (links_there what j low good ∙ only (row b j)) in
        (all.0, omega (arith, is, none)))
        (whole_records b) i right)

-- where the words of a phase begin
abbrev first_word : BookKind → List ℕ → ℕ
first_word Model r = two r 8
first_word Automaton r = 0

phase_names : (k : ℕ) (kind : BookKind) (r : List ℕ) → names k (fields Phase kind r) ≡ same k (next_index r) + (same k (two r 4) + (same k (first_word kind r) + 0))
phase_names k Model r = refl
phase_names k Automaton r = refl

phase_rights : (kind : BookKind) (b : List ℕ) (n : ℕ) (r : List ℕ) → AllByRecursion (Right b n) (fields Phase kind r) → Right b n (link (next_index r) Phase) × Right b n (link (two r 4) Edge)
phase_rights Model b n r all = (all.0, all.1.0)
phase_rights Automaton b n r all = (all.0, all.1.0)

words_few : (b : List ℕ) (kind : BookKind) (s : Sound b kind) (k : ℕ) (some : 1 ≤ k) (p : ℕ) → AllByRecursion (Right b (told_records b)) (fields Phase kind (row b p)) → Few b kind s k some (first_word kind (row b p)) (words_in kind b p)
words_few b Model s k some p all = leaves b Model s k some Word (λ r. refl) (two (row b p) 8) all.1.1.0
words_few b Automaton s k some p all = omega arith

module _ (b : List ℕ) (kind : BookKind) (s : Sound b kind) (k : ℕ) (some : 1 ≤ k) where
  abbrev next : ℕ → ℕ
  next j = next_index (row b j)

  abbrev by : ℕ → ℕ
  by = names_by b kind s k some

  -- a chain of phases with their edges and words
  phases_few : (i : ℕ) → Right b (told_records b) (link i Phase) → Few b kind s k some i (flat_map (of_phase kind b) (chain_of b i))
  phases_few i right =
      chain_counts next (whole_records b) k by (of_phase kind b) (λ j. Right b (told_records b) (link j Phase))
      (λ p low high good.
      let all = rights_there b kind s Phase p low good in
      let parts = phase_rights kind b (told_records b) (row b p) all in
      let is : by p ≡ same k (next p) + (same k (two (row b p) 4) + (same k (first_word kind (row b p)) + 0)) = ap (names k) (links_there b kind s Phase p low good) ∙ phase_names k kind (row b p) in
      let es = edges_in b p in
      let ws = words_in kind b p in
      (parts.0, omega (arith, is, leaves b kind s k some Edge (λ r. refl) (two (row b p) 4) parts.1, words_few b kind s k some p all, total_append (same k) es ws, total_append by es ws)))
      (whole_records b) i right

  -- a chain of stations with all that hangs on them
  stations_few : (i : ℕ) → Right b (told_records b) (link i Station) → Few b kind s k some i (flat_map (of_station kind b) (chain_of b i))
  stations_few i right =
      chain_counts next (whole_records b) k by (of_station kind b) (λ j. Right b (told_records b) (link j Station))
      (λ t low high good.
      let all = rights_there b kind s Station t low good in
      let is : by t ≡ names k (fields Station kind (row b t)) = ap (names k) (links_there b kind s Station t low good) in
      (all.0, omega (arith, is, none b kind s k some, phases_few (two (row b t) 4) all.1.0)))
      (whole_records b) i right

  -- the whole tree: by its naming from the head
  pub tree_few : count k (tree_records kind b) ≤ names k (links_at kind b 0) + total (λ j. names k (links_at kind b j)) (tree_records kind b)
  tree_few =
      let all = s.each_right 0 (omega arith) in
      let stations = stations_few (two b 6) (subst (λ i. Right b (told_records b) (link i Station)) (head_two b 6 (omega arith)) all.0) in
      let paths = leaves b kind s k some Path (λ r. refl) (two b 8) (subst (λ i. Right b (told_records b) (link i Path)) (head_two b 8 (omega arith)) all.1.0) in
      let tree = flat_map (of_station kind b) (stations_in b) in
      let first = ap (same k) (head_two b 6 (omega arith)) in
      let second = ap (same k) (head_two b 8 (omega arith)) in
      omega (arith, first, second, total_append (same k) tree (paths_in b), total_append by tree (paths_in b))

-- all of the tree's records are in the book
abbrev Inside : List ℕ → ℕ → Type 0
Inside b j = (1 ≤ j) × (j ≤ whole_records b)

chain_inside : (b : List ℕ) (i : ℕ) → AllByRecursion (Inside b) (chain_of b i)
chain_inside b i = chain_within (λ j. next_index (row b j)) (whole_records b) (whole_records b) i

words_inside : (kind : BookKind) (b : List ℕ) (p : ℕ) → AllByRecursion (Inside b) (words_in kind b p)
words_inside Model b p = chain_inside b (two (row b p) 8)
words_inside Automaton b p = tt

pub tree_inside : (b : List ℕ) (kind : BookKind) → AllByRecursion (λ j. (1 ≤ j) × (j ≤ whole_records b)) (tree_records kind b)
tree_inside b kind =
    let In = Inside b in
    let phase : (p : ℕ) → In p → AllByRecursion In (of_phase kind b p) = λ p h.
    (h, All-append In (edges_in b p) (words_in kind b p) (chain_inside b (two (row b p) 4)) (words_inside kind b p))
    in
    let station : (t : ℕ) → In t → AllByRecursion In (of_station kind b t) = λ t h.
    (h, all_into_joined In (of_phase kind b) (phases_in b t) (All-weaker In (λ p. AllByRecursion In (of_phase kind b p)) phase (phases_in b t) (chain_inside b (two (row b t) 4))))
    in
    All-append In (flat_map (of_station kind b) (stations_in b)) (paths_in b)
    (all_into_joined In (of_station kind b) (stations_in b) (All-weaker In (λ t. AllByRecursion In (of_station kind b t)) station (stations_in b) (chain_inside b (two b 6))))
    (chain_inside b (two b 8))
