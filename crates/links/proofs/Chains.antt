-- One turn of a walk along a chain, and its end.
use Rattle.std.proofs.Common.{◌≡◌, ℕ, zero, suc, ◌+◌, ◌≤◌, Bool, true, false, ◌||◌, cond, eqb, ltb, List, [], ◌∷◌, ◌++◌, length, take, drop, set, Ok, Err, Result, sym, refl, ap, ◌∙◌, append_assoc, append-nil, arith}
use Rattle.std.proofs.lemmas.List.{take_more_set, drop-set-lt, drop-drop, length-set, take-append-drop}
use Rattle.std.proofs.lemmas.Bool.{ne_eqb, le-ltb, eq-eqb, or_from, or_left}
use Rattle.book.specs.declared.refusal.Refusal.{Refusal}
use Rattle.book.specs.declared.refusal.Fault.TheVariants.{Room}
use Rattle.book.specs.Refusals.{refused}
use Rattle.book.specs.Bytes.{row}
use Rattle.book.specs.Chains.{chain, chain_of, next_index, whole_records}
use Rattle.links.specs.Walks.{filled, walk_answer, walk_list}

module _ (next : ℕ → ℕ) (n : ℕ) where
  -- a chain goes on at i
  pub chain_on : (k i : ℕ) → (i ≡ 0 → ⊥) → i ≤ n → chain next n (suc k) i ≡ i ∷ chain next n k (next i)
  chain_on k i some within = ap (λ t. cond t [] (i ∷ chain next n k (next i))) (or_from _ _ (ne_eqb i 0 some) (le-ltb n i within))

  -- a chain ends at 0
  pub chain_at_0 : (k i : ℕ) → i ≡ 0 → chain next n k i ≡ []
  chain_at_0 zero i e = refl
  chain_at_0 (suc k) i e = ap (λ t. cond t [] (i ∷ chain next n k (next i))) (or_left _ (ltb n i) (eq-eqb i 0 e))

-- no more than k records come
pub chain_few : (next : ℕ → ℕ) (n k i : ℕ) → length (chain next n k i) ≤ k
chain_few next n zero i = omega arith
chain_few next n (suc k) i = go (eqb i 0 || ltb n i) (chain_few next n k (next i))
  where
    go : (t : Bool) → length (chain next n k (next i)) ≤ k → length (cond t [] (i ∷ chain next n k (next i))) ≤ suc k
    go true rest = omega arith
    go false rest = omega arith

pub chain_within : (b : List ℕ) (first : ℕ) → length (chain_of b first) ≤ length b
chain_within b first =
    let few = chain_few (λ j. next_index (row b j)) (whole_records b) (whole_records b) first in
    omega (arith, few)

-- what holds after c turns of a walk along `all`, with `rest` to come: `old` is the list before it, `list` now
pub record Walked (all old list rest : List ℕ) (c : ℕ) : Type 0 where
  pub room : length all ≤ length old
  pub long : length list ≡ length old
  pub whole : c + length rest ≡ length all
  pub split : take c list ++ rest ≡ all
  pub later : drop c list ≡ drop c old

module _ (all old list rest : List ℕ) (c : ℕ) (w : Walked all old list rest c) where
  pub walked_more : (x : ℕ) (more : List ℕ) → rest ≡ x ∷ more → Walked all old (set list c x) more (c + 1)
  walked_more x more e =
      let before = take c list in
      let count : length rest ≡ suc (length more) = ap length e in
      record {
        room = w.room;
        long = length-set list c x ∙ w.long;
        whole = omega (arith, w.whole, count);
        split = ap (λ l. l ++ more) (take_more_set list c x (omega (arith, w.long, w.whole, w.room, count)))
            ∙ append_assoc before (x ∷ []) more ∙ ap (λ l. before ++ l) (sym e) ∙ w.split;
        later = drop-set-lt (c + 1) list c x (omega arith) ∙ sym (drop-drop 1 c list) ∙ ap (drop 1) w.later ∙ drop-drop 1 c old;
      }

  -- the count and the list, where no more come
  pub walked_all : rest ≡ [] → (c ≡ length all) × (list ≡ filled all old)
  walked_all none =
      let whole : take c list ≡ all = sym (append-nil (take c list)) ∙ ap (λ l. take c list ++ l) (sym none) ∙ w.split in
      let zero_left : length rest ≡ 0 = ap length none in
      let count : c ≡ length all = omega (arith, w.whole, zero_left) in (
        count,
        sym (take-append-drop c list) ∙ ap (λ l. l ++ drop c list) whole ∙ ap (λ l. all ++ l) w.later ∙ ap (λ k. all ++ drop k old) count,
      )

-- the same for a book, as the walk tells it
pub record Told (b : List ℕ) (first : ℕ) (old list : List ℕ) (c : ℕ) : Type 0 where
  pub answer : ◌≡◌ {A = Result ℕ Refusal} (Ok c) (walk_answer b first old)
  pub slots : list ≡ walk_list b first old
  pub within : c ≤ length list

module _ (b : List ℕ) (first : ℕ) (old : List ℕ) (fits : whole_records b ≤ length old) where
  abbrev all : List ℕ
  all = chain_of b first

  pub walk_start : (rest : List ℕ) → rest ≡ all → Walked all old old rest 0
  walk_start rest e =
      let few = chain_few (λ j. next_index (row b j)) (whole_records b) (whole_records b) first in
      record { room = omega (arith, few, fits); long = refl; whole = omega (arith, ap length e); split = e; later = refl }

  pub walk_told : (list rest : List ℕ) (c : ℕ) → Walked all old list rest c → rest ≡ [] → Told b first old list c
  walk_told list rest c w none =
      let enough : ltb (length old) (whole_records b) ≡ false = le-ltb (length old) (whole_records b) fits in
      let done = walked_all all old list rest c w none in
      record {
        answer = ap (λ k. Ok k) done.0 ∙ sym (ap (λ t. cond t (Err (refused Room 0)) (Ok (length all))) enough);
        slots = done.1 ∙ sym (ap (λ t. cond t old (filled all old)) enough);
        within = omega (arith, w.whole, w.room, w.long);
      }
