-- A table that is filled with a phase's edges, and what it answers.
use Rattle.std.proofs.Common.{◌≡◌, ℕ, ◌+◌, ◌<◌, ◌≤◌, false, cond, List, [], ◌∷◌, ◌++◌, length, get_or, take, drop, set, replicate, Ok, Err, Option, Result, sym, refl, ap, ◌∙◌, arith}
use Rattle.std.proofs.lemmas.List.{take_more_set, map_more, take_all, length-map, length-replicate}
use Rattle.std.proofs.lemmas.List.FromFn.{length-enumerate_from, get_or-enumerate_from}
use Rattle.std.specs.List.{enumerate_from}
use Rattle.std.specs.Iterator.{YieldsFirst}
use Rattle.std.specs.Iterator.Adapters.{enumerate_source, enumerate_count, enumerate_steps}
use Rattle.std.specs.declared.iter.Enumerate.{Enumerate}
use Rattle.std.proofs.lemmas.Iterator.{YieldsList}
use Rattle.std.proofs.lemmas.Iterator.Consumers.{YieldsList-from_first, YieldsList-from_enumerate, YieldsList-at}
use Rattle.links.specs.declared.chain.Chain.{Chain}
use Rattle.links.specs.Walks.{left}
use Rattle.std.proofs.lemmas.Bool.{cond_below, cond_above, le-ltb}
use Rattle.book.specs.Bytes.{two, row}
use Rattle.book.specs.Refusals.{refused}
use Rattle.book.specs.declared.refusal.Fault.TheVariants.{Room}
use Rattle.book.specs.declared.refusal.Refusal.{Refusal}
use Rattle.links.proofs.Listed.{no_ok}
use Rattle.semantics.specs.Times.{Fraction}
use Rattle.visits.specs.Smallest.{smallest}
use Rattle.visits.specs.Visits.{edges}
use Rattle.visits.proofs.Following.{followed_few}
use Rattle.chains.specs.EdgeRules.{broken_edges}
use Rattle.pairs.specs.declared.taker.Taker.{Taker}
use Rattle.pairs.specs.Pairs.{Heard, taker_of, takers, few_slots, meeting, shared, table_answer, table_list}
use Rattle.pairs.proofs.Meeting.{in_table}

-- a loop over the records of a chain, with their places, gives those
pub places_road : {R : Type 0} {s it : Enumerate (Chain R)} (chain : Chain R) → it ≡ s → enumerate_source s ≡ chain → enumerate_count s ≡ 0
    → YieldsList {B = ℕ × ℕ} (enumerate_steps (YieldsFirst left)) (λ p. (p.0, p.1)) it (enumerate_from 0 (left chain))
places_road chain same source count = YieldsList-at same (YieldsList-from_enumerate (YieldsList-at source (YieldsList-from_first (λ x. x) left (left chain) refl)) count)

-- the record at a turn of a loop over numbered records, and its place
pub record Numbered (es : List ℕ) (i : ℕ) (at : ℕ × ℕ) : Type 0 where
  pub more : i < length es
  pub here : at.0 ≡ i
  pub this : at.1 ≡ get_or es i at.1

pub numbered : (es : List ℕ) (i : ℕ) (at : ℕ × ℕ) → (i < length (enumerate_from 0 es)) × (at ≡ get_or (enumerate_from 0 es) i at) → Numbered es i at
numbered es i at (h, e) =
    let more : i < length es = omega (arith, length-enumerate_from 0 es) in
    let here = e ∙ get_or-enumerate_from 0 es i at more in
    let same : 0 + i ≡ i = omega arith in
    record { more = more; here = ap (λ p. p.0) here ∙ same; this = ap (λ p. p.1) here }

module _ {T : Type 0} (heard : ℕ → Heard T) (es : List ℕ) (table : List (Taker T)) (i : ℕ) (filled : take i table ≡ takers heard (take i es)) where
  -- one more slot is filled
  pub fill_more : (at : ℕ × ℕ) (x : Taker T) → i < length table → Numbered es i at → x ≡ taker_of heard at.1
      → take (i + 1) (set table at.0 x) ≡ takers heard (take (i + 1) es)
  fill_more at x room k ex =
      ap (λ j. take (i + 1) (set table j x)) k.here
      ∙ take_more_set table i x room
      ∙ ap (λ l. l ++ x ∷ []) filled
      ∙ ap (λ z. takers heard (take i es) ++ z ∷ []) (ex ∙ ap (taker_of heard) k.this)
      ∙ sym (map_more (taker_of heard) es i at.1 k.more)

  -- all slots are filled
  pub fill_all : length table ≤ i → length es ≤ i → table ≡ takers heard es
  fill_all spent all = sym (take_all i table spent) ∙ filled ∙ ap (takers heard) (take_all i es all)

module _ {T : Type 0} (time : T → Fraction) (b : List ℕ) (heard : ℕ → ℕ → Heard T) (p : ℕ) (table : List (Taker T)) where
  abbrev Answer : Type 0
  Answer = Result (Option ℕ) Refusal

  pub too_few : (n : ℕ) → n ≡ length (edges b p) → length table < n
      → (◌≡◌ {A = Answer} (Err (refused Room 0)) (table_answer time b heard p table)) × (table ≡ table_list b heard p table)
  too_few n e less =
      let short : length table < length (edges b p) = omega arith in
      (cond_below (length table) (length (edges b p)) _ _ short, cond_below (length table) (length (edges b p)) _ _ short)

  pub enough : (n : ℕ) (slots : List (Taker T)) (r : Option ℕ) → n ≡ length (edges b p) → n ≤ length table
      → slots ≡ takers (heard p) (edges b p) → r ≡ smallest (meeting time slots slots)
      → (◌≡◌ {A = Answer} (Ok r) (table_answer time b heard p table)) × (slots ++ drop n table ≡ table_list b heard p table)
  enough n slots r e room full er =
      let es = edges b p in
      let long : length es ≤ length table = omega arith in
      let told : r ≡ smallest (broken_edges b (shared time b heard) p) = er ∙ ap (λ l. smallest (meeting time l l)) full ∙ ap smallest (in_table time (heard p) es 0 es) in
      let size : n ≡ length (takers (heard p) es) = e ∙ sym (length-map es _) in
      (cond_above (length table) (length es) _ _ _ long (ap (λ x. Ok x) told), cond_above (length table) (length es) _ _ _ long (ap (λ l. l ++ drop n table) full ∙ ap (λ k. takers (heard p) es ++ drop k table) size))

-- a table of 2,000 slots is never too short
pub never_short : {T : Type 0} (time : T → Fraction) (b : List ℕ) (heard : ℕ → ℕ → Heard T) (p : ℕ) (free : Taker T) (e : Refusal) {A : Type 0}
    → ◌≡◌ {A = Result (Option ℕ) Refusal} (Err e) (table_answer time b heard p (replicate 2000 free)) → A
never_short time b heard p free e declined =
    let long : few_slots b p (replicate 2000 free) ≡ false = le-ltb (length (replicate 2000 free)) (length (edges b p)) (omega (arith, length-replicate 2000 free, followed_few b (two (row b p) 4))) in
    no_ok (declined ∙ ap (λ t. cond t (Err (refused Room 0)) (Ok (smallest (broken_edges b (shared time b heard) p)))) long)
