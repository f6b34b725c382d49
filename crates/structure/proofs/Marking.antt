-- The tables of counts and marks tell what the definition of an ill linked record asks.
use Rattle.std.proofs.Common.{◌≡◌, ℕ, ◌+◌, ◌*◌, ◌<◌, ◌≤◌, Bool, false, cond, not, ◌&&◌, ◌||◌, eqb, List, length, get_or, drop, replicate, Ok, Err, Option, Result, ap, ◌∙◌, arith}
use Rattle.std.proofs.lemmas.List.FromFn.{get_or-map-range_with_len, length-map-range_with_len}
use Rattle.std.proofs.lemmas.List.{get_or_append_left, length-replicate}
use Rattle.std.proofs.lemmas.Bool.{lt-leb, or_from}
use Rattle.book.specs.Chains.{whole_records}
use Rattle.book.specs.Refusals.{refused}
use Rattle.book.specs.declared.refusal.Fault.TheVariants.{Links, Room}
use Rattle.book.specs.declared.refusal.Refusal.{Refusal}
use Rattle.links.specs.declared.link.Link.{Link}
use Rattle.links.specs.Fields.{links_of}
use Rattle.links.specs.Naming.{member, named_from, reached}
use Rattle.links.specs.Naming.{marks as marks_of}
use Rattle.links.specs.Walks.{filled}
use Rattle.links.specs.Reaches.{cramped, reached_in, reach_answer, reach_marks}
use Rattle.structure.specs.Faults.{told_records, some_link, wrong_link, ill_linked}
use Rattle.structure.specs.Search.{first_of}
use Rattle.structure.specs.Structure.{unless, first_ill_linked}
use Rattle.structure.specs.Tables.{Counted, ill_linked_by}
use Rattle.structure.proofs.Searching.{same_first}

pub all_whole : (b : List ℕ) (n : ℕ) → length b ≡ 32 * (n + 1) → whole_records b ≡ n
all_whole b n e = omega arith

-- the mark of a record
module _ (links : List ℕ → List Link) (b : List ℕ) (n slots : ℕ) (long : length b ≡ 32 * (n + 1)) (few : n < slots) where
  abbrev all : List ℕ
  all = reached (links_of links b) n

  pub roomy : cramped b (replicate slots 0) (replicate slots false) ≡ false
  roomy =
      let whole = whole_records b in
      let same = all_whole b n long in
      or_from _ _ (lt-leb _ whole (omega (arith, length-replicate {A = ℕ} slots 0))) (lt-leb _ whole (omega (arith, length-replicate slots false)))

  marks_are : reach_marks links b (replicate slots 0) (replicate slots false) ≡ filled (marks_of all n) (replicate slots false)
  marks_are =
      let same = all_whole b n long in
      let whole = whole_records b in
      ap (λ t. cond t (replicate slots false) (filled (marks_of (reached_in links b) whole) (replicate slots false))) roomy
      ∙ ap (λ k. filled (marks_of (reached (links_of links b) k) k) (replicate slots false)) same

  pub marks_tell : (j : ℕ) → j ≤ n → get_or (reach_marks links b (replicate slots 0) (replicate slots false)) j false ≡ member j all
  marks_tell j low =
      let front = marks_of all n in
      ap (λ l. get_or l j false) marks_are
      ∙ get_or_append_left front (drop (length front) (replicate slots false)) false j (omega (arith, length-map-range_with_len (λ k. member k all) 0 (n + 1)))
      ∙ get_or-map-range_with_len (λ k. member k all) 0 (n + 1) j j false (omega arith) (omega arith)

pub tables_tell : (links : List ℕ → List Link) (b : List ℕ) (n slots : ℕ) (counts : List ℕ) (marks : List Bool) → n ≡ told_records b → length b ≡ 32 * (n + 1) → n < slots → length counts ≡ slots → Counted (links_of links b) n counts → marks ≡ reach_marks links b (replicate slots 0) (replicate slots false) → first_of (ill_linked_by (links_of links b) b n counts marks) n ≡ first_ill_linked links b
tables_tell links b n slots counts marks told long few room counted marked =
    let at = links_of links b in
    let wrong : ℕ → Bool = λ i. some_link (wrong_link b n) (at i) in
    same_first (ill_linked_by at b n counts marks) (ill_linked at b n (reached at n)) n
    (λ j low. ap (λ k. wrong j || (not (eqb j 0) && (not (eqb k 1) || not (get_or marks j false)))) (counted j (omega arith))
    ∙ ap (λ t. wrong j || (not (eqb j 0) && (not (eqb (named_from at j (n + 1) 0) 1) || not t))) (ap (λ l. get_or l j false) marked ∙ marks_tell links b n slots long few j low))
    ∙ ap (λ m. first_of (ill_linked at b m (reached at m)) m) told

-- the refusal of the record that is found by the tables
pub links_told : (links : List ℕ → List Link) (b : List ℕ) (n slots : ℕ) (counts : List ℕ) (marks : List Bool) (found : Option ℕ) (r : Result (Unit {0}) Refusal)
    → n ≡ told_records b → length b ≡ 32 * (n + 1) → n < slots → length counts ≡ slots → Counted (links_of links b) n counts → marks ≡ reach_marks links b (replicate slots 0) (replicate slots false)
    → found ≡ first_of (ill_linked_by (links_of links b) b n counts marks) n → r ≡ unless found Links (Ok tt)
    → r ≡ unless (first_ill_linked links b) Links (Ok tt)
links_told links b n slots counts marks found r told long few room counted marked is declined =
    declined ∙ ap (λ f. unless f Links (Ok tt)) (is ∙ tables_tell links b n slots counts marks told long few room counted marked)

-- a list with a slot for each record and the head is not too short
pub reach_goes : (links : List ℕ → List Link) (b : List ℕ) (n slots : ℕ) (e : Refusal) → length b ≡ 32 * (n + 1) → n < slots → Err e ≡ reach_answer links b (replicate slots 0) (replicate slots false) → ⊥
reach_goes links b n slots e long few declined =
    let goes : Err e ≡ Ok (length (reached_in links b)) = declined ∙ ap (λ t. cond t (Err (refused Room 0)) (Ok (length (reached_in links b)))) (roomy links b n slots long few) in
    let z : ◌≡◌ {A = ℕ} 0 1 = cc goes in
    omega arith
