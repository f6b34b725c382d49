-- What is told of a book whose structure is right.
use Rattle.std.proofs.Common.{◌≡◌, ℕ, ◌<◌, ◌≤◌, true, false, cond, List, map, length, Ok, Err, Result, sym, ap, ◌∙◌, arith}
use Rattle.std.proofs.lemmas.List.{length-map}
use Rattle.std.proofs.lemmas.Bool.{lt-ltb, le-ltb}
use Rattle.book.specs.Bytes.{two}
use Rattle.book.specs.Chains.{whole_records, chain_of}
use Rattle.book.specs.Refusals.{refused}
use Rattle.book.specs.Terms.{most_records}
use Rattle.book.specs.declared.refusal.Fault.TheVariants.{Room}
use Rattle.book.specs.declared.refusal.Refusal.{Refusal}
use Rattle.book.specs.declared.term.BookKind.{BookKind}
use Rattle.book.specs.declared.term.BookKind.TheVariants.{Model, Automaton}
use Rattle.book.specs.declared.term.Path.{Path}
use Rattle.links.specs.Walks.{filled, short, walk_answer}
pub use Rattle.links.proofs.Listed.{walk_listed}
use Rattle.structure.specs.Faults.{told_records}
use Rattle.structure.specs.Structure.{structure_of}
use Rattle.structure.specs.Heads.{then, path_at, paths_in, few_slots, paths_answer, paths_list, listed_by}
use Rattle.structure.proofs.Marking.{all_whole}
use Rattle.structure.proofs.Stages.{no_error}
use Rattle.structure.proofs.Soundness.{passes_sound}

-- the walk in a book whose structure is right has room in 2,000 slots
pub walk_goes : (b : List ℕ) (kind : BookKind) (first : ℕ) (slots : List ℕ) (e : Refusal) → structure_of b ≡ Ok kind → 2000 ≤ length slots → Err e ≡ walk_answer b first slots → ⊥
walk_goes b kind first slots e right room declined =
    let s = (passes_sound b kind).0 right in
    let most : most_records kind ≤ 2000 = most_2000 kind in
    let long : short b slots ≡ false = le-ltb (length slots) (whole_records b) (omega (arith, all_whole b (told_records b) s.whole, s.few_records)) in
    no_error (declined ∙ ap (λ t. cond t (Err (refused Room 0)) (Ok (length (chain_of b first)))) long)
  where
    most_2000 : (kind : BookKind) → most_records kind ≤ 2000
    most_2000 Model = omega arith
    most_2000 Automaton = omega arith

-- the paths of a book whose structure is right, in a list with a slot for each
module _ (b : List ℕ) (kind : BookKind) (sound : structure_of b ≡ Ok kind) (list : List Path) where
  abbrev rest : Result ℕ Refusal
  rest = cond (few_slots b list) (Err (refused Room 0)) (Ok (length (paths_in b)))

  answered : paths_answer b list ≡ rest
  answered = ap (λ r. then r rest) sound

  counted : (count : ℕ) → count ≡ length (chain_of b (two b 8)) → count ≡ length (paths_in b)
  counted count e = e ∙ sym (length-map (chain_of b (two b 8)) (path_at b))

  pub too_few : (count : ℕ) → count ≡ length (chain_of b (two b 8)) → length list < count → (Err (refused Room 0) ≡ paths_answer b list) × (list ≡ paths_list b list)
  too_few count e less =
      let short : few_slots b list ≡ true = lt-ltb (length list) (length (paths_in b)) (omega (arith, counted count e)) in
      let answer : paths_answer b list ≡ Err (refused Room 0) = answered ∙ ap (λ t. cond t (Err (refused Room 0)) (Ok (length (paths_in b)))) short in
      (sym answer, sym (ap (λ r. listed_by r (paths_in b) list) answer))

  pub enough : (count : ℕ) → count ≡ length (chain_of b (two b 8)) → count ≤ length list → (numbers : List ℕ) → numbers ≡ chain_of b (two b 8) → (list' : List Path) → list' ≡ filled (map (path_at b) numbers) list → (Ok count ≡ paths_answer b list) × (list' ≡ paths_list b list)
  enough count e room numbers is list' full =
      let long : few_slots b list ≡ false = le-ltb (length list) (length (paths_in b)) (omega (arith, counted count e)) in
      let answer : paths_answer b list ≡ Ok (length (paths_in b)) = answered ∙ ap (λ t. cond t (Err (refused Room 0)) (Ok (length (paths_in b)))) long in
      (ap (λ k. Ok k) (counted count e) ∙ sym answer, full ∙ ap (λ l. filled (map (path_at b) l) list) is ∙ sym (ap (λ r. listed_by r (paths_in b) list) answer))
