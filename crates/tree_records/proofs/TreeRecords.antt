-- Of a book whose structure is right, the tree's records are different, and no more than the head tells.
use Rattle.std.proofs.Common.{◌≡◌, ℕ, ◌≤◌, List, [], ◌∷◌, ◌++◌, length, sym, ap, ◌∙◌, subst, ⊎_elim, arith}
use Rattle.std.specs.List.{flat_map, AllByRecursion}
use Rattle.std.proofs.lemmas.List.{length-append}
use Rattle.std.proofs.ByRecursion.{All-weaker}
use Rattle.book.specs.Bytes.{two, row}
use Rattle.book.specs.Chains.{chain_of, next_index, whole_records}
use Rattle.book.specs.declared.term.BookKind.{BookKind}
use Rattle.links.specs.Queues.{Distinct}
use Rattle.structure.specs.Faults.{told_records}
use Rattle.structure.specs.Sound.{Sound, links_at}
use Rattle.structure.proofs.Marking.{all_whole}
use Rattle.tree_records.specs.TreeRecords.{stations_in, phases_in, edges_in, words_in, paths_in, of_phase, of_station, tree_records, TreesHaveDifferentRecords}
use Rattle.tree_records.proofs.Once.{same, count, total_joined_le, joined_single, Once, once_distinct, once_front, once_back, once_joined, distinct_few}
use Rattle.tree_records.proofs.Naming.{head_names, once_from_names}
use Rattle.tree_records.proofs.Segments.{chain_some, head_two, tree_few, tree_inside}

-- where each number of a list gives something, and there is one, they give something
joined_some : {X Y : Type 0} (f : X → List Y) → ((x : X) → 1 ≤ length (f x)) → (xs : List X) → 1 ≤ length xs → 1 ≤ length (flat_map f xs)
joined_some f one [] h = absurd (omega arith)
joined_some f one (x ∷ xs) h = omega (arith, one x, length-append (f x) (flat_map f xs))

-- parts of a tree in which no record stands twice
module _ (b : List ℕ) (kind : BookKind) (once : Once (tree_records kind b)) where
  stations_once : Once (flat_map (of_station kind b) (stations_in b))
  stations_once = once_front (flat_map (of_station kind b) (stations_in b)) (paths_in b) once

  phases_once : Once (flat_map (phases_in b) (stations_in b))
  phases_once k =
      let own : (ps : List ℕ) → count k ps ≤ count k (flat_map (of_phase kind b) ps) = λ ps.
      omega (arith, ap (count k) (joined_single ps), total_joined_le (same k) (λ p. p ∷ []) (of_phase kind b) (λ p. omega arith) ps)
      in
      omega (arith, stations_once k, total_joined_le (same k) (phases_in b) (of_station kind b) (λ s. omega (arith, own (phases_in b s))) (stations_in b))

  edges_distinct : AllByRecursion (λ s. AllByRecursion (λ p. Distinct (edges_in b p)) (phases_in b s)) (stations_in b)
  edges_distinct =
      All-weaker (λ s. Once (of_station kind b s)) (λ s. AllByRecursion (λ p. Distinct (edges_in b p)) (phases_in b s))
      (λ s o. All-weaker (λ p. Once (of_phase kind b p)) (λ p. Distinct (edges_in b p))
      (λ p q. once_distinct (edges_in b p) (once_front (edges_in b p) (words_in kind b p) (once_back (p ∷ []) (edges_in b p ++ words_in kind b p) q)))
      (phases_in b s) (once_joined (of_phase kind b) (phases_in b s) (once_back (s ∷ []) (flat_map (of_phase kind b) (phases_in b s)) o)))
      (stations_in b) (once_joined (of_station kind b) (stations_in b) stations_once)

-- the head names a station or a path
tree_some : (b : List ℕ) (kind : BookKind) → Sound b kind → 1 ≤ length (tree_records kind b)
tree_some b kind s =
    let n = told_records b in
    let whole : whole_records b ≡ n = all_whole b n s.whole in
    let first = head_names (links_at kind b) n 1 (s.each_reached 1 (omega arith) s.some_records) (omega arith) in
    let j = first.0 in
    let chains : (i : ℕ) → i ≡ j → 1 ≤ length (chain_of b i) = λ i e.
    chain_some (λ i. next_index (row b i)) (whole_records b) (whole_records b) i (omega (arith, s.some_records)) (omega (arith, first.2)) (omega (arith, first.3))
    in
    let tree = flat_map (of_station kind b) (stations_in b) in
    ⊎_elim {C = 1 ≤ length (tree ++ paths_in b)}
    (λ (station : two (row b 0) 6 ≡ j).
    omega (arith, length-append tree (paths_in b), joined_some (of_station kind b) (λ t. omega arith) (stations_in b) (chains (two b 6) (sym (head_two b 6 (omega arith)) ∙ station))))
    (⊎_elim
    (λ (path : two (row b 0) 8 ≡ j). omega (arith, length-append tree (paths_in b), chains (two b 8) (sym (head_two b 8 (omega arith)) ∙ path)))
    (⊎_elim (λ (z : 0 ≡ j). absurd (omega (arith, first.2))) (λ z. absurd z)))
    first.1

pub trees_have_different_records : TreesHaveDifferentRecords
trees_have_different_records b kind s =
    let n = told_records b in
    let tree = tree_records kind b in
    let within : AllByRecursion (λ k. (1 ≤ k) × (k ≤ n)) tree = subst (λ m. AllByRecursion (λ k. (1 ≤ k) × (k ≤ m)) tree) (all_whole b n s.whole) (tree_inside b kind) in
    let once = once_from_names (links_at kind b) n tree within s.each_named_once (λ k low high. tree_few b kind s k low) s.each_reached in
    let different = once_distinct tree once in
    record {
      within = within;
      different = different;
      few = distinct_few n tree within different;
      some = tree_some b kind s;
      phases_apart = once_distinct (flat_map (phases_in b) (stations_in b)) (phases_once b kind once);
      edges_apart = edges_distinct b kind once;
    }
