-- The records that a book's tree is made of. Of a book whose structure is right they are different, and as many at most as
-- the head tells.
use Rattle.std.specs.Prelude.{ℕ, ◌≤◌, List, [], ◌∷◌, ◌++◌, length}
use Rattle.std.specs.List.{flat_map, AllByRecursion}
use Rattle.book.specs.Bytes.{two, row}
use Rattle.book.specs.Chains.{chain_of}
use Rattle.book.specs.declared.term.BookKind.{BookKind}
use Rattle.book.specs.declared.term.BookKind.TheVariants.{Model, Automaton}
use Rattle.links.specs.Queues.{Distinct}
use Rattle.structure.specs.Faults.{told_records}
use Rattle.structure.specs.Sound.{Sound}

-- the stations of a book, the phases of a station, the edges and the words of a phase, and the paths, as record numbers. In
-- an automaton book these are automata, locations and transitions, and there are no words.
abbrev pub stations_in : List ℕ → List ℕ
stations_in b = chain_of b (two b 6)

abbrev pub phases_in : List ℕ → ℕ → List ℕ
phases_in b s = chain_of b (two (row b s) 4)

abbrev pub edges_in : List ℕ → ℕ → List ℕ
edges_in b p = chain_of b (two (row b p) 4)

abbrev pub words_in : BookKind → List ℕ → ℕ → List ℕ
words_in Model b p = chain_of b (two (row b p) 8)
words_in Automaton b p = []

abbrev pub paths_in : List ℕ → List ℕ
paths_in b = chain_of b (two b 8)

-- a phase with its edges and words, a station with its phases, and all of a book
abbrev pub of_phase : BookKind → List ℕ → ℕ → List ℕ
of_phase kind b p = p ∷ (edges_in b p ++ words_in kind b p)

abbrev pub of_station : BookKind → List ℕ → ℕ → List ℕ
of_station kind b s = s ∷ flat_map (of_phase kind b) (phases_in b s)

abbrev pub tree_records : BookKind → List ℕ → List ℕ
tree_records kind b = flat_map (of_station kind b) (stations_in b) ++ paths_in b

pub record TreeOf (b : List ℕ) (kind : BookKind) : Type 0 where
  pub within : AllByRecursion (λ k. (1 ≤ k) × (k ≤ told_records b)) (tree_records kind b)
  pub different : Distinct (tree_records kind b)
  pub few : length (tree_records kind b) ≤ told_records b
  pub some : 1 ≤ length (tree_records kind b)
  -- so no phase is one of two stations, and no edge stands twice in its phase
  pub phases_apart : Distinct (flat_map (phases_in b) (stations_in b))
  pub edges_apart : AllByRecursion (λ s. AllByRecursion (λ p. Distinct (edges_in b p)) (phases_in b s)) (stations_in b)

abbrev pub TreesHaveDifferentRecords : Type 0
TreesHaveDifferentRecords = (b : List ℕ) (kind : BookKind) → Sound b kind → TreeOf b kind
