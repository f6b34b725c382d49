-- The tree of a model book, by the same chains as its rules go.
use Rattle.std.proofs.Common.{◌≡◌, ℕ, zero, suc, false, cond, ltb, List, [], ◌∷◌, map, refl, ap, ◌∙◌, ap₂}
use Rattle.book.specs.Bytes.{two, row}
use Rattle.book.specs.Chains.{whole_records, chain, chain_of}
use Rattle.book.specs.declared.term.BookKind.TheVariants.{Model}
use Rattle.records.specs.Heads.{order_in}
use Rattle.fields.specs.Fields.{station_at, phase_at, path_at, is_endless}
use Rattle.semantics.specs.Trees.{Phase, endless, lasting, Station, ModelNet}
use Rattle.semantics.specs.Books.{place_in, read_word, read_edge, read_phase, read_station, read_model}
use Rattle.tree_records.specs.TreeRecords.{stations_in, phases_in, edges_in, words_in, paths_in}
use Rattle.kept_rules.proofs.ByChains.{followed_is, Chains, ChainsOf}
use Rattle.tree_laws.proofs.Records.{rest_two}

-- the tree, by the chains of tree_records
abbrev pub tree_phase : List ℕ → List ℕ → ℕ → Phase
tree_phase b ps p =
    let f = phase_at b p in
    let edges = map (read_edge b ps) (edges_in b p) in
    let words = map (read_word b) (words_in Model b p) in
    cond (is_endless f.lifetime) (endless edges) (lasting f.lifetime words (place_in ps f.next_phase) edges)

abbrev pub tree_station : List ℕ → ℕ → Station
tree_station b s = record {
  opening = place_in (phases_in b s) (station_at b s).opening;
  phases = map (tree_phase b (phases_in b s)) (phases_in b s);
}

abbrev pub tree_model : List ℕ → ModelNet
tree_model b = record { order = order_in b; stations = map (tree_station b) (stations_in b); paths = map (path_at b) (paths_in b) }

map_same : {X Y : Type 0} (f g : X → Y) → ((x : X) → f x ≡ g x) → (xs : List X) → map f xs ≡ map g xs
map_same f g same [] = refl
map_same f g same (x ∷ xs) = ap₂ ◌∷◌ (same x) (map_same f g same xs)

same_phase : (b ps : List ℕ) (p : ℕ) → read_phase b ps p ≡ tree_phase b ps p
same_phase b ps p =
    let f = phase_at b p in
    ap₂ (λ (i j : ℕ).
    let edges = map (read_edge b ps) (chain_of b i) in
    let words = map (read_word b) (chain_of b j) in
    cond (is_endless f.lifetime) (endless edges) (lasting f.lifetime words (place_in ps f.next_phase) edges))
    (rest_two (row b p) 0) (rest_two (row b p) 4)

same_station : (b : List ℕ) (s : ℕ) → read_station b s ≡ tree_station b s
same_station b s =
    let built : List ℕ → List Phase → Station = λ ps fs. record { opening = place_in ps (station_at b s).opening; phases = fs } in
    ap (λ i. let ps = chain_of b i in built ps (map (read_phase b ps) ps)) (rest_two (row b s) 0)
    ∙ ap (built (phases_in b s)) (map_same (read_phase b (phases_in b s)) (tree_phase b (phases_in b s)) (same_phase b (phases_in b s)) (phases_in b s))

pub same_model : (b : List ℕ) → read_model b ≡ tree_model b
same_model b =
    ap (λ (ss : List Station). record { order = order_in b; stations = ss; paths = map (path_at b) (paths_in b) })
    (map_same (read_station b) (tree_station b) (same_station b) (stations_in b))

-- no chain from 0
pub chain_none : (next : ℕ → ℕ) (n k : ℕ) → chain next n k 0 ≡ []
chain_none next n zero = refl
chain_none next n (suc k) = refl

-- the chains of a model book
abbrev pub model_chains : List ℕ → Chains
model_chains b = record { stations = stations_in b; phases = phases_in b; edges = edges_in b; words = words_in Model b }

pub chains_followed : (b : List ℕ) → ltb 2000 (whole_records b) ≡ false → ChainsOf b (model_chains b)
chains_followed b few = record {
  stations_are = followed_is b few (two b 6);
  phases_are = λ s. followed_is b few (two (row b s) 4);
  edges_are = λ p. followed_is b few (two (row b p) 4);
  words_are = λ p. followed_is b few (two (row b p) 8);
}
