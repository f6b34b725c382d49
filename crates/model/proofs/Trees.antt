-- What the tree of a model book has at a station and at a phase, by the book's records.
use Rattle.std.proofs.Common.{◌≡◌, ℕ, ◌<◌, Bool, true, false, cond, List, [], map, length, get_or, Some, None, refl, ap, ◌∙◌, arith}
use Rattle.std.proofs.lemmas.List.{get_or-map, length-map}
use Rattle.book.specs.Bytes.{row}
use Rattle.book.specs.Chains.{chain_of}
use Rattle.fields.specs.Fields.{station_at, phase_at, lifetime_at, is_endless}
use Rattle.semantics.specs.Trees.{Edge, Phase, endless, lasting, lifetime_of, words_of, edges_of, blank_station}
use Rattle.semantics.specs.Books.{place_in, read_order, read_word, read_edge, read_phase, read_station, read_model}
use Rattle.semantics.specs.Machine.{meaning_at, blank_meaning}
use Rattle.semantics.specs.Meanings.{station_meaning, model_meaning}
use Rattle.tree_records.specs.TreeRecords.{stations_in}
use Rattle.tree_laws.proofs.Records.{rest_two}
use Rattle.places.specs.Standing.{station_of, phases_of}
use Rattle.model.specs.Records.{station_tree, phase_tree, words_at}

-- a phase, by its parts
module _ (b ps : List ℕ) (k : ℕ) where
  abbrev rests : Bool
  rests = is_endless (phase_at b k).lifetime

  abbrev edges : List Edge
  edges = map (read_edge b ps) (chain_of b (phase_at b k).first_edge)

  abbrev as_lasting : Phase
  as_lasting = lasting (phase_at b k).lifetime (map (read_word b) (chain_of b (phase_at b k).first_word)) (place_in ps (phase_at b k).next_phase) edges

  pub lasting_read : rests ≡ false → read_phase b ps k ≡ as_lasting
  lasting_read e = ap (λ t. cond t (endless edges) as_lasting) e

  pub endless_read : rests ≡ true → read_phase b ps k ≡ endless edges
  endless_read e = ap (λ t. cond t (endless edges) as_lasting) e

  pub life_read : lifetime_of (read_phase b ps k) ≡ lifetime_at b k
  life_read = go rests
    where
      go : (t : Bool) → lifetime_of (cond t (endless edges) as_lasting) ≡ cond t None (Some (phase_at b k).lifetime)
      go true = refl
      go false = refl

  pub edges_read : edges_of (read_phase b ps k) ≡ edges
  edges_read = go rests
    where
      go : (t : Bool) → edges_of (cond t (endless edges) as_lasting) ≡ edges
      go true = refl
      go false = refl

  pub words_read : words_of (read_phase b ps k) ≡ map (read_word b) (words_at b k)
  words_read = go rests
    where
      go : (t : Bool) → words_of (cond t (endless edges) as_lasting) ≡ map (read_word b) (cond t [] (chain_of b (phase_at b k).first_word))
      go true = refl
      go false = refl

-- a station
module _ (b : List ℕ) (i : ℕ) where
  first_is : chain_of b (station_at b (station_of b i)).first_phase ≡ phases_of b i
  first_is = ap (chain_of b) (rest_two (row b (station_of b i)) 0)

  pub phases_read : (station_tree b i).phases ≡ map (phase_tree b i) (phases_of b i)
  phases_read = ap (λ ps. map (read_phase b ps) ps) first_is

  pub opening_read : (station_tree b i).opening ≡ place_in (phases_of b i) (station_at b (station_of b i)).opening
  opening_read = ap (λ ps. place_in ps (station_at b (station_of b i)).opening) first_is

  pub phase_count : length (station_tree b i).phases ≡ length (phases_of b i)
  phase_count = ap length phases_read ∙ length-map (phases_of b i) (phase_tree b i)

  pub phase_read : (j : ℕ) (f : Phase) → j < length (phases_of b i) → get_or (station_tree b i).phases j f ≡ phase_tree b i (get_or (phases_of b i) j 0)
  phase_read j f h = ap (λ fs. get_or fs j f) phases_read ∙ get_or-map (phase_tree b i) (phases_of b i) j 0 f h

-- the meaning
pub meaning_count : (b : List ℕ) → length (model_meaning (read_model b)) ≡ length (stations_in b)
meaning_count b = length-map (map (read_station b) (stations_in b)) (station_meaning (read_order b)) ∙ length-map (stations_in b) (read_station b)

pub meaning_read : (b : List ℕ) (i : ℕ) → i < length (stations_in b) → meaning_at (model_meaning (read_model b)) i ≡ station_meaning (read_order b) (station_tree b i)
meaning_read b i h =
    let long = length-map (stations_in b) (read_station b) in
    get_or-map (station_meaning (read_order b)) (map (read_station b) (stations_in b)) i blank_station blank_meaning (omega arith)
    ∙ ap (station_meaning (read_order b)) (get_or-map (read_station b) (stations_in b) i 0 blank_station h)
