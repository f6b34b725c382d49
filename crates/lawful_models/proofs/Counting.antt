-- Counting: the tree has no more records than its chains.
use Rattle.std.proofs.Common.{ℕ, ◌+◌, ◌≤◌, Bool, true, false, cond, List, map, length, arith}
use Rattle.std.specs.List.{flat_map}
use Rattle.std.proofs.lemmas.List.{length-append, length-map}
use Rattle.book.specs.declared.term.BookKind.TheVariants.{Model}
use Rattle.fields.specs.Fields.{phase_at, path_at, is_endless}
use Rattle.semantics.specs.Times.{Fraction}
use Rattle.semantics.specs.Trees.{Edge, Word, endless, lasting}
use Rattle.semantics.specs.LawfulModels.{phase_records, station_records, model_records}
use Rattle.semantics.specs.Books.{place_in, read_word, read_edge}
use Rattle.tree_records.specs.TreeRecords.{stations_in, phases_in, edges_in, words_in, paths_in, of_phase, of_station, tree_records}
use Rattle.kept_rules.proofs.Everywhere.{sum_joined}
use Rattle.lawful_models.proofs.Reading.{tree_phase, tree_station, tree_model}

either_records : (t : Bool) (l : Fraction) (ws : List Word) (next : ℕ) (es : List Edge) → phase_records (cond t (endless es) (lasting l ws next es)) ≤ 1 + (length ws + length es)
either_records true l ws next es = omega arith
either_records false l ws next es = omega arith

phase_few : (b ps : List ℕ) (p : ℕ) → phase_records (tree_phase b ps p) ≤ length (of_phase Model b p)
phase_few b ps p =
    let es = edges_in b p in
    let ws = words_in Model b p in
    let few = either_records (is_endless (phase_at b p).lifetime) (phase_at b p).lifetime (map (read_word b) ws) (place_in ps (phase_at b p).next_phase) (map (read_edge b ps) es) in
    omega (arith, few, length-map ws (read_word b), length-map es (read_edge b ps), length-append es ws)

station_few : (b : List ℕ) (s : ℕ) → station_records (tree_station b s) ≤ length (of_station Model b s)
station_few b s =
    let ps = phases_in b s in
    let few = sum_joined phase_records (tree_phase b ps) (of_phase Model b) (phase_few b ps) ps in
    omega arith

pub model_few : (b : List ℕ) → model_records (tree_model b) ≤ length (tree_records Model b)
model_few b =
    let ss = stations_in b in
    let few = sum_joined station_records (tree_station b) (of_station Model b) (station_few b) ss in
    omega (arith, length-append (flat_map (of_station Model b) ss) (paths_in b), length-map (paths_in b) (path_at b))
