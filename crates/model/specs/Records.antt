-- Where a model book holds what a machine is asked.
use Rattle.std.specs.Prelude.{ℕ, cond, List, []}
use Rattle.book.specs.Chains.{chain_of}
use Rattle.fields.specs.Fields.{phase_at, is_endless}
use Rattle.semantics.specs.Books.{read_phase, read_station}
use Rattle.semantics.specs.Trees.{Phase, Station}
use Rattle.places.specs.Standing.{station_of, phases_of}

-- the station at place i, and the phase of record k as one of its phases
abbrev pub station_tree : List ℕ → ℕ → Station
station_tree b i = read_station b (station_of b i)

abbrev pub phase_tree : List ℕ → ℕ → ℕ → Phase
phase_tree b i k = read_phase b (phases_of b i) k

-- the records of the words of phase k; an endless one has none
abbrev pub words_at : List ℕ → ℕ → List ℕ
words_at b k = cond (is_endless (phase_at b k).lifetime) [] (chain_of b (phase_at b k).first_word)
