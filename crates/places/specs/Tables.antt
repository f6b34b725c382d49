-- Tables of record numbers and of places.
use Rattle.std.specs.Prelude.{ℕ, zero, suc, ◌+◌, List, [], ◌∷◌, map, length, take, replicate, None, Option, nat_lt, slice_index, slice_index_or, slice_set}
use Rattle.std.specs.Bool.{then_some}
use Rattle.visits.specs.Visits.{stations, phases}
use Rattle.places.specs.declared.table.Places.{Places}
use Rattle.places.specs.declared.table.StationRow.{StationRow}

-- the numbers of a list, put one by one into a table from slot i on; what would go past its end is left out
abbrev pub listed : List ℕ → ℕ → List ℕ → List ℕ
listed t i [] = t
listed t i (k ∷ ks) = listed (slice_set t i k) (suc i) ks

-- the place of each number of a list, put at that number; places are counted from i
abbrev pub placed : List ℕ → ℕ → List ℕ → List ℕ
placed t i [] = t
placed t i (k ∷ ks) = placed (slice_set t k i) (suc i) ks

-- the same for the phases of stations, each station's behind those before; places are counted from 0 in each station
abbrev pub all_listed : List ℕ → List ℕ → ℕ → List ℕ → List ℕ
all_listed b t used [] = t
all_listed b t used (s ∷ ss) = all_listed b (listed t used (phases b s)) (used + length (phases b s)) ss

abbrev pub all_placed : List ℕ → List ℕ → List ℕ → List ℕ
all_placed b t [] = t
all_placed b t (s ∷ ss) = all_placed b (placed t 0 (phases b s)) ss

-- the slots at which the phases of the stations begin, from place i on, with so many used before them
abbrev pub all_starts : List ℕ → List ℕ → ℕ → ℕ → List ℕ → List ℕ
all_starts b t i used [] = t
all_starts b t i used (s ∷ ss) = all_starts b (slice_set t i used) (suc i) (used + length (phases b s)) ss

-- how many phases each station has
abbrev pub counts_in : List ℕ → List ℕ → List ℕ
counts_in b ss = map (λ s. length (phases b s)) ss

-- the row of a station whose phases begin at slot `used`, and that of no station
abbrev pub row_for : List ℕ → ℕ → ℕ → StationRow
row_for b used s = record { number = s; start = used; count = length (phases b s) }

abbrev pub no_row : StationRow
no_row = record { number = 0; start = 0; count = 0 }

-- the rows of the stations, put into a table from place i on, with so many slots used before them
abbrev pub all_rows : List ℕ → List StationRow → ℕ → ℕ → List ℕ → List StationRow
all_rows b t i used [] = t
all_rows b t i used (s ∷ ss) = all_rows b (slice_set t i (row_for b used s)) (suc i) (used + length (phases b s)) ss

-- the tables of these stations, and those of a book
abbrev pub places_along : List ℕ → List ℕ → Places
places_along b ss = record {
  stations = length ss;
  rows = all_rows b (replicate 16 no_row) 0 0 ss;
  records = all_listed b (replicate 2000 0) 0 ss;
  places = all_placed b (replicate 2001 0) ss;
}

abbrev pub places_of : List ℕ → Places
places_of b = places_along b (take 16 (stations b))

-- the place of station k of n, whose numbers count from 1
abbrev pub place_asked : ℕ → ℕ → Option ℕ
place_asked n zero = None
place_asked n (suc i) = then_some (nat_lt i n) i

-- what is read from the tables
abbrev pub row_in : Places → ℕ → StationRow
row_in t i = slice_index_or t.rows i no_row

abbrev pub station_in : Places → ℕ → ℕ
station_in t i = (row_in t i).number

abbrev pub phase_in : Places → ℕ → ℕ → Option ℕ
phase_in t i j = then_some (nat_lt j (row_in t i).count) (slice_index t.records ((row_in t i).start + j))

abbrev pub place_of : Places → ℕ → ℕ
place_of t k = slice_index t.places k
