-- A rule about the records of a book, by where each stands, and the records that break it.
use Rattle.std.specs.Prelude.{ℕ, Bool, cond, List, [], ◌++◌, nat_lt}
use Rattle.book.specs.Bytes.{two, row}
use Rattle.book.specs.Chains.{whole_records, chain_of}
use Rattle.visits.specs.Smallest.{only_if, along}

-- the chain from record i on; none is followed in bytes that are longer than any book
abbrev pub followed : List ℕ → ℕ → List ℕ
followed b i = cond (nat_lt 2000 (whole_records b)) [] (chain_of b i)

-- the stations of a book, the phases of a station, the edges and the words of a phase, as record numbers. In an automaton
-- book these are automata, locations and transitions, and there are no words.
abbrev pub stations : List ℕ → List ℕ
stations b = followed b (two b 6)

abbrev pub phases : List ℕ → ℕ → List ℕ
phases b s = followed b (two (row b s) 4)

abbrev pub edges : List ℕ → ℕ → List ℕ
edges b p = followed b (two (row b p) 4)

abbrev pub words : List ℕ → ℕ → List ℕ
words b p = followed b (two (row b p) 8)

-- A rule says whether a record breaks it: a station by its place, counted from 0; a phase by its station and its place; an
-- edge by its station and phase; a word by its place.
pub record Rule : Type 0 where
  pub station : ℕ → ℕ → Bool
  pub phase : ℕ → ℕ → ℕ → Bool
  pub edge : ℕ → ℕ → ℕ → Bool
  pub word : ℕ → ℕ → Bool

-- the records that break a rule
module _ (b : List ℕ) (r : Rule) where
  abbrev pub edge_faults : ℕ → ℕ → List ℕ
  edge_faults s p = along (λ i e. only_if (r.edge s p e) e) 0 (edges b p)

  abbrev pub word_faults : ℕ → List ℕ
  word_faults p = along (λ i w. only_if (r.word i w) w) 0 (words b p)

  abbrev pub phase_faults : ℕ → ℕ → ℕ → List ℕ
  phase_faults s i p = only_if (r.phase s i p) p ++ (edge_faults s p ++ word_faults p)

  abbrev pub station_faults : ℕ → ℕ → List ℕ
  station_faults i s = only_if (r.station i s) s ++ along (phase_faults s) 0 (phases b s)

  abbrev pub faults : List ℕ
  faults = along station_faults 0 (stations b)
