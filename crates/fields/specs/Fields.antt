-- The fields of record k of a book, as its bytes give them. A record is read as whatever kind is asked for.
use Rattle.std.specs.Prelude.{ℕ, Bool, cond, ◌&&◌, List, drop, Some, None, Option, ◌==◌}
use Rattle.book.specs.Bytes.{at, row}
use Rattle.book.specs.declared.record.Fraction.{Fraction}
use Rattle.book.specs.declared.record.Station.{Station}
use Rattle.book.specs.declared.record.Phase.{Phase}
use Rattle.book.specs.declared.record.Edge.{Edge}
use Rattle.book.specs.declared.record.Automaton.{Automaton}
use Rattle.book.specs.declared.record.Location.{Location}
use Rattle.book.specs.declared.record.Transition.{Transition}
use Rattle.book.specs.declared.term.Path.{Path}
use Rattle.records.specs.Fields.{path_in}
use Rattle.records.specs.Model.{station_in, phase_in, edge_in}
use Rattle.records.specs.Automaton.{automaton_in, location_in, transition_in}

-- a record's marks, and its bytes from 4 on
abbrev pub marks_of : List ℕ → ℕ → ℕ
marks_of b k = at (row b k) 1

abbrev pub rest_of : List ℕ → ℕ → List ℕ
rest_of b k = drop 4 (row b k)

-- of a model book
abbrev pub station_at : List ℕ → ℕ → Station
station_at b k = station_in (rest_of b k)

abbrev pub phase_at : List ℕ → ℕ → Phase
phase_at b k = phase_in (rest_of b k)

abbrev pub edge_at : List ℕ → ℕ → Edge
edge_at b k = edge_in (marks_of b k) (rest_of b k)

-- of an automaton book
abbrev pub automaton_at : List ℕ → ℕ → Automaton
automaton_at b k = automaton_in (rest_of b k)

abbrev pub location_at : List ℕ → ℕ → Location
location_at b k = location_in (marks_of b k) (rest_of b k)

abbrev pub transition_at : List ℕ → ℕ → Transition
transition_at b k = transition_in (marks_of b k) (rest_of b k)

-- of either
abbrev pub path_at : List ℕ → ℕ → Path
path_at b k = path_in (rest_of b k)

-- 0/0 is endless
abbrev pub is_endless : Fraction → Bool
is_endless t = t.numerator == 0 && t.denominator == 0

-- the lifetime of phase p; an endless one has none
abbrev pub lifetime_at : List ℕ → ℕ → Option Fraction
lifetime_at b p = cond (is_endless (phase_at b p).lifetime) None (Some (phase_at b p).lifetime)
