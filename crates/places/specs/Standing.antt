-- What the tables say of a book whose structure is right.
use Rattle.std.specs.Prelude.{◌≡◌, ℕ, ◌<◌, ◌≤◌, List, length, nat_lt, slice_index}
use Rattle.std.specs.Bool.{then_some}
use Rattle.book.specs.declared.term.BookKind.{BookKind}
use Rattle.structure.specs.Sound.{Sound}
use Rattle.semantics.specs.Books.{place_in}
use Rattle.tree_records.specs.TreeRecords.{stations_in, phases_in}
use Rattle.places.specs.Tables.{places_of, station_in, phase_in, place_of}

-- the record of the station at place i, and the records of its phases
abbrev pub station_of : List ℕ → ℕ → ℕ
station_of b i = slice_index (stations_in b) i

abbrev pub phases_of : List ℕ → ℕ → List ℕ
phases_of b i = phases_in b (station_of b i)

-- record k is a phase of the station at place i
pub record PhaseOf (b : List ℕ) (i k : ℕ) : Type 0 where
  pub station_there : i < length (stations_in b)
  pub place : ℕ
  pub phase_there : place < length (phases_of b i)
  pub is : k ≡ slice_index (phases_of b i) place

-- The tables give the stations and each station's phases as the book's chains have them, and the place of each phase.
pub record Stands (b : List ℕ) : Type 0 where
  pub stations_are : (places_of b).stations ≡ length (stations_in b)
  pub station_is : (i : ℕ) → i < length (stations_in b) → station_in (places_of b) i ≡ station_of b i
  pub phase_is : (i j : ℕ) → i < length (stations_in b) → phase_in (places_of b) i j ≡ then_some (nat_lt j (length (phases_of b i))) (slice_index (phases_of b i) j)
  -- a record that is no phase of the station has no place below their number
  pub place_is : (i k : ℕ) → i < length (stations_in b) → place_in (phases_of b i) k < length (phases_of b i) → place_of (places_of b) k ≡ place_in (phases_of b i) k

-- so they stand for each book of sound structure with at most 16 stations
abbrev pub PlacesStand : Type 0
PlacesStand = (b : List ℕ) (kind : BookKind) → Sound b kind → length (stations_in b) ≤ 16 → Stands b
