-- The tables in which names are counted, and the same tests by tables. Only the check's own
-- functions speak of them.
use Rattle.std.specs.Prelude.{◌≡◌, ℕ, ◌+◌, ◌<◌, Bool, false, not, ◌&&◌, ◌||◌, List, length, ◌==◌, slice_index, slice_index_or}
use Rattle.links.specs.declared.link.Link.{Link}
use Rattle.links.specs.Naming.{names, named_from}
use Rattle.structure.specs.Faults.{wrong_link, some_link}

-- each count has grown by how often the index fields name its record
abbrev pub CountedOn : List ℕ → List Link → List ℕ → Type 0
CountedOn counts ls counts' = (j : ℕ) → j < length counts → slice_index counts' j ≡ slice_index counts j + names j ls

-- each count is how often the n records and the head name its record
abbrev pub Counted : (ℕ → List Link) → ℕ → List ℕ → Type 0
Counted links n counts = (j : ℕ) → j < length counts → slice_index counts j ≡ named_from links j (n + 1) 0

-- record i is ill linked, where tables tell how often each is named and whether it is reached
abbrev pub ill_linked_by : (ℕ → List Link) → List ℕ → ℕ → List ℕ → List Bool → ℕ → Bool
ill_linked_by links b n counts marks i =
    some_link (wrong_link b n) (links i)
    || (not (i == 0) && (not (slice_index counts i == 1) || not (slice_index_or marks i false)))
