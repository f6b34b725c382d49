-- Gearing a whole machine: a list has a factor for each station, that of station 1 first.
use Rattle.std.specs.Prelude.{ℕ, suc, ◌*◌, Bool, cond, ◌||◌, List, [], ◌∷◌, length, Option, ◌==◌, nat_lt, slice_index}
use Rattle.semantics.specs.Machine.{Meaning, meaning_at, gear}
use Rattle.semantics.specs.Calls.{lowest, number}

-- A factor does not fit a scale: it is 0, or there would be over 1,000,000 ticks per second.
abbrev pub misfits : ℕ → ℕ → Bool
misfits scale f = f == 0 || nat_lt 1000000 (scale * f)

-- the factor in use: the wanted one, or 1 where that does not fit
abbrev pub in_use : ℕ → ℕ → ℕ
in_use scale f = cond (misfits scale f) 1 f

-- the factor wanted for the station at a place, counted from 0; none is wanted past the list
abbrev pub wanted : List ℕ → ℕ → ℕ
wanted fs i = slice_index fs i

-- Each station geared by the factor in use. The first station's factor stands at place i.
abbrev pub geared_from : ℕ → Meaning → List ℕ → Meaning
geared_from i [] fs = []
geared_from i (m ∷ ms) fs = gear (in_use m.scale (wanted fs i)) m ∷ geared_from (suc i) ms fs

abbrev pub geared_by : Meaning → List ℕ → Meaning
geared_by ms fs = geared_from 0 ms fs

-- Each station geared by the wanted factor, whether that fits or not.
abbrev pub as_wanted_from : ℕ → Meaning → List ℕ → Meaning
as_wanted_from i [] fs = []
as_wanted_from i (m ∷ ms) fs = gear (wanted fs i) m ∷ as_wanted_from (suc i) ms fs

abbrev pub as_wanted : Meaning → List ℕ → Meaning
as_wanted ms fs = as_wanted_from 0 ms fs

-- the station at place i cannot be geared as wanted
abbrev pub misfit_at : Meaning → List ℕ → ℕ → Bool
misfit_at ms fs i = misfits (meaning_at ms i).scale (wanted fs i)

-- the lowest station that cannot, by its number from 1
abbrev pub lowest_misfit : Meaning → List ℕ → Option ℕ
lowest_misfit ms fs = number (lowest (misfit_at ms fs) 0 (length ms))
