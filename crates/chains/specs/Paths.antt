-- The paths of a book, and those with wrong ends.
use Rattle.std.specs.Prelude.{ℕ, Bool, ◌||◌, List, length, ◌==◌, nat_lt}
use Rattle.book.specs.Bytes.{two}
use Rattle.book.specs.declared.term.Path.{Path}
use Rattle.visits.specs.Smallest.{only_if, along}
use Rattle.visits.specs.Visits.{followed, stations}
use Rattle.fields.specs.Fields.{path_at}

-- the path records of a book, in the order of their chain
abbrev pub paths : List ℕ → List ℕ
paths b = followed b (two b 8)

-- In a net with n stations a path is wrong where its sender or its hearer is over n, or where the two are the same: one
-- station, or the outside, which is 0.
abbrev pub wrong_path : ℕ → Path → Bool
wrong_path n p = (nat_lt n p.sender || nat_lt n p.hearer) || p.sender == p.hearer

-- the records of the wrong paths
abbrev pub path_faults : List ℕ → List ℕ
path_faults b = let n = length (stations b) in along (λ i k. only_if (wrong_path n (path_at b k)) k) 0 (paths b)
