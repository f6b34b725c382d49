-- What the search for the reached records answers, and what its lists then hold.
use Rattle.std.specs.Prelude.{ℕ, Bool, cond, ◌||◌, List, length, Ok, Err, Result, nat_le}
use Rattle.book.specs.declared.refusal.Refusal.{Refusal}
use Rattle.book.specs.declared.refusal.Fault.TheVariants.{Room}
use Rattle.book.specs.Refusals.{refused}
use Rattle.book.specs.Chains.{whole_records}
use Rattle.links.specs.declared.link.Link.{Link}
use Rattle.links.specs.Fields.{links_of}
use Rattle.links.specs.Naming.{reached, marks}
use Rattle.links.specs.Walks.{filled}

-- the records of a book that are reached, with the head first
abbrev pub reached_in : (List ℕ → List Link) → List ℕ → List ℕ
reached_in links b = reached (links_of links b) (whole_records b)

-- one of the lists has not a slot for the head and each record
abbrev pub cramped : List ℕ → List ℕ → List Bool → Bool
cramped b list flags = nat_le (length list) (whole_records b) || nat_le (length flags) (whole_records b)

-- the number of records that are reached, the head among them, or that a list is too short
abbrev pub reach_answer : (List ℕ → List Link) → List ℕ → List ℕ → List Bool → Result ℕ Refusal
reach_answer links b list flags = cond (cramped b list flags) (Err (refused Room 0)) (Ok (length (reached_in links b)))

-- the list then has these records, in the order in which they are met
abbrev pub reach_list : (List ℕ → List Link) → List ℕ → List ℕ → List Bool → List ℕ
reach_list links b list flags = cond (cramped b list flags) list (filled (reached_in links b) list)

-- and the marks tell of the head and of each record whether it is one of these
abbrev pub reach_marks : (List ℕ → List Link) → List ℕ → List ℕ → List Bool → List Bool
reach_marks links b list flags = cond (cramped b list flags) flags (filled (marks (reached_in links b) (whole_records b)) flags)
