-- The head of a book and its paths.
use Rattle.std.specs.Prelude.{ℕ, Bool, cond, List, length, Ok, Err, Result, nat_lt}
use Rattle.book.specs.Refusals.{refused}
use Rattle.book.specs.declared.record.Head.{Head}
use Rattle.book.specs.declared.refusal.Fault.TheVariants.{Room}
use Rattle.book.specs.declared.refusal.Refusal.{Refusal}
use Rattle.book.specs.declared.term.Order.{Order}
use Rattle.book.specs.declared.term.Path.{Path}
pub use Rattle.records.specs.Heads.{order_in, head_in, path_at, paths_in}
use Rattle.links.specs.Walks.{filled}
use Rattle.structure.specs.Structure.{structure_of}

-- what is told of a book whose structure is right, or the refusal
abbrev pub then : {A B : Type 0} → Result A Refusal → Result B Refusal → Result B Refusal
then (Ok x) later = later
then (Err e) later = Err e

abbrev pub head_of : List ℕ → Result Head Refusal
head_of b = then (structure_of b) (Ok (head_in b))

abbrev pub order_of : List ℕ → Result Order Refusal
order_of b = then (structure_of b) (Ok (order_in b))

abbrev pub few_slots : List ℕ → List Path → Bool
few_slots b list = nat_lt (length list) (length (paths_in b))

-- the number of paths, or that the list is too short for them
abbrev pub paths_answer : List ℕ → List Path → Result ℕ Refusal
paths_answer b list = then (structure_of b) (cond (few_slots b list) (Err (refused Room 0)) (Ok (length (paths_in b))))

-- the list then has the paths first; where the answer is a refusal it stays as it was
abbrev pub listed_by : Result ℕ Refusal → List Path → List Path → List Path
listed_by (Ok n) ps list = filled ps list
listed_by (Err e) ps list = list

abbrev pub paths_list : List ℕ → List Path → List Path
paths_list b list = listed_by (paths_answer b list) (paths_in b) list
