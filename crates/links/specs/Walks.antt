-- What a walk along a chain answers, and what its list then holds.
use Rattle.std.specs.Prelude.{ℕ, Bool, cond, List, ◌++◌, length, drop, Ok, Err, Result, nat_lt}
use Rattle.book.specs.declared.refusal.Refusal.{Refusal}
use Rattle.book.specs.declared.refusal.Fault.TheVariants.{Room}
use Rattle.book.specs.Refusals.{refused}
use Rattle.book.specs.Bytes.{row}
use Rattle.book.specs.Chains.{chain, next_index, whole_records, chain_of}
use Rattle.links.specs.declared.chain.Chain.{Chain}

-- a list whose first slots hold xs, and whose later slots are as they were
abbrev pub filled : {X : Type 0} → List X → List X → List X
filled xs list = xs ++ drop (length xs) list

-- the list has fewer slots than the book has records
abbrev pub short : List ℕ → List ℕ → Bool
short b list = nat_lt (length list) (whole_records b)

-- the number of records in the chain that begins at `first`, or that the list is too short
abbrev pub walk_answer : List ℕ → ℕ → List ℕ → Result ℕ Refusal
walk_answer b first list = cond (short b list) (Err (refused Room 0)) (Ok (length (chain_of b first)))

-- the list after the walk
abbrev pub walk_list : List ℕ → ℕ → List ℕ → List ℕ
walk_list b first list = cond (short b list) list (filled (chain_of b first) list)

-- the records of a chain that are still to come
abbrev pub left : {R : Type 0} → Chain R → List ℕ
left c = let b = c.book.now in chain (λ j. next_index (row b j)) (whole_records b) c.most c.at
