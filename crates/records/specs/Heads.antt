-- What the head of a book tells, and the paths of a book, by its bytes.
use Rattle.std.specs.Prelude.{ℕ, List, map, drop}
use Rattle.std.specs.Option.{unwrap_or}
use Rattle.book.specs.Bytes.{at, two, row}
use Rattle.book.specs.Chains.{chain_of}
use Rattle.book.specs.Terms.{order_of_byte}
use Rattle.book.specs.declared.record.Head.{Head}
use Rattle.book.specs.declared.term.Order.{Order}
use Rattle.book.specs.declared.term.Order.TheVariants.{StepFirst}
use Rattle.book.specs.declared.term.Path.{Path}
use Rattle.records.specs.Fields.{path_in}

-- the order in byte 4; a book whose structure is right has one
abbrev pub order_in : List ℕ → Order
order_in b = unwrap_or (order_of_byte (at b 4)) StepFirst

-- bytes 6 and 7 are the first station or automaton, 8 and 9 the first path
abbrev pub head_in : List ℕ → Head
head_in b = record { order = order_in b; first_station = two b 6; first_path = two b 8 }

-- the path in a record
abbrev pub path_at : List ℕ → ℕ → Path
path_at b k = path_in (drop 4 (row b k))

-- the paths of a book, in the order of their chain
abbrev pub paths_in : List ℕ → List Path
paths_in b = map (path_at b) (chain_of b (two b 8))
