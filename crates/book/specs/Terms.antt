-- Kinds of book and of record, and the order of a net, by their bytes.
use Rattle.std.specs.Prelude.{ℕ, Bool, cond, Some, None, Option, ◌||◌, ◌==◌, nat_lt}
use Rattle.book.specs.declared.term.BookKind.{BookKind}
use Rattle.book.specs.declared.term.BookKind.TheVariants.{Model, Automaton}
use Rattle.book.specs.declared.term.Order.{Order}
use Rattle.book.specs.declared.term.Order.TheVariants.{StepFirst, WordFirst}
use Rattle.book.specs.declared.term.Kind.{Kind}
use Rattle.book.specs.declared.term.Kind.TheVariants.{Station, Phase, Edge, Word, Path}
use Rattle.book.specs.declared.term.Path.{Path as Ends}

-- byte 0 of the head: 'M' or 'A'
abbrev pub book_byte : BookKind → ℕ
book_byte Model = 77
book_byte Automaton = 65

abbrev pub book_of_byte : ℕ → Option BookKind
book_of_byte b = cond (b == 77) (Some Model) (cond (b == 65) (Some Automaton) None)

-- how many records may stand behind the head
abbrev pub most_records : BookKind → ℕ
most_records Model = 1000
most_records Automaton = 2000

-- byte 4 of the head
abbrev pub order_byte : Order → ℕ
order_byte StepFirst = 0
order_byte WordFirst = 1

abbrev pub order_of_byte : ℕ → Option Order
order_of_byte b = cond (b == 0) (Some StepFirst) (cond (b == 1) (Some WordFirst) None)

-- byte 0 of a record
abbrev pub kind_byte : Kind → ℕ
kind_byte Station = 1
kind_byte Phase = 2
kind_byte Edge = 3
kind_byte Word = 4
kind_byte Path = 5

abbrev pub kind_of_byte : ℕ → Option Kind
kind_of_byte b =
    let path = cond (b == 5) (Some Path) None in
    let word = cond (b == 4) (Some Word) path in
    let edge = cond (b == 3) (Some Edge) word in
    let phase = cond (b == 2) (Some Phase) edge in
    cond (b == 1) (Some Station) phase

-- a path with an unknown station, with the same station twice, or from outside to outside
abbrev pub wrong_ends : ℕ → Ends → Bool
wrong_ends stations p = (nat_lt stations p.sender || nat_lt stations p.hearer) || p.sender == p.hearer
