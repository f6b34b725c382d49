-- The relay's model book, which is sound, a small automaton book, and damaged copies of them.
use Rattle.std.specs.Prelude.{◌≡◌, ℕ, zero, suc, ◌+◌, ◌*◌, ◌/◌, ◌%◌, List, [], ◌∷◌, take, Ok, Err, slice_set}
use Rattle.book.specs.Chains.{chain_of}
use Rattle.book.specs.Refusals.{refused}
use Rattle.book.specs.declared.refusal.Fault.{Fault}
use Rattle.book.specs.declared.refusal.Fault.TheVariants.{Length, Head, Layout, Links}
use Rattle.book.specs.declared.term.BookKind.TheVariants.{Model, Automaton}
use Rattle.book.specs.declared.term.Order.TheVariants.{StepFirst, WordFirst}
use Rattle.book.specs.declared.term.Path.{Path}
use Rattle.structure.specs.Structure.{structure_of}
use Rattle.structure.specs.Heads.{order_of, paths_in}

-- the bytes of a number, w of them, the highest first, before those of `rest`
abbrev pub bytes_onto : ℕ → ℕ → List ℕ → List ℕ
bytes_onto zero n rest = rest
bytes_onto (suc w) n rest = bytes_onto w (n / 256) (n % 256 ∷ rest)

-- a book by its rows of 32 bytes, each written as one number
abbrev pub rows_of : List ℕ → List ℕ
rows_of [] = []
rows_of (r ∷ rs) = bytes_onto 32 r (rows_of rs)

-- 1 station; 2 and 3 its phases; 4 the edge of the first; 5 and 6 the words of the second; 7 and 8 the paths
abbrev pub relay : List ℕ
relay = rows_of (
    0x4d01000800000001000700000000000000000000000000000000000000000000
    ∷ 0x0100000000020002000000000000000000000000000000000000000000000000
    ∷ 0x0200000300040000000000000000000000000000000000000000000000000000
    ∷ 0x0200000000000002000500000000000300000002000000000000000000000000
    ∷ 0x0304000000030105090000000000000000000001000000000000000000000000
    ∷ 0x0400000602070000000000000000000000000000000000000000000000000000
    ∷ 0x0400000002080000000000000000000000000000000000000000000000000000
    ∷ 0x0500000800010101000000000000000000000000000000000000000000000000
    ∷ 0x0500000001020004000000000000000000000000000000000000000000000000
    ∷ []
    )

-- 1 automaton of scale 1; 2 its only location, which waits without end
abbrev pub waiting : List ℕ
waiting = rows_of (
    0x4101000201000001000000000000000000000000000000000000000000000000
    ∷ 0x0100000000020002000000010000000000000000000000000000000000000000
    ∷ 0x0200000000000001000000000000000000000000000000000000000000000000
    ∷ []
    )

-- byte i of row k changed
abbrev pub damaged : List ℕ → ℕ → ℕ → ℕ → List ℕ
damaged b k i x = slice_set b (32 * k + i) x

abbrev pub Refused : List ℕ → Fault → ℕ → Type 0
Refused b f p = structure_of b ≡ Err (refused f p)

abbrev pub path : ℕ → ℕ → ℕ → ℕ → Path
path s p h q = record { sender = s; sender_port = p; hearer = h; hearer_port = q }

pub record ExamplesStand : Type 0 where
  pub relay_passes : structure_of relay ≡ Ok Model
  pub waiting_passes : structure_of waiting ≡ Ok Automaton
  pub relay_steps_first : order_of relay ≡ Ok StepFirst
  pub waiting_hears_first : order_of waiting ≡ Ok WordFirst
  -- two paths: from outside port 1 to the station's port 1, from its port 2 to outside port 4
  pub relay_paths : paths_in relay ≡ path 0 1 1 1 ∷ path 1 2 0 4 ∷ []
  pub relay_phases : chain_of relay 2 ≡ 2 ∷ 3 ∷ []
  -- the head and one record of nine
  pub cut_short : Refused (take 64 relay) Length 0
  pub none_left : Refused [] Length 0
  -- neither kind of book; no such order
  pub kind_unknown : Refused (damaged relay 0 0 78) Head 0
  pub order_unknown : Refused (damaged relay 0 4 2) Head 0
  -- a byte without a meaning that is not zero: in the head, and in the second phase
  pub head_not_zero : Refused (damaged relay 0 5 1) Layout 0
  pub phase_not_zero : Refused (damaged relay 3 31 1) Layout 3
  -- a word in an automaton book
  pub word_in_automaton : Refused (damaged waiting 2 0 4) Layout 2
  -- the second word's next is the first: record 5 is named twice
  pub named_twice : Refused (damaged relay 6 3 5) Links 5
  -- the head does not name the first path: nothing does
  pub not_named : Refused (damaged relay 0 9 0) Links 7
  -- the paths name each other, and the head names neither: each is named once, and not reached
  pub not_reached : Refused (damaged (damaged relay 0 9 0) 8 3 7) Links 7
  -- the first phase's next is past the last record
  pub past_end : Refused (damaged relay 2 3 9) Links 2
  -- the head's first path is a word: the head itself is faulty
  pub other_kind : Refused (damaged relay 0 9 6) Links 0
