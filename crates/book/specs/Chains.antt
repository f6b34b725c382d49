-- Chains: records that name one another by their next index.
use Rattle.std.specs.Prelude.{ℕ, zero, suc, ◌-◌, ◌/◌, cond, ◌||◌, List, [], ◌∷◌, length, ◌==◌, nat_lt}
use Rattle.book.specs.Bytes.{two, row}

-- how many records lie wholly in the bytes, besides the head
abbrev pub whole_records : List ℕ → ℕ
whole_records b = length b / 32 - 1

-- the numbers of a chain from i on, k of them at most; 0 or a number past n ends it
abbrev pub chain : (ℕ → ℕ) → ℕ → ℕ → ℕ → List ℕ
chain next n zero i = []
chain next n (suc k) i =
    let rest = chain next n k (next i) in
    let all = i ∷ rest in
    cond (i == 0 || nat_lt n i) [] all

-- the next index of a record's 32 bytes
abbrev pub next_index : List ℕ → ℕ
next_index r = two r 2

-- the chain of a book that begins at record i
abbrev pub chain_of : List ℕ → ℕ → List ℕ
chain_of b i = chain (λ j. next_index (row b j)) (whole_records b) (whole_records b) i
