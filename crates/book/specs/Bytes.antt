-- The bytes of a book, as a list of numbers below 256, and the numbers in them.
use Rattle.std.specs.Prelude.{◌≡◌, ℕ, ◌+◌, ◌*◌, ◌/◌, ◌%◌, Bool, List, [], ◌∷◌, length, take, drop, ◌==◌, slice_index, slice_range}
use Rattle.std.specs.List.{list_all}

-- byte i, 0 past the end
abbrev pub at : List ℕ → ℕ → ℕ
at b i = slice_index b i

-- the number in two, four or eight bytes from i on, the highest byte first
abbrev pub two : List ℕ → ℕ → ℕ
two b i = 256 * at b i + at b (i + 1)

abbrev pub four : List ℕ → ℕ → ℕ
four b i = 65536 * two b i + two b (i + 2)

abbrev pub eight : List ℕ → ℕ → ℕ
eight b i = 4294967296 * four b i + four b (i + 4)

-- the two, four or eight bytes of a number, the highest first
abbrev pub two_bytes : ℕ → List ℕ
two_bytes n = (n / 256 % 256) ∷ (n % 256) ∷ []

abbrev pub four_bytes : ℕ → List ℕ
four_bytes n = (n / 16777216 % 256) ∷ (n / 65536 % 256) ∷ (n / 256 % 256) ∷ (n % 256) ∷ []

abbrev pub eight_bytes : ℕ → List ℕ
eight_bytes n =
    (n / 72057594037927936 % 256) ∷ (n / 281474976710656 % 256) ∷ (n / 1099511627776 % 256) ∷ (n / 4294967296 % 256)
    ∷ (n / 16777216 % 256) ∷ (n / 65536 % 256) ∷ (n / 256 % 256) ∷ (n % 256) ∷ []

-- the 32 bytes of record i; the head is record 0
abbrev pub row : List ℕ → ℕ → List ℕ
row b i = take 32 (drop (32 * i) b)

abbrev pub all_zero : List ℕ → Bool
all_zero b = list_all (λ x. x == 0) b

-- the bytes from i up to, and without, j are zero
abbrev pub zeros : List ℕ → ℕ → ℕ → Bool
zeros b i j = all_zero (slice_range b i j)

-- a row of 32 bytes, taken apart: kind, marks, next index, and the bytes from 4 on
pub record Apart (bytes : List ℕ) (kind marks next : ℕ) (rest : List ℕ) : Type 0 where
  pub whole : length bytes ≡ 32
  pub kind_is : kind ≡ at bytes 0
  pub marks_are : marks ≡ at bytes 1
  pub next_is : next ≡ two bytes 2
  pub rest_is : rest ≡ drop 4 bytes
