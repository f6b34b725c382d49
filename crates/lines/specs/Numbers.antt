-- Numbers among other bytes.
use Rattle.std.specs.Prelude.{◌≡◌, ℕ, ◌^◌, ◌<◌, List, slice_index}
use Rattle.std.specs.Int.{IsInRange}
use Rattle.std.specs.List.{AllByRecursion}
use Rattle.lines.specs.Lines.{ended}

-- no digit comes first, so that a number ends here
abbrev pub Ends : List ℕ → Type 0
Ends bytes = IsInRange 48 57 (slice_index bytes 0) → ⊥

-- numbers of at most 64 bits
abbrev pub Wide : List ℕ → Type 0
Wide ns = AllByRecursion (λ n. n < 2 ^ 64) ns

-- the bytes are those of the numbers and the line feed
abbrev pub Are : List ℕ → List ℕ → Type 0
Are bytes ns = Wide ns × (bytes ≡ ended ns)
