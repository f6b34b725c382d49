-- How long a line is, and what its next number takes.
use Rattle.std.proofs.Common.{◌≡◌, ℕ, ◌+◌, ◌^◌, ◌<◌, ◌≤◌, List, [], ◌∷◌, ◌++◌, length, get_or, drop, decimal, ap, arith, length-append}
use Rattle.std.proofs.lemmas.Fmt.{length-decimal-le}
use Rattle.std.proofs.lemmas.List.{drop_more}
use Rattle.lines.specs.Lines.{ended, marked}

-- the length of a line, one number at a time
length_ended : (n : ℕ) (ns : List ℕ) → length (ended (n ∷ ns)) ≡ 1 + length (decimal n) + length (ended ns)
length_ended n ns = let e = length-append (decimal n) (ended ns) in omega arith

-- a text with the numbers from i on behind it has room for the next one
pub next_room : (text all ns : List ℕ) (i : ℕ) → text ++ ended (drop i ns) ≡ all → i < length ns → length text + (1 + length (decimal (get_or ns i 0))) ≤ length all
next_room text all ns i e h =
    let whole = ap length e in
    let split = length-append text (ended (drop i ns)) in
    let next = ap (λ l. length (ended l)) (drop_more ns i 0 h) in
    omega (arith, length_ended (get_or ns i 0) (drop (i + 1) ns))

-- no line is longer than the longest
pub three_short : (mark a b c : ℕ) → a < 2 ^ 16 → b < 2 ^ 8 → c < 2 ^ 64 → length (marked mark (a ∷ b ∷ c ∷ [])) ≤ 33
three_short mark a b c ha hb hc =
    let la = length-decimal-le 5 a (omega arith) (omega arith) (omega arith) in
    let lb = length-decimal-le 3 b (omega arith) (omega arith) (omega arith) in
    let lc = length-decimal-le 20 c (omega arith) (omega arith) hc in
    omega (arith, length_ended a (b ∷ c ∷ []), length_ended b (c ∷ []), length_ended c [])

pub two_short : (mark a b : ℕ) → a < 2 ^ 8 → b < 2 ^ 64 → length (marked mark (a ∷ b ∷ [])) ≤ 33
two_short mark a b ha hb =
    let la = length-decimal-le 3 a (omega arith) (omega arith) (omega arith) in
    let lb = length-decimal-le 20 b (omega arith) (omega arith) hb in
    omega (arith, length_ended a (b ∷ []), length_ended b [])
