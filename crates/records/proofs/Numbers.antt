-- Numbers and their bytes.
use Rattle.std.proofs.Common.{◌≡◌, ℕ, ◌+◌, ◌*◌, ◌/◌, ◌%◌, sym, ap, ◌∙◌, arith}
use native.Mathlib.Nat.{div-div-eq-div-mul}
use Rattle.records.specs.Fits.{Two, Four, Eight}

two_low : (n : ℕ) → 256 * (n / 256 % 256) + n % 256 ≡ n % 65536
two_low n = omega arith

four_low : (n : ℕ) → 65536 * (256 * (n / 16777216 % 256) + n / 65536 % 256) + (256 * (n / 256 % 256) + n % 256) ≡ n % 4294967296
four_low n =
    let high = two_low (n / 65536) in
    let low = two_low n in
    let d : n / 65536 / 256 ≡ n / 16777216 = div-div-eq-div-mul n 65536 256 in
    let e : 256 * (n / 16777216 % 256) + n / 65536 % 256 ≡ n / 65536 % 65536 = ap (λ q. 256 * (q % 256) + n / 65536 % 256) (sym d) ∙ high in
    let s : 65536 * (n / 65536 % 65536) + n % 65536 ≡ n % 4294967296 = omega arith in
    ap (λ h. 65536 * h + (256 * (n / 256 % 256) + n % 256)) e ∙ ap (λ l. 65536 * (n / 65536 % 65536) + l) low ∙ s

pub two_back : (n : ℕ) → Two n → 256 * (n / 256 % 256) + n % 256 ≡ n
two_back n h = omega arith

pub four_back : (n : ℕ) → Four n → 65536 * (256 * (n / 16777216 % 256) + n / 65536 % 256) + (256 * (n / 256 % 256) + n % 256) ≡ n
four_back n h = four_low n ∙ omega arith

pub eight_back : (n : ℕ) → Eight n →
    4294967296 * (65536 * (256 * (n / 72057594037927936 % 256) + n / 281474976710656 % 256) + (256 * (n / 1099511627776 % 256) + n / 4294967296 % 256))
    + (65536 * (256 * (n / 16777216 % 256) + n / 65536 % 256) + (256 * (n / 256 % 256) + n % 256)) ≡ n
eight_back n h =
    let q = n / 4294967296 in
    let a : q / 16777216 ≡ n / 72057594037927936 = div-div-eq-div-mul n 4294967296 16777216 in
    let b : q / 65536 ≡ n / 281474976710656 = div-div-eq-div-mul n 4294967296 65536 in
    let d : q / 256 ≡ n / 1099511627776 = div-div-eq-div-mul n 4294967296 256 in
    let high = four_low q in
    let low = four_low n in
    omega (arith, high, low, ap (λ x. x % 256) a, ap (λ x. x % 256) b, ap (λ x. x % 256) d)
