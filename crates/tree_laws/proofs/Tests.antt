-- Tests that the rules of both kinds of book make.
use Rattle.std.proofs.Common.{◌≡◌, ℕ, ◌≤◌, Bool, true, false, cond, not, ◌||◌, leb, ◌↔◌, is_some, Some, None, refl}
use Rattle.std.proofs.lemmas.Bool.{or_parts, or_from, leb-true, le-leb, both_ways}
use Rattle.scales.specs.Limited.{limited}

-- none of three tests is passed
pub none_of_three : (x y z : Bool) → ((x || y) || z) ≡ false ↔ ((x ≡ false) × (y ≡ false) × (z ≡ false))
none_of_three x y z = (
  λ e.
      let parts = or_parts (x || y) z e in
      let first = or_parts x y parts.0 in
      (first.0, first.1, parts.1),
  λ h. or_from (x || y) z (or_from x y h.0 h.1) h.2,
)

-- a scale is within the limit exactly if it is limited to itself
pub not_over : (n : ℕ) → not (is_some (limited n)) ≡ false ↔ n ≤ 1000000
not_over n = go (leb n 1000000) refl
  where
    go : (t : Bool) → leb n 1000000 ≡ t → not (is_some (cond t (Some n) None)) ≡ false ↔ n ≤ 1000000
    go true is = (λ _. leb-true n 1000000 is, λ _. refl)
    go false is = (λ e. absurd (both_ways true e refl), λ h. absurd (both_ways _ is (le-leb n 1000000 h)))
