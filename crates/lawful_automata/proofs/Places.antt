-- Goals: a record of a chain by its place there.
use Rattle.std.proofs.Common.{◌≡◌, ℕ, suc, ◌<◌, Bool, true, false, cond, eqb, List, [], ◌∷◌, map, length, get_or, refl, ap, ◌∙◌, arith}
use Rattle.std.proofs.lemmas.List.{get_or-map}
use Rattle.std.proofs.lemmas.Bool.{eqb-true}
use Rattle.semantics.specs.Books.{place_in, read_location}
use Rattle.semantics.specs.Trees.{Location, blank_location}
use Rattle.fields.specs.Fields.{location_at}

-- at the place of a number stands that number
pub placed_back : (xs : List ℕ) (k d : ℕ) → place_in xs k < length xs → get_or xs (place_in xs k) d ≡ k
placed_back [] k d h = absurd (omega arith)
placed_back (x ∷ xs) k d h = go (eqb x k) refl h (placed_back xs k d)
  where
    go : (t : Bool) → eqb x k ≡ t → cond t 0 (suc (place_in xs k)) < suc (length xs) →
        (place_in xs k < length xs → get_or xs (place_in xs k) d ≡ k) → get_or (x ∷ xs) (cond t 0 (suc (place_in xs k))) d ≡ k
    go true e l rest = eqb-true x k e
    go false e l rest = rest (omega arith)

-- a goal is committed in the tree exactly if its record is
pub goal_committed : (b xs : List ℕ) (k : ℕ) → place_in xs k < length xs →
    (get_or (map (read_location b xs) xs) (place_in xs k) blank_location).committed ≡ (location_at b k).committed
goal_committed b xs k h =
    ap (λ (l : Location). l.committed) (get_or-map (read_location b xs) xs (place_in xs k) 0 blank_location h)
    ∙ ap (λ j. (location_at b j).committed) (placed_back xs k 0 h)
