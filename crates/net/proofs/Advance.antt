-- Parts that pass for every station.
use Rattle.std.proofs.Common.{◌≡◌, ℕ, ◌+◌, ◌-◌, ◌<◌, ◌≤◌, List, ◌++◌, map, length, get_or, take, drop, set, sym, ap, ◌∙◌, append-nil, arith}
use Rattle.std.proofs.lemmas.List.Edits.{map_over_more}
use Rattle.std.proofs.lemmas.List.{get_or-append_right, get_or-drop, length-map, length-take-le, take_all, drop_all, get_or_default}

-- A map in place, with the elements before i done.
module _ {X : Type 0} (f : X → X) (xs : List X) where
  pub over_read : (i : ℕ) (d : X) → i < length xs → get_or (map f (take i xs) ++ drop i xs) i d ≡ get_or xs i d
  over_read i d h =
      let n : length (map f (take i xs)) ≡ i = length-map (take i xs) f ∙ length-take-le i xs (omega arith) in
      let z : i + (i - i) ≡ i = omega arith in
      get_or-append_right (map f (take i xs)) (drop i xs) i i d n (omega arith) ∙ get_or-drop i xs (i - i) d ∙ ap (λ k. get_or xs k d) z

  pub over_more : (ys : List X) (i : ℕ) (d : X) → i < length xs → ys ≡ map f (take i xs) ++ drop i xs → set ys i (f (get_or ys i d)) ≡ map f (take (i + 1) xs) ++ drop (i + 1) xs
  over_more ys i d h e =
      let x = get_or ys i d in
      let a : get_or ys i d ≡ get_or xs i d = ap (λ l. get_or l i d) e ∙ over_read i d h in
      let b : get_or ys i x ≡ get_or xs i x = ap (λ l. get_or l i x) e ∙ over_read i x h in
      let c : get_or xs i d ≡ get_or xs i x = get_or_default xs i d x h in
      map_over_more f xs ys i x h e (a ∙ c ∙ sym b)

  pub over_all : (i : ℕ) → length xs ≤ i → map f (take i xs) ++ drop i xs ≡ map f xs
  over_all i h = ap (λ l. map f l ++ drop i xs) (take_all i xs h) ∙ ap (λ l. map f xs ++ l) (drop_all i xs h) ∙ append-nil (map f xs)
