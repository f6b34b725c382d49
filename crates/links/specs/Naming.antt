-- What records name, how often, and the records that are met by following index fields from the head.
use Rattle.std.specs.Prelude.{ℕ, zero, suc, ◌+◌, Bool, false, cond, ◌||◌, List, [], ◌∷◌, ◌++◌, map, length, fold, ◌==◌, nat_lt, slice_index}
use Rattle.std.specs.List.{range_with_len}
use Rattle.links.specs.declared.link.Link.{Link}

-- how often the index fields name j
abbrev pub names : ℕ → List Link → ℕ
names j [] = 0
names j (l ∷ ls) = cond (l.to == j) 1 0 + names j ls

-- how often record j is named by the k records from i on
abbrev pub named_from : (ℕ → List Link) → ℕ → ℕ → ℕ → ℕ
named_from links j zero i = 0
named_from links j (suc k) i = names j (links i) + named_from links j k (i + 1)

abbrev pub member : ℕ → List ℕ → Bool
member x [] = false
member x (y ∷ ys) = y == x || member x ys

-- x behind the records that were met, unless it is 0, past n, or met already
abbrev pub met : ℕ → List ℕ → ℕ → List ℕ
met n seen x = cond (x == 0 || (nat_lt n x || member x seen)) seen (seen ++ x ∷ [])

abbrev pub met_all : ℕ → List ℕ → List Link → List ℕ
met_all n seen ls = fold (λ s l. met n s l.to) seen ls

-- the records at place p and later of those met are looked at in turn, k of them at most
abbrev pub spread : (ℕ → List Link) → ℕ → ℕ → ℕ → List ℕ → List ℕ
spread links n zero p seen = seen
spread links n (suc k) p seen =
    let more = spread links n k (p + 1) (met_all n seen (links (slice_index seen p))) in
    cond (nat_lt p (length seen)) more seen

-- the head, and the records up to n that are reached from it, in the order in which they are met
abbrev pub reached : (ℕ → List Link) → ℕ → List ℕ
reached links n = spread links n (n + 1) 0 (0 ∷ [])

-- for each record from 0 to n, whether it is one of those
abbrev pub marks : List ℕ → ℕ → List Bool
marks seen n = map (λ k. member k seen) (range_with_len 0 (n + 1))
