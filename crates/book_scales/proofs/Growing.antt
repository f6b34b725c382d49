-- A scale, grown by two lists, and by what stands at the numbers of a list.
use Rattle.std.proofs.Common.{◌≡◌, ℕ, Bool, true, false, not, List, [], ◌∷◌, ◌++◌, Some, Option, sym, refl, ap, ◌∙◌}
use Rattle.std.specs.Prelude.{fold}
use Rattle.std.specs.List.{flat_map}
use Rattle.semantics.specs.Scales.{lcm_all}
use Rattle.scales.specs.Limited.{limited, grown, grown_all}
use Rattle.scales.proofs.Multiples.{grows}

pub grown_append : (s : Option ℕ) (ds es : List ℕ) → grown_all s (ds ++ es) ≡ grown_all (grown_all s ds) es
grown_append s [] es = refl
grown_append s (d ∷ ds) es = grown_append (grown s d) ds es

pub grown_along : (f : ℕ → List ℕ) (s : Option ℕ) (ks : List ℕ) → fold (λ t k. grown_all t (f k)) s ks ≡ grown_all s (flat_map f ks)
grown_along f s [] = refl
grown_along f s (k ∷ ks) = grown_along f (grown_all s (f k)) ks ∙ sym (grown_append s (f k) (flat_map f ks))

-- from 1 on, it is the scale of them all
pub grown_whole : (ds : List ℕ) → grown_all (Some 1) ds ≡ limited (lcm_all 1 ds)
grown_whole ds = grows.all 1 ds

pub other_way : (x y : Bool) → not x ≡ y → x ≡ not y
other_way true y e = ap not e
other_way false y e = ap not e
