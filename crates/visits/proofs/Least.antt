-- The smallest of two lists, and of what is found along a chain.
use Rattle.std.proofs.Common.{◌≡◌, ℕ, suc, ◌+◌, ◌<◌, ◌≤◌, Bool, true, false, cond, leb, List, [], ◌∷◌, ◌++◌, Some, None, Option, sym, refl, ap, ◌∙◌, subst, arith}
use Rattle.std.specs.Prelude.{min, fold}
use Rattle.std.specs.List.{AllByRecursion, reduce, filter_map, cons_option, enumerate_from}
use Rattle.std.proofs.ByRecursion.{has_get_or, has_append_right, All-weaker}
use Rattle.std.proofs.lemmas.Bool.{leb-true, leb-false}
use Rattle.std.proofs.lemmas.Bool.Decides.{nat_tests}
use Rattle.std.specs.Bool.{then_some}
use Rattle.visits.specs.Smallest.{least, smallest, along, only_if, IsSmallest, SmallestIsSmallest}

pub least_none : (x : Option ℕ) → least x None ≡ x
least_none None = refl
least_none (Some x) = refl

least_assoc : (x y z : Option ℕ) → least (least x y) z ≡ least x (least y z)
least_assoc None y z = refl
least_assoc (Some x) None z = refl
least_assoc (Some x) (Some y) None = least_none _
least_assoc (Some x) (Some y) (Some z) = grind (arith, nat_tests)

pub smallest_append : (xs ys : List ℕ) → smallest (xs ++ ys) ≡ least (smallest xs) (smallest ys)
smallest_append [] ys = refl
smallest_append (x ∷ xs) ys = ap (least (Some x)) (smallest_append xs ys) ∙ sym (least_assoc (Some x) (smallest xs) (smallest ys))

pub smallest_is_smallest : SmallestIsSmallest
smallest_is_smallest [] = refl
smallest_is_smallest (k ∷ ks) = with_first (smallest ks) (smallest_is_smallest ks)
  where
    with_first : (o : Option ℕ) → IsSmallest ks o → IsSmallest (k ∷ ks) (least (Some k) o)
    with_first None none = (has_get_or (k ∷ ks) 0 0 (omega arith), (omega arith, subst (AllByRecursion (λ j. k ≤ j)) (sym none) tt))
    with_first (Some m) found = go (leb k m) refl
      where
        go : (t : Bool) → leb k m ≡ t → IsSmallest (k ∷ ks) (cond t (Some k) (Some m))
        go true e =
            let le : k ≤ m = leb-true k m e in
            (has_get_or (k ∷ ks) 0 0 (omega arith), (omega arith, All-weaker (λ j. m ≤ j) (λ j. k ≤ j) (λ j h. omega arith) ks found.1))
        go false e =
            let gt : m < k = leb-false k m e in
            (has_append_right (k ∷ []) ks m found.0, (omega arith, found.1))

least_min : (x y : ℕ) → Some (min x y) ≡ least (Some x) (Some y)
least_min x y = grind (arith, nat_tests)

fold_least : (x : ℕ) (xs : List ℕ) → Some (fold min x xs) ≡ least (Some x) (smallest xs)
fold_least x [] = refl
fold_least x (y ∷ ys) = fold_least (min x y) ys ∙ ap (λ o. least o (smallest ys)) (least_min x y) ∙ least_assoc (Some x) (Some y) (smallest ys)

-- `min` of a list
pub min_smallest : (xs : List ℕ) → reduce min xs ≡ smallest xs
min_smallest [] = refl
min_smallest (x ∷ xs) = fold_least x xs

-- `min` over what is found along a chain, place by place
smallest_cons : (o : Option ℕ) (xs : List ℕ) → smallest (cons_option o xs) ≡ least o (smallest xs)
smallest_cons None xs = refl
smallest_cons (Some x) xs = refl

smallest_found : (f : ℕ → ℕ → List ℕ) (i : ℕ) (ks : List ℕ) → smallest (filter_map (λ p. smallest (f p.0 p.1)) (enumerate_from i ks)) ≡ smallest (along f i ks)
smallest_found f i [] = refl
smallest_found f i (k ∷ ks) =
    smallest_cons (smallest (f i k)) (filter_map (λ p. smallest (f p.0 p.1)) (enumerate_from (i + 1) ks))
    ∙ ap (least (smallest (f i k))) (ap (λ j. smallest (filter_map (λ p. smallest (f p.0 p.1)) (enumerate_from j ks))) (omega arith) ∙ smallest_found f (suc i) ks)
    ∙ sym (smallest_append (f i k) (along f (suc i) ks))

pub min_along : (f : ℕ → ℕ → List ℕ) (ks : List ℕ) → reduce min (filter_map (λ p. smallest (f p.0 p.1)) (enumerate_from 0 ks)) ≡ smallest (along f 0 ks)
min_along f ks = min_smallest (filter_map (λ p. smallest (f p.0 p.1)) (enumerate_from 0 ks)) ∙ smallest_found f 0 ks

-- the number k, if the test holds
pub smallest_if : (t : Bool) (k : ℕ) → then_some t k ≡ smallest (only_if t k)
smallest_if true k = refl
smallest_if false k = refl

-- the record itself, or what is found below it
pub of_record : (t : Bool) (k : ℕ) (ks : List ℕ) → least (then_some t k) (smallest ks) ≡ smallest (only_if t k ++ ks)
of_record t k ks = ap (λ o. least o (smallest ks)) (smallest_if t k) ∙ sym (smallest_append (only_if t k) ks)
