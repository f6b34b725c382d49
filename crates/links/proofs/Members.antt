-- Members of lists of numbers, and how many different numbers up to n there can be.
use Rattle.std.proofs.Common.{◌≡◌, ℕ, suc, ◌+◌, ◌<◌, ◌≤◌, Bool, true, false, cond, ◌||◌, eqb, List, [], ◌∷◌, ◌++◌, length, get_or, set, replicate, count_by, sym, refl, ap, ◌∙◌, ⊎_elim, arith, length-set}
use lib.ListN.{length-replicate, get_or-replicate}
use Rattle.std.specs.List.{AllByRecursion}
use Rattle.std.proofs.lemmas.List.{get_or-set_other, length_push}
use Rattle.std.proofs.ByRecursion.{All-push, All-weaker}
use Rattle.std.proofs.lemmas.List.Sums.{sum_by-set, count_by-le-length}
use Rattle.std.proofs.lemmas.Bool.{or_parts, or_cases, or_left, or_right, eqb-true, eqb-false, both_ways}
use Rattle.links.specs.Naming.{member}
use Rattle.links.specs.Queues.{Distinct, Apart}

pub or_none : (x : Bool) → (x || false) ≡ x
or_none true = refl
or_none false = refl

or_assoc : (x y z : Bool) → (x || (y || z)) ≡ ((x || y) || z)
or_assoc true y z = refl
or_assoc false y z = refl

pub member_push : (x : ℕ) (xs : List ℕ) (y : ℕ) → member x (xs ++ y ∷ []) ≡ (member x xs || eqb y x)
member_push x [] y = or_none (eqb y x)
member_push x (z ∷ xs) y = ap (λ t. eqb z x || t) (member_push x xs y) ∙ or_assoc (eqb z x) (member x xs) (eqb y x)

pub member_front : (x : ℕ) (xs ys : List ℕ) → member x xs ≡ true → member x (xs ++ ys) ≡ true
member_front x [] ys e = absurd (both_ways false refl e)
member_front x (y ∷ xs) ys e = ⊎_elim (λ h. or_left (eqb y x) _ h) (λ h. or_right (eqb y x) _ (member_front x xs ys h)) (or_cases (eqb y x) (member x xs) e)

-- a member has a place
pub place : (x : ℕ) (xs : List ℕ) → member x xs ≡ true → (q : ℕ) × (q < length xs) × (get_or xs q 0 ≡ x)
place x [] e = absurd (both_ways false refl e)
place x (y ∷ xs) e =
    ⊎_elim {C = (q : ℕ) × (q < length (y ∷ xs)) × (get_or (y ∷ xs) q 0 ≡ x)}
    (λ h. (0, omega arith, eqb-true y x h))
    (λ h. let p = place x xs h in (suc p.0, omega (arith, p.1), p.2))
    (or_cases (eqb y x) (member x xs) e)

both : {P Q : ℕ → Type 0} (R : ℕ → Type 0) (xs : List ℕ) → ((x : ℕ) → P x → Q x → R x) → AllByRecursion P xs → AllByRecursion Q xs → AllByRecursion R xs
both R [] f p q = tt
both R (x ∷ xs) f p q = (f x p.0 q.0, both R xs f p.1 q.1)

abbrev taken : ℕ → Bool
taken v = eqb v 1

-- each of the different numbers takes a free slot of its own
slots_taken : (xs m : List ℕ) → Distinct xs → AllByRecursion (λ x. x < length m) xs → AllByRecursion (λ x. get_or m x 0 ≡ 0) xs → length xs + count_by taken m ≤ length m
slots_taken [] m d low free = omega (arith, count_by-le-length taken m)
slots_taken (x ∷ xs) m d low free =
    let m' : List ℕ = set m x 1 in
    let long : length m' ≡ length m = length-set m x 1 in
    let rest : length xs + count_by taken m' ≤ length m' = slots_taken xs m' d.1
    (All-weaker (λ y. y < length m) (λ y. y < length m') (λ y h. omega arith) xs low.1)
    (both (λ y. get_or m' y 0 ≡ 0) xs (λ y ne z. get_or-set_other m x y 1 0 ne ∙ z) d.0 free.1) in
    let more : count_by taken m' + cond {A = ℕ} (taken (get_or m x 0)) 1 0 ≡ count_by taken m + 1 = sum_by-set (λ v. cond {A = ℕ} (taken v) 1 0) m x 1 0 low.0 in
    let was : cond {A = ℕ} (taken (get_or m x 0)) 1 0 ≡ 0 = ap (λ v. cond {A = ℕ} (taken v) 1 0) free.0 in
    omega (arith, more, was, rest, long)

pub apart_few : (n : ℕ) (xs : List ℕ) → Apart n xs → length xs ≤ n + 1
apart_few n xs a =
    let m : List ℕ = replicate (n + 1) 0 in
    let long : length m ≡ n + 1 = length-replicate (n + 1) 0 in
    let low = All-weaker (λ x. x < n + 1) (λ x. x < length m) (λ x h. omega arith) xs a.low in
    let free = All-weaker (λ x. x < n + 1) (λ x. get_or m x 0 ≡ 0) (λ x h. get_or-replicate (n + 1) x 0 0 h) xs a.low in
    omega (arith, slots_taken xs m a.distinct low free)

distinct_push : (xs : List ℕ) (y : ℕ) → Distinct xs → member y xs ≡ false → Distinct (xs ++ y ∷ [])
distinct_push [] y d new = (tt, tt)
distinct_push (x ∷ xs) y d new =
    let parts = or_parts (eqb x y) (member y xs) new in
    (All-push (λ z. z ≡ x → ⊥) xs y d.0 (λ e. eqb-false x y parts.0 (sym e)), distinct_push xs y d.1 parts.1)

pub apart_push : (n : ℕ) (xs : List ℕ) (y : ℕ) → Apart n xs → y ≤ n → member y xs ≡ false → Apart n (xs ++ y ∷ [])
apart_push n xs y a h new = record { low = All-push (λ x. x < n + 1) xs y a.low (omega arith); distinct = distinct_push xs y a.distinct new }

-- one more only where there is room for it
pub apart_room : (n : ℕ) (xs : List ℕ) (y : ℕ) → Apart n xs → y ≤ n → member y xs ≡ false → length xs < n + 1
apart_room n xs y a h new = omega (arith, apart_few n (xs ++ y ∷ []) (apart_push n xs y a h new), length_push xs y)

pub apart_head : (n : ℕ) → Apart n (0 ∷ [])
apart_head n = record { low = (omega arith, tt); distinct = (tt, tt) }
