-- How often a number stands in a list, and lists in which none stands twice.
use Rattle.std.proofs.Common.{◌≡◌, ℕ, ◌+◌, ◌<◌, ◌≤◌, cond, eqb, List, [], ◌∷◌, ◌++◌, length, refl, ap, arith}
use Rattle.std.specs.List.{flat_map, AllByRecursion}
use Rattle.std.proofs.ByRecursion.{All-append, All-weaker}
use Rattle.std.proofs.lemmas.Bool.{eq-eqb, ne_eqb}
use Rattle.links.specs.Queues.{Distinct}
use Rattle.links.proofs.Members.{apart_few}

-- the sum of f over a list
abbrev pub total : (ℕ → ℕ) → List ℕ → ℕ
total f [] = 0
total f (x ∷ xs) = f x + total f xs

-- 1 where i is k; and how often k stands in a list
abbrev pub same : ℕ → ℕ → ℕ
same k i = cond (eqb i k) 1 0

abbrev pub count : ℕ → List ℕ → ℕ
count k xs = total (same k) xs

pub same_yes : (k i : ℕ) → i ≡ k → same k i ≡ 1
same_yes k i e = ap (λ t. cond {A = ℕ} t 1 0) (eq-eqb i k e)

pub same_no : (k i : ℕ) → (i ≡ k → ⊥) → same k i ≡ 0
same_no k i ne = ap (λ t. cond {A = ℕ} t 1 0) (ne_eqb i k ne)

pub total_append : (f : ℕ → ℕ) (xs ys : List ℕ) → total f (xs ++ ys) ≡ total f xs + total f ys
total_append f [] ys = omega arith
total_append f (x ∷ xs) ys = omega (arith, total_append f xs ys)

pub total_le : (f g : ℕ → ℕ) (xs : List ℕ) → AllByRecursion (λ x. f x ≤ g x) xs → total f xs ≤ total g xs
total_le f g [] a = omega arith
total_le f g (x ∷ xs) a = omega (arith, a.0, total_le f g xs a.1)

pub total_joined_le : (f : ℕ → ℕ) (g h : ℕ → List ℕ) → ((x : ℕ) → total f (g x) ≤ total f (h x)) → (xs : List ℕ) → total f (flat_map g xs) ≤ total f (flat_map h xs)
total_joined_le f g h le [] = omega arith
total_joined_le f g h le (x ∷ xs) = omega (arith, le x, total_joined_le f g h le xs, total_append f (g x) (flat_map g xs), total_append f (h x) (flat_map h xs))

-- a list of single numbers
pub joined_single : (xs : List ℕ) → flat_map (λ x. x ∷ []) xs ≡ xs
joined_single [] = refl
joined_single (x ∷ xs) = ap (λ l. x ∷ l) (joined_single xs)

pub all_into_joined : {X Y : Type 0} (P : Y → Type 0) (f : X → List Y) (xs : List X) → AllByRecursion (λ x. AllByRecursion P (f x)) xs → AllByRecursion P (flat_map f xs)
all_into_joined P f [] a = tt
all_into_joined P f (x ∷ xs) a = All-append P (f x) (flat_map f xs) a.0 (all_into_joined P f xs a.1)

-- what does not stand there
pub count_none : (k : ℕ) (xs : List ℕ) → AllByRecursion (λ x. x ≡ k → ⊥) xs → count k xs ≡ 0
count_none k [] a = refl
count_none k (x ∷ xs) a = omega (arith, same_no k x a.0, count_none k xs a.1)

none_counted : (k : ℕ) (xs : List ℕ) → count k xs ≡ 0 → AllByRecursion (λ x. x ≡ k → ⊥) xs
none_counted k [] e = tt
none_counted k (x ∷ xs) e = ((λ is. absurd (omega (arith, same_yes k x is))), none_counted k xs (omega arith))

-- no number stands there twice
abbrev pub Once : List ℕ → Type 0
Once xs = (k : ℕ) → count k xs ≤ 1

pub once_distinct : (xs : List ℕ) → Once xs → Distinct xs
once_distinct [] o = tt
once_distinct (x ∷ xs) o = (none_counted x xs (omega (arith, same_yes x x refl, o x)), once_distinct xs (λ k. omega (arith, o k)))

pub once_front : (xs ys : List ℕ) → Once (xs ++ ys) → Once xs
once_front xs ys o k = omega (arith, o k, total_append (same k) xs ys)

pub once_back : (xs ys : List ℕ) → Once (xs ++ ys) → Once ys
once_back xs ys o k = omega (arith, o k, total_append (same k) xs ys)

pub once_joined : (f : ℕ → List ℕ) (xs : List ℕ) → Once (flat_map f xs) → AllByRecursion (λ x. Once (f x)) xs
once_joined f [] o = tt
once_joined f (x ∷ xs) o = (once_front (f x) (flat_map f xs) o, once_joined f xs (once_back (f x) (flat_map f xs) o))

-- different numbers from 1 to n: there are n at most
pub distinct_few : (n : ℕ) (xs : List ℕ) → AllByRecursion (λ x. (1 ≤ x) × (x ≤ n)) xs → Distinct xs → length xs ≤ n
distinct_few n xs a d =
    let low = All-weaker (λ x. (1 ≤ x) × (x ≤ n)) (λ x. x < n + 1) (λ x h. omega arith) xs a in
    let apart = All-weaker (λ x. (1 ≤ x) × (x ≤ n)) (λ x. x ≡ 0 → ⊥) (λ x h z. absurd (omega arith)) xs a in
    omega (arith, apart_few n (0 ∷ xs) (record { low = (omega arith, low); distinct = (apart, d) }))
