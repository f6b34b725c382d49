-- What holds of every number of a list, with its place there or without, and of lists that are made from it.
use Rattle.std.proofs.Common.{◌≡◌, ℕ, zero, suc, ◌+◌, ◌<◌, ◌≤◌, false, eqb, ◌⊎◌, ◌↔◌, List, [], ◌∷◌, map, length, sum_by, refl, ap₂, inl, inr, arith}
use Rattle.std.specs.List.{HoldsAt, ContainsAt as Has, flat_map, AllByRecursion}
use Rattle.std.proofs.lemmas.List.{length-append}
use Rattle.std.proofs.lemmas.List.Sums.{sum_by-cons}
use Rattle.std.proofs.ByRecursion.{All-weaker, all-has, all_has_itself, All-map, has_get_or, has_append_right}
use Rattle.std.proofs.lemmas.Bool.{eqb-false, ne_eqb}
use Rattle.kept_rules.specs.Kept.{AllAt}

-- each element by its membership
pub all_members : {X : Type 0} (P : X → Type 0) (xs : List X) → ((x : X) → Has xs x → P x) → AllByRecursion P xs
all_members P xs f = All-weaker (Has xs) P f xs (all_has_itself xs)

pub has_first : {X : Type 0} (x : X) (xs : List X) → Has (x ∷ xs) x
has_first x xs = has_get_or (x ∷ xs) 0 x (omega arith)

pub has_later : {X : Type 0} (y : X) (xs : List X) (x : X) → Has xs x → Has (y ∷ xs) x
has_later y xs x h = has_append_right (y ∷ []) xs x h

pub has_cases : {X : Type 0} (y : X) (xs : List X) (x : X) → Has (y ∷ xs) x → (y ≡ x) ⊎ Has xs x
has_cases y xs x h = go h.0 h.1 h.2
  where
    go : (k : ℕ) → k < length (y ∷ xs) → HoldsAt (λ z. z ≡ x) (y ∷ xs) k → (y ≡ x) ⊎ Has xs x
    go zero low at = inl (at y)
    go (suc k) low at = inr (k, omega arith, at)

-- of a mapped list
pub all_mapped : {X Y : Type 0} (P : Y → Type 0) (f : X → Y) (xs : List X) → ((x : X) → Has xs x → P (f x)) → AllByRecursion P (map f xs)
all_mapped P f xs each = All-map P f xs (all_members (λ x. P (f x)) xs each)

all_unmapped : {X Y : Type 0} (P : Y → Type 0) (f : X → Y) (xs : List X) → AllByRecursion P (map f xs) → AllByRecursion (λ x. P (f x)) xs
all_unmapped P f [] a = tt
all_unmapped P f (x ∷ xs) a = (a.0, all_unmapped P f xs a.1)

pub mapped_has : {X Y : Type 0} (P : Y → Type 0) (f : X → Y) (xs : List X) → AllByRecursion P (map f xs) → (x : X) → Has xs x → P (f x)
mapped_has P f xs a x h = all-has (λ y. P (f y)) xs x (all_unmapped P f xs a) h

-- a joined list of one element for each
pub one_by_one : {X Y Z : Type 0} (f : X → Z) (g : Y → Z) (h : X → Y) (xs : List X) → AllByRecursion (λ x. f x ≡ g (h x)) xs → flat_map (λ x. f x ∷ []) xs ≡ map g (map h xs)
one_by_one f g h [] same = refl
one_by_one f g h (x ∷ xs) same = ap₂ ◌∷◌ same.0 (one_by_one f g h xs same.1)

-- a sum over a mapped list is at most the length of a joined one
pub sum_joined : {X Y A : Type 0} (f : Y → ℕ) (g : X → Y) (h : X → List A) → ((x : X) → f (g x) ≤ length (h x)) → (xs : List X) → sum_by f (map g xs) ≤ length (flat_map h xs)
sum_joined f g h few [] = omega arith
sum_joined f g h few (x ∷ xs) =
    let here = few x in
    let later = sum_joined f g h few xs in
    omega (arith, length-append (h x) (flat_map h xs), sum_by-cons f (g x) (map g xs))

-- with places
pub all_at_has : (P : ℕ → ℕ → Type 0) (i : ℕ) (ks : List ℕ) → AllAt P i ks → (k : ℕ) → Has ks k → (j : ℕ) × P j k
all_at_has P i ks a k h = all-has (λ x. (j : ℕ) × P j x) ks k (go i ks a) h
  where
    go : (i : ℕ) (ks : List ℕ) → AllAt P i ks → AllByRecursion (λ x. (j : ℕ) × P j x) ks
    go i [] a = tt
    go i (k ∷ ks) a = ((i, a.0), go (suc i) ks a.1)

-- what is known of members may be used
pub all_at_within : (P Q : ℕ → ℕ → Type 0) (i : ℕ) (ks : List ℕ) → ((j k : ℕ) → Has ks k → P j k → Q j k) → AllAt P i ks → AllAt Q i ks
all_at_within P Q i [] f a = tt
all_at_within P Q i (k ∷ ks) f a = (f i k (has_first k ks) a.0, all_at_within P Q (suc i) ks (λ j x h. f j x (has_later k ks x h)) a.1)

pub all_at_members : (P : ℕ → ℕ → Type 0) (i : ℕ) (ks : List ℕ) → ((j k : ℕ) → Has ks k → P j k) → AllAt P i ks
all_at_members P i [] f = tt
all_at_members P i (k ∷ ks) f = (f i k (has_first k ks), all_at_members P (suc i) ks (λ j x h. f j x (has_later k ks x h)))

-- of a test that is never passed
pub never_passed : (ks : List ℕ) → AllAt (λ _ _. false ≡ false) 0 ks
never_passed ks = all_at_members (λ _ _. false ≡ false) 0 ks (λ _ _ _. refl)

-- a test by the place alone
places_few : (n i : ℕ) (ks : List ℕ) → i ≤ n → AllAt (λ j k. eqb j n ≡ false) i ks → i + length ks ≤ n
places_few n i [] low a = omega arith
places_few n i (k ∷ ks) low a =
    let other = eqb-false i n a.0 in
    let later = places_few n (suc i) ks (omega arith) a.1 in
    omega arith

few_places : (n i : ℕ) (ks : List ℕ) → i + length ks ≤ n → AllAt (λ j k. eqb j n ≡ false) i ks
few_places n i [] few = tt
few_places n i (k ∷ ks) few = (ne_eqb i n (λ e. absurd (omega arith)), few_places n (suc i) ks (omega arith))

-- counted from 0, the place n is never come to exactly if there are at most n
pub at_most_many : (n : ℕ) (ks : List ℕ) → AllAt (λ j k. eqb j n ≡ false) 0 ks ↔ length ks ≤ n
at_most_many n ks = (λ a. let few = places_few n 0 ks (omega arith) a in omega arith, λ h. few_places n 0 ks (omega arith))
