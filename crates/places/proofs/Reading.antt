-- What is read from tables that were filled.
use Rattle.std.proofs.Common.{◌≡◌, ℕ, zero, suc, ◌+◌, ◌<◌, ◌≤◌, Bool, true, false, cond, eqb, List, [], ◌∷◌, ◌++◌, map, length, get_or, take, set, sym, refl, ap, ◌∙◌, subst, arith, length-append}
use Rattle.std.specs.List.{flat_map, AllByRecursion}
use Rattle.std.proofs.lemmas.List.{get_or-set_same, get_or-set_other, length-set, map-set}
use Rattle.std.proofs.lemmas.Bool.{eqb-true}
use Rattle.links.specs.Queues.{Distinct}
use Rattle.visits.specs.Visits.{phases}
use Rattle.semantics.specs.Books.{place_in}
use Rattle.places.specs.declared.table.StationRow.{StationRow}
use Rattle.places.specs.Tables.{listed, placed, all_listed, all_placed, all_starts, counts_in, row_for, all_rows}

-- a list put into a table: what is before it stays
listed_before : (t : List ℕ) (u : ℕ) (ks : List ℕ) (j : ℕ) → j < u → get_or (listed t u ks) j 0 ≡ get_or t j 0
listed_before t u [] j h = refl
listed_before t u (k ∷ ks) j h = listed_before (set t u k) (suc u) ks j (omega arith) ∙ get_or-set_other t u j k 0 (λ e. omega arith)

length_listed : (t : List ℕ) (u : ℕ) (ks : List ℕ) → length (listed t u ks) ≡ length t
length_listed t u [] = refl
length_listed t u (k ∷ ks) = length_listed (set t u k) (suc u) ks ∙ length-set t u k

pub listed_at : (t : List ℕ) (u : ℕ) (ks : List ℕ) (j n : ℕ) → n ≡ u + j → j < length ks → u + length ks ≤ length t → get_or (listed t u ks) n 0 ≡ get_or ks j 0
listed_at t u [] j n e h room = absurd (omega arith)
listed_at t u (k ∷ ks) zero n e h room =
    let z : n ≡ u = omega arith in
    let l : u < length t = omega arith in
    ap (λ m. get_or (listed (set t u k) (suc u) ks) m 0) z ∙ listed_before (set t u k) (suc u) ks u (omega arith) ∙ get_or-set_same t u k 0 l
listed_at t u (k ∷ ks) (suc j) n e h room =
    listed_at (set t u k) (suc u) ks j n (omega arith) (omega arith) (let z = length-set t u k in omega arith)

-- the phases of the stations before place i
abbrev pub start_of : List ℕ → List ℕ → ℕ → ℕ
start_of b ss i = length (flat_map (phases b) (take i ss))

module _ (b : List ℕ) where
  all_listed_before : (t : List ℕ) (u : ℕ) (ss : List ℕ) (j : ℕ) → j < u → get_or (all_listed b t u ss) j 0 ≡ get_or t j 0
  all_listed_before t u [] j h = refl
  all_listed_before t u (s ∷ ss) j h =
      all_listed_before (listed t u (phases b s)) (u + length (phases b s)) ss j (omega arith) ∙ listed_before t u (phases b s) j h

  pub all_listed_at : (t : List ℕ) (u : ℕ) (ss : List ℕ) (i j n : ℕ) → n ≡ u + start_of b ss i + j → i < length ss → j < length (phases b (get_or ss i 0))
      → u + length (flat_map (phases b) ss) ≤ length t → get_or (all_listed b t u ss) n 0 ≡ get_or (phases b (get_or ss i 0)) j 0
  all_listed_at t u [] i j n e h hj room = absurd (omega arith)
  all_listed_at t u (s ∷ ss) zero j n e h hj room =
      let p = phases b s in
      let parts = length-append p (flat_map (phases b) ss) in
      let at : n ≡ u + j = omega arith in
      all_listed_before (listed t u p) (u + length p) ss n (omega arith) ∙ listed_at t u p j n at hj (omega arith)
  all_listed_at t u (s ∷ ss) (suc i) j n e h hj room =
      let p = phases b s in
      let parts = length-append p (flat_map (phases b) ss) in
      let front = length-append p (flat_map (phases b) (take i ss)) in
      let long = length_listed t u p in
      all_listed_at (listed t u p) (u + length p) ss i j n (omega arith) (omega arith) hj (omega arith)

  all_starts_before : (t : List ℕ) (k u : ℕ) (ss : List ℕ) (j : ℕ) → j < k → get_or (all_starts b t k u ss) j 0 ≡ get_or t j 0
  all_starts_before t k u [] j h = refl
  all_starts_before t k u (s ∷ ss) j h =
      all_starts_before (set t k u) (suc k) (u + length (phases b s)) ss j (omega arith) ∙ get_or-set_other t k j u 0 (λ e. omega arith)

  pub all_starts_at : (t : List ℕ) (k u : ℕ) (ss : List ℕ) (i n : ℕ) → n ≡ k + i → i < length ss → k + length ss ≤ length t → get_or (all_starts b t k u ss) n 0 ≡ u + start_of b ss i
  all_starts_at t k u [] i n e h room = absurd (omega arith)
  all_starts_at t k u (s ∷ ss) zero n e h room =
      let z : n ≡ k = omega arith in
      let l : k < length t = omega arith in
      let w : u ≡ u + 0 = omega arith in
      ap (λ m. get_or (all_starts b (set t k u) (suc k) (u + length (phases b s)) ss) m 0) z
      ∙ all_starts_before (set t k u) (suc k) (u + length (phases b s)) ss k (omega arith) ∙ get_or-set_same t k u 0 l ∙ w
  all_starts_at t k u (s ∷ ss) (suc i) n e h room =
      let p = phases b s in
      let front = length-append p (flat_map (phases b) (take i ss)) in
      let long = length-set t k u in
      let w : u + length p + start_of b ss i ≡ u + length (p ++ flat_map (phases b) (take i ss)) = omega arith in
      all_starts_at (set t k u) (suc k) (u + length p) ss i n (omega arith) (omega arith) (omega arith) ∙ w

-- the columns of the rows: the stations' records, the slots at which their phases begin, and how many they are
module _ (b : List ℕ) where
  pub numbers_are : (t : List StationRow) (i u : ℕ) (ss : List ℕ) → map (λ r. r.number) (all_rows b t i u ss) ≡ listed (map (λ r. r.number) t) i ss
  numbers_are t i u [] = refl
  numbers_are t i u (s ∷ ss) =
      numbers_are (set t i (row_for b u s)) (suc i) (u + length (phases b s)) ss ∙ ap (λ c. listed c (suc i) ss) (map-set (λ r. r.number) t i (row_for b u s))

  pub starts_are : (t : List StationRow) (i u : ℕ) (ss : List ℕ) → map (λ r. r.start) (all_rows b t i u ss) ≡ all_starts b (map (λ r. r.start) t) i u ss
  starts_are t i u [] = refl
  starts_are t i u (s ∷ ss) =
      starts_are (set t i (row_for b u s)) (suc i) (u + length (phases b s)) ss
      ∙ ap (λ c. all_starts b c (suc i) (u + length (phases b s)) ss) (map-set (λ r. r.start) t i (row_for b u s))

  pub counts_are : (t : List StationRow) (i u : ℕ) (ss : List ℕ) → map (λ r. r.count) (all_rows b t i u ss) ≡ listed (map (λ r. r.count) t) i (counts_in b ss)
  counts_are t i u [] = refl
  counts_are t i u (s ∷ ss) =
      counts_are (set t i (row_for b u s)) (suc i) (u + length (phases b s)) ss
      ∙ ap (λ c. listed c (suc i) (counts_in b ss)) (map-set (λ r. r.count) t i (row_for b u s))

  pub length_rows : (t : List StationRow) (i u : ℕ) (ss : List ℕ) → length (all_rows b t i u ss) ≡ length t
  length_rows t i u [] = refl
  length_rows t i u (s ∷ ss) = length_rows (set t i (row_for b u s)) (suc i) (u + length (phases b s)) ss ∙ length-set t i (row_for b u s)

-- a number that is not in a list
abbrev ApartFrom : ℕ → List ℕ → Type 0
ApartFrom k ks = AllByRecursion (λ y. y ≡ k → ⊥) ks

-- a number of a list has what all have
pub place_all : (P : ℕ → Type 0) (ks : List ℕ) (k : ℕ) → place_in ks k < length ks → AllByRecursion P ks → P k
place_all P [] k h a = absurd (omega arith)
place_all P (x ∷ ks) k h a = go (eqb x k) refl h (λ l. place_all P ks k l a.1)
  where
    go : (t : Bool) → eqb x k ≡ t → cond t 0 (suc (place_in ks k)) < suc (length ks) → (place_in ks k < length ks → P k) → P k
    go true e l later = subst P (eqb-true x k e) a.0
    go false e l later = later (omega arith)

pub all_left : (P : ℕ → Type 0) (xs ys : List ℕ) → AllByRecursion P (xs ++ ys) → AllByRecursion P xs
all_left P [] ys a = tt
all_left P (x ∷ xs) ys a = (a.0, all_left P xs ys a.1)

pub all_right : (P : ℕ → Type 0) (xs ys : List ℕ) → AllByRecursion P (xs ++ ys) → AllByRecursion P ys
all_right P [] ys a = a
all_right P (x ∷ xs) ys a = all_right P xs ys a.1

distinct_left : (xs ys : List ℕ) → Distinct (xs ++ ys) → Distinct xs
distinct_left [] ys d = tt
distinct_left (x ∷ xs) ys d = (all_left (λ y. y ≡ x → ⊥) xs ys d.0, distinct_left xs ys d.1)

distinct_right : (xs ys : List ℕ) → Distinct (xs ++ ys) → Distinct ys
distinct_right [] ys d = d
distinct_right (x ∷ xs) ys d = distinct_right xs ys d.1

distinct_apart : (xs ys : List ℕ) (k : ℕ) → Distinct (xs ++ ys) → place_in xs k < length xs → ApartFrom k ys
distinct_apart [] ys k d h = absurd (omega arith)
distinct_apart (x ∷ xs) ys k d h = go (eqb x k) refl h (distinct_apart xs ys k d.1)
  where
    go : (t : Bool) → eqb x k ≡ t → cond t 0 (suc (place_in xs k)) < suc (length xs) → (place_in xs k < length xs → ApartFrom k ys) → ApartFrom k ys
    go true e l later = subst (λ z. ApartFrom z ys) (eqb-true x k e) (all_right (λ y. y ≡ x → ⊥) xs ys d.0)
    go false e l later = later (omega arith)

placed_other : (t : List ℕ) (i : ℕ) (ks : List ℕ) (k : ℕ) → ApartFrom k ks → get_or (placed t i ks) k 0 ≡ get_or t k 0
placed_other t i [] k a = refl
placed_other t i (x ∷ ks) k a = placed_other (set t x i) (suc i) ks k a.1 ∙ get_or-set_other t x k i 0 (λ e. a.0 (sym e))

length_placed : (t : List ℕ) (i : ℕ) (ks : List ℕ) → length (placed t i ks) ≡ length t
length_placed t i [] = refl
length_placed t i (k ∷ ks) = length_placed (set t k i) (suc i) ks ∙ length-set t k i

placed_at : (t : List ℕ) (i : ℕ) (ks : List ℕ) (k : ℕ) → Distinct ks → place_in ks k < length ks → k < length t → get_or (placed t i ks) k 0 ≡ i + place_in ks k
placed_at t i [] k d h room = absurd (omega arith)
placed_at t i (x ∷ ks) k d h room =
    let long = length-set t x i in
    go (eqb x k) refl h (λ l. placed_at (set t x i) (suc i) ks k d.1 l (omega arith))
  where
    go : (c : Bool) → eqb x k ≡ c → cond c 0 (suc (place_in ks k)) < suc (length ks)
        → (place_in ks k < length ks → get_or (placed (set t x i) (suc i) ks) k 0 ≡ suc i + place_in ks k)
        → get_or (placed (set t x i) (suc i) ks) k 0 ≡ i + cond c 0 (suc (place_in ks k))
    go true e l later =
        let same : x ≡ k = eqb-true x k e in
        let apart : ApartFrom k ks = subst (λ z. ApartFrom z ks) same d.0 in
        let w : i ≡ i + 0 = omega arith in
        placed_other (set t x i) (suc i) ks k apart ∙ ap (λ z. get_or (set t z i) k 0) same ∙ get_or-set_same t k i 0 room ∙ w
    go false e l later =
        let w : suc i + place_in ks k ≡ i + suc (place_in ks k) = omega arith in
        later (omega arith) ∙ w

module _ (b : List ℕ) where
  all_placed_other : (t ss : List ℕ) (k : ℕ) → ApartFrom k (flat_map (phases b) ss) → get_or (all_placed b t ss) k 0 ≡ get_or t k 0
  all_placed_other t [] k a = refl
  all_placed_other t (s ∷ ss) k a =
      let p = phases b s in
      all_placed_other (placed t 0 p) ss k (all_right (λ y. y ≡ k → ⊥) p (flat_map (phases b) ss) a) ∙ placed_other t 0 p k (all_left (λ y. y ≡ k → ⊥) p (flat_map (phases b) ss) a)

  pub all_placed_at : (t ss : List ℕ) (i k : ℕ) → i < length ss → Distinct (flat_map (phases b) ss) → place_in (phases b (get_or ss i 0)) k < length (phases b (get_or ss i 0))
      → k < length t → get_or (all_placed b t ss) k 0 ≡ place_in (phases b (get_or ss i 0)) k
  all_placed_at t [] i k h d l room = absurd (omega arith)
  all_placed_at t (s ∷ ss) zero k h d l room =
      let p = phases b s in
      let rest = flat_map (phases b) ss in
      let w : 0 + place_in p k ≡ place_in p k = omega arith in
      all_placed_other (placed t 0 p) ss k (distinct_apart p rest k d l) ∙ placed_at t 0 p k (distinct_left p rest d) l room ∙ w
  all_placed_at t (s ∷ ss) (suc i) k h d l room =
      let p = phases b s in
      let long = length_placed t 0 p in
      all_placed_at (placed t 0 p) ss i k (omega arith) (distinct_right p (flat_map (phases b) ss) d) l (omega arith)
