-- A list has no record twice, where each record is named once and reached from the head, and stands in the list no more often
-- than the head and the records of the list name it.
use Rattle.std.proofs.Common.{◌≡◌, ℕ, zero, suc, ◌+◌, ◌<◌, ◌≤◌, ◌⊎◌, List, [], ◌∷◌, refl, ap, subst, inl, inr, ⊎_elim, arith}
use Rattle.std.specs.List.{AllByRecursion}
use Rattle.std.proofs.ByRecursion.{All-weaker}
use Rattle.std.proofs.lemmas.Bool.{cases_eq, cases_lt, cases_order}
use Rattle.links.specs.declared.link.Link.{Link}
use Rattle.links.specs.Naming.{names, named_from}
use Rattle.links.specs.Reached.{Names, Reached, head, named}
use Rattle.tree_records.proofs.Once.{total, same, count, same_yes, same_no, total_le, count_none, Once}

names_some : (k : ℕ) (ls : List Link) → Names ls k → 1 ≤ names k ls
names_some k [] e = absurd e
names_some k (l ∷ ls) e = ⊎_elim (λ (here : l.to ≡ k). omega (arith, same_yes k l.to here)) (λ (later : Names ls k). omega (arith, names_some k ls later)) e

module _ (links : ℕ → List Link) where
  -- one record's names of k, and two records', are among those of all
  one_names : (k m a i : ℕ) → a ≤ i → i < a + m → names k (links i) ≤ named_from links k m a
  one_names k zero a i low high = absurd (omega arith)
  one_names k (suc m) a i low high =
      ⊎_elim {C = names k (links i) ≤ named_from links k (suc m) a}
      (λ (first : i ≡ a). omega (arith, ap (λ j. names k (links j)) first))
      (λ (later : i ≡ a → ⊥). omega (arith, one_names k m (a + 1) i (omega arith) (omega arith)))
      (cases_eq i a)

  two_name : (k m a i j : ℕ) → a ≤ i → i < j → j < a + m → names k (links i) + names k (links j) ≤ named_from links k m a
  two_name k zero a i j low up high = absurd (omega arith)
  two_name k (suc m) a i j low up high =
      ⊎_elim {C = names k (links i) + names k (links j) ≤ named_from links k (suc m) a}
      (λ (first : i ≡ a). omega (arith, ap (λ x. names k (links x)) first, one_names k m (a + 1) j (omega arith) (omega arith)))
      (λ (later : i ≡ a → ⊥). omega (arith, two_name k m (a + 1) i j (omega arith) up (omega arith)))
      (cases_eq i a)

  -- a record that is named once is named by i alone, if i names it
  holder_alone : (n k i j : ℕ) → named_from links k (n + 1) 0 ≡ 1 → Names (links i) k → i ≤ n → j ≤ n → names k (links j) ≤ same i j
  holder_alone n k i j once nm hi hj =
      let some = names_some k (links i) nm in
      ⊎_elim {C = names k (links j) ≤ same i j}
      (λ (it : j ≡ i). omega (arith, same_yes i j it, one_names k (n + 1) 0 j (omega arith) (omega arith)))
      (⊎_elim
      (λ (up : j < i). omega (arith, two_name k (n + 1) 0 j i (omega arith) up (omega arith)))
      (λ (down : i < j). omega (arith, two_name k (n + 1) 0 i j (omega arith) down (omega arith))))
      (cases_order j i)

  reached_within : (n k : ℕ) → Reached links n k → k ≤ n
  reached_within n k head = omega arith
  reached_within n k (named r nm lo hi) = hi

  -- where a record is reached, the head names one
  pub head_names : (n k : ℕ) → Reached links n k → 1 ≤ k → (j : ℕ) × Names (links 0) j × (1 ≤ j) × (j ≤ n)
  head_names n k head some = absurd (omega arith)
  head_names n k (named {i = i} r nm lo hi) some =
      ⊎_elim {C = (j : ℕ) × Names (links 0) j × (1 ≤ j) × (j ≤ n)}
      (λ (it : i ≡ 0). (k, subst (λ x. Names (links x) k) it nm, lo, hi))
      (λ (other : i ≡ 0 → ⊥). head_names n i r (omega arith))
      (cases_eq i 0)

  module _ (n : ℕ) (xs : List ℕ) (within : AllByRecursion (λ x. (1 ≤ x) × (x ≤ n)) xs)
      (once : (k : ℕ) → 1 ≤ k → k ≤ n → named_from links k (n + 1) 0 ≡ 1)
      (few : (k : ℕ) → 1 ≤ k → k ≤ n → count k xs ≤ names k (links 0) + total (λ j. names k (links j)) xs) where
    -- the head stands for itself once, besides the list
    reached_once : (k : ℕ) → Reached links n k → same k 0 + count k xs ≤ 1
    reached_once k head =
        let none = count_none 0 xs (All-weaker (λ x. (1 ≤ x) × (x ≤ n)) (λ x. x ≡ 0 → ⊥) (λ x h z. absurd (omega arith)) xs within) in
        omega (arith, same_yes 0 0 refl)
    reached_once k (named {i = i} r nm lo hi) =
        let high = reached_within n i r in
        let alone : (j : ℕ) → j ≤ n → names k (links j) ≤ same i j = λ j h. holder_alone n k i j (once k lo hi) nm high h in
        let rest = total_le (λ j. names k (links j)) (same i) xs (All-weaker (λ x. (1 ≤ x) × (x ≤ n)) (λ x. names k (links x) ≤ same i x) (λ x h. alone x h.1) xs within) in
        omega (arith, same_no k 0 (λ z. absurd (omega arith)), few k lo hi, alone 0 (omega arith), reached_once i r)

    pub once_from_names : ((k : ℕ) → 1 ≤ k → k ≤ n → Reached links n k) → Once xs
    once_from_names reach k =
        let outside : (k < 1) ⊎ (n < k) → count k xs ≤ 1 = λ out.
        let none = count_none k xs (All-weaker (λ x. (1 ≤ x) × (x ≤ n)) (λ x. x ≡ k → ⊥) (λ x h z. absurd (⊎_elim (λ low. omega arith) (λ high. omega arith) out)) xs within) in
        omega arith
        in
        ⊎_elim {C = count k xs ≤ 1}
        (λ (low : k < 1). outside (inl low))
        (λ (some : 1 ≤ k). ⊎_elim
        (λ (high : n < k). outside (inr high))
        (λ (inside : k ≤ n). omega (arith, reached_once k (reach k some inside)))
        (cases_lt n k))
        (cases_lt k 1)
