-- Counting names in a table, one index field and one record at a time; and a search among index fields.
use Rattle.std.proofs.Common.{◌≡◌, ℕ, suc, ◌+◌, ◌-◌, ◌*◌, ◌<◌, ◌≤◌, Bool, true, false, cond, ◌||◌, eqb, List, [], ◌∷◌, length, get_or, drop, set, replicate, sym, refl, ap, ◌∙◌, subst, ⊎_elim, arith}
use Rattle.std.proofs.lemmas.List.{at_drop_more, at_drop_all, get_or-set_same, get_or-set_other, get_or_past, get_or-replicate, length-set, length-replicate}
use Rattle.std.proofs.lemmas.Bool.{eq-eqb, ne_eqb, cases_eq, cases_lt}
use Rattle.links.specs.declared.link.Link.{Link}
use Rattle.links.specs.Fields.{no_link}
use Rattle.links.specs.Naming.{names, named_from}
use Rattle.links.proofs.Counting.{one_less}
use Rattle.structure.specs.Faults.{some_link}
use Rattle.structure.specs.Tables.{CountedOn, Counted}

pub some_more : (test : Link → Bool) (ls : List Link) (i : ℕ) → i < length ls → (t : Bool) → test (get_or ls i no_link) ≡ t → some_link test (drop i ls) ≡ (t || some_link test (drop (i + 1) ls))
some_more test ls i h t e = at_drop_more (some_link test) ls i no_link h ∙ ap (λ s. s || some_link test (drop (i + 1) ls)) e

names_few : (j : ℕ) (ls : List Link) → names j ls ≤ length ls
names_few j [] = omega arith
names_few j (l ∷ ls) = go (eqb l.to j) (names_few j ls)
  where
    go : (t : Bool) → names j ls ≤ length ls → cond {A = ℕ} t 1 0 + names j ls ≤ suc (length ls)
    go true few = omega arith
    go false few = omega arith

-- what holds before index field i adds to the counts `old`
pub record Counting (old : List ℕ) (ls : List Link) (i : ℕ) (counts : List ℕ) : Type 0 where
  pub long : length counts ≡ length old
  pub bound : (j : ℕ) → get_or counts j 0 ≤ get_or old j 0 + i
  pub told : (j : ℕ) → j < length old → get_or counts j 0 + names j (drop i ls) ≡ get_or old j 0 + names j ls

pub counting_none : (old : List ℕ) (ls : List Link) → Counting old ls 0 old
counting_none old ls = record { long = refl; bound = λ j. omega arith; told = λ j h. refl }

module _ (old : List ℕ) (ls : List Link) (i : ℕ) (counts : List ℕ) (c : Counting old ls i counts) (h : i < length ls) where
  next : (j : ℕ) → names j (drop i ls) ≡ cond (eqb (get_or ls i no_link).to j) 1 0 + names j (drop (i + 1) ls)
  next j = at_drop_more (names j) ls i no_link h

  next_yes : (j : ℕ) → (get_or ls i no_link).to ≡ j → names j (drop i ls) ≡ 1 + names j (drop (i + 1) ls)
  next_yes j e = next j ∙ ap (λ t. cond {A = ℕ} t 1 0 + names j (drop (i + 1) ls)) (eq-eqb _ j e)

  next_no : (j : ℕ) → ((get_or ls i no_link).to ≡ j → ⊥) → names j (drop i ls) ≡ names j (drop (i + 1) ls)
  next_no j e = next j ∙ ap (λ t. cond {A = ℕ} t 1 0 + names j (drop (i + 1) ls)) (ne_eqb _ j e) ∙ omega arith

  -- a record that has a count: it goes up by one
  pub counting_hit : (x : ℕ) → x ≡ (get_or ls i no_link).to → x < length counts → Counting old ls (i + 1) (set counts x (get_or counts x 0 + 1))
  counting_hit x is within =
      let up = get_or counts x 0 + 1 in
      let here : get_or (set counts x up) x 0 ≡ up = get_or-set_same counts x up 0 within in
      record {
        long = length-set counts x up ∙ c.long;
        bound = λ j. ⊎_elim
            (λ (same : j ≡ x). subst (λ k. get_or (set counts x up) k 0 ≤ get_or old k 0 + (i + 1)) (sym same) (omega (arith, here, c.bound x)))
            (λ (other : j ≡ x → ⊥). omega (arith, get_or-set_other counts x j up 0 other, c.bound j))
            (cases_eq j x);
        told = λ j low. ⊎_elim
            (λ (same : j ≡ x). subst (λ k. get_or (set counts x up) k 0 + names k (drop (i + 1) ls) ≡ get_or old k 0 + names k ls) (sym same)
            (omega (arith, here, next_yes x (sym is), c.told x (omega (arith, c.long)))))
            (λ (other : j ≡ x → ⊥). omega (arith, get_or-set_other counts x j up 0 other, next_no j (λ e. other (sym e ∙ sym is)), c.told j low))
            (cases_eq j x);
      }

  -- a record that has none
  pub counting_miss : (x : ℕ) → x ≡ (get_or ls i no_link).to → length counts ≤ x → Counting old ls (i + 1) counts
  counting_miss x is past = record {
    long = c.long;
    bound = λ j. omega (arith, c.bound j);
    told = λ j low. let other : (get_or ls i no_link).to ≡ j → ⊥ = λ e. absurd (omega (arith, c.long)) in omega (arith, next_no j other, c.told j low);
  }

pub counting_all : (old : List ℕ) (ls : List Link) (i : ℕ) (counts : List ℕ) → Counting old ls i counts → length ls ≤ i → CountedOn old ls counts
counting_all old ls i counts c h = λ j low. omega (arith, c.told j low, at_drop_all (names j) ls i h)

-- what holds of the counts of m records before record i adds its names
pub record Tallied (links : ℕ → List Link) (m : ℕ) (i : ℕ) (counts : List ℕ) : Type 0 where
  pub long : length counts ≡ 2001
  pub bound : (j : ℕ) → get_or counts j 0 ≤ 3 * i
  pub told : (j : ℕ) → j < length counts → get_or counts j 0 + named_from links j (m - i) i ≡ named_from links j m 0

pub tallied_none : (links : ℕ → List Link) (m : ℕ) → Tallied links m 0 (replicate 2001 0)
tallied_none links m =
    let zeros : List ℕ = replicate 2001 0 in
    let long : length zeros ≡ 2001 = length-replicate {A = ℕ} 2001 0 in
    let zero : (j : ℕ) → get_or zeros j 0 ≡ 0 = λ j. ⊎_elim (λ low. get_or-replicate 2001 j 0 0 low) (λ high. get_or_past zeros j 0 (omega arith)) (cases_lt j 2001) in
    let all : m - 0 ≡ m = omega arith in
    record {
      long = long;
      bound = λ j. omega (arith, zero j);
      told = λ j low. omega (arith, zero j, ap (λ k. named_from links j k 0) all);
    }

pub tallied_more : (links : ℕ → List Link) (m i : ℕ) (counts : List ℕ) (ls : List Link) (counts' : List ℕ) → Tallied links m i counts → i < m → length ls ≡ 3 → ls ≡ links i → length counts' ≡ length counts → CountedOn counts ls counts' → Tallied links m (i + 1) counts'
tallied_more links m i counts ls counts' t h three is same on =
    let step : (j : ℕ) → named_from links j (m - i) i ≡ names j (links i) + named_from links j (m - (i + 1)) (i + 1) = λ j. ap (λ k. named_from links j k i) (one_less m i h) in
    record {
      long = same ∙ t.long;
      bound = λ j. ⊎_elim
          (λ (low : j < length counts). omega (arith, on j low, names_few j ls, t.bound j))
          (λ (high : length counts ≤ j). omega (arith, get_or_past counts' j 0 (omega arith)))
          (cases_lt j (length counts));
      told = λ j low. omega (arith, on j (omega arith), t.told j (omega arith), step j, ap (names j) is);
    }

pub tallied_all : (links : ℕ → List Link) (n i : ℕ) (counts : List ℕ) → Tallied links (n + 1) i counts → n + 1 ≤ i → Counted links n counts
tallied_all links n i counts t h = λ j low. let none : n + 1 - i ≡ 0 = omega arith in omega (arith, t.told j low, ap (λ k. named_from links j k i) none)
