-- A call is declined exactly where a refusal's condition is the first of its call that holds.
use Rattle.std.proofs.Common.{◌≡◌, ℕ, zero, suc, ◌+◌, ◌*◌, ◌<◌, ◌≤◌, Bool, true, false, cond, not, ◌||◌, eqb, ltb, ◌⊎◌, ◌↔◌, List, [], ◌∷◌, length, get_or, Some, None, Ok, Err, Decides, Option, sym, refl, ap, ◌∙◌, subst, ap₂, subst₂, inl, inr, arith}
use Rattle.std.specs.Option.{option_or, option_map}
use Rattle.std.proofs.lemmas.Bool.{ltb-true, lt-ltb, ltb-false, le-ltb, eqb-true, eq-eqb, and_parts, and_from, or_cases, or_left, or_right, not_from_false}
use Rattle.book.specs.Refusals.{refused}
use Rattle.book.specs.declared.refusal.Fault.{Fault}
use Rattle.book.specs.declared.refusal.Fault.TheVariants.{Paths, Room, Busy, Due, Lifetime, Total, Idle}
use Rattle.semantics.specs.Times.{Order, StepFirst, WordFirst}
use Rattle.semantics.specs.Trees.{Path}
use Rattle.semantics.specs.Events.{Event}
use Rattle.semantics.specs.Net.{Net, NetState, busy_at, due_at, past_at, ends_now, runs_out}
use Rattle.semantics.specs.Calls.{Answer, Outcome, Call, wait, word, step, unless, at_zero, number, lowest, first_bad, bad_path, bad_paths, room, declined, step_of, due_before_words, answer_call}
use Rattle.semantics.specs.Calls as calls
use Rattle.semantics.proofs.Options.{some_not_none, true_not_false, inner}
use Rattle.semantics.proofs.Lowest.{is_lowest, all_fail, none_found, found}
use Rattle.stepping.specs.Declines.{NoneHas, LowestWith, blank_path, BadPath, IsBusy, IsDue, RunsPast, Checked, Declines, wait_busy, wait_past, wait_over, word_path, word_room, word_busy, word_due, step_path, step_room, step_idle}

-- a search that answers by a property: nothing where no place has it, else the lowest, counted from 1
pub record Finds (P : ℕ → Type 0) (n : ℕ) (u : Option ℕ) : Type 0 where
  pub none : u ≡ None → NoneHas P n
  pub found_none : NoneHas P n → u ≡ None
  pub at : (k : ℕ) → u ≡ Some k → LowestWith P n k
  pub found_at : (k : ℕ) → LowestWith P n k → u ≡ Some k

number_none : (u : Option ℕ) → number u ≡ None → u ≡ None
number_none None e = refl
number_none (Some x) e = absurd (some_not_none _ e)

number_some : (u : Option ℕ) (k : ℕ) → number u ≡ Some k → (i : ℕ) × ((u ≡ Some i) × (k ≡ suc i))
number_some None k e = absurd (some_not_none k (sym e))
number_some (Some i) k e = (i, (refl, sym (inner e)))

pub finds_lowest : (p : ℕ → Bool) (P : ℕ → Type 0) → ((i : ℕ) → Decides (p i) (P i)) → (n : ℕ) → Finds P n (number (lowest p 0 n))
finds_lowest p P decides n = record {
  none = λ e i l h. true_not_false (sym ((decides i).1 h) ∙ all_fail p 0 n (number_none _ e) i (omega arith) (omega arith));
  found_none = λ h. ap number (none_found p 0 n (λ j a b. not_so j (h j (omega arith))));
  at = λ k e.
      let u = number_some (lowest p 0 n) k e in
      let r = is_lowest p 0 n u.0 u.1.0 in
      record {
        place = u.0;
        counted = u.1.1;
        within = let x = r.under in omega arith;
        has = (decides u.0).0 r.passes;
        first = λ i l h. true_not_false (sym ((decides i).1 h) ∙ r.below i (omega arith) l);
      };
  found_at = λ k r.
      ap number (found p 0 n r.place (omega arith) (let x = r.within in omega arith) ((decides r.place).1 r.has) (λ j a b. not_so j (r.first j b)))
      ∙ ap Some (sym r.counted);
}
  where
    not_so : (j : ℕ) → (P j → ⊥) → p j ≡ false
    not_so j h = go (p j) refl
      where
        go : (b : Bool) → p j ≡ b → p j ≡ false
        go true e = absurd (h ((decides j).0 e))
        go false e = e

-- the first bad of a list is the lowest place that is
first_lowest : {A : Type 0} (bad : A → Bool) (d : A) (xs : List A) (k : ℕ) → first_bad bad (suc k) xs ≡ option_map (λ i. suc (k + i)) (lowest (λ i. bad (get_or xs i d)) 0 (length xs))
first_lowest bad d [] k = refl
first_lowest bad d (x ∷ xs) k = go (bad x) refl (first_lowest bad d xs (suc k))
  where
    shifted : (p : ℕ → Bool) (m n : ℕ) → option_map (λ i. suc (suc k + i)) (lowest (λ i. p (suc i)) m n) ≡ option_map (λ i. suc (k + i)) (lowest p (suc m) n)
    shifted p m zero = refl
    shifted p m (suc n) = hop (p (suc m)) refl (shifted p (suc m) n)
      where
        hop : (b : Bool) → p (suc m) ≡ b → option_map (λ i. suc (suc k + i)) (lowest (λ i. p (suc i)) (suc m) n) ≡ option_map (λ i. suc (k + i)) (lowest p (suc (suc m)) n) →
            option_map (λ i. suc (suc k + i)) (cond (p (suc m)) (Some m) (lowest (λ i. p (suc i)) (suc m) n)) ≡ option_map (λ i. suc (k + i)) (cond (p (suc m)) (Some (suc m)) (lowest p (suc (suc m)) n))
        hop true e rest =
            let same : suc (suc k + m) ≡ suc (k + suc m) = omega arith in
            ap (λ b. option_map (λ i. suc (suc k + i)) (cond b (Some m) (lowest (λ i. p (suc i)) (suc m) n))) e
            ∙ (ap Some same ∙ sym (ap (λ b. option_map (λ i. suc (k + i)) (cond b (Some (suc m)) (lowest p (suc (suc m)) n))) e))
        hop false e rest =
            ap (λ b. option_map (λ i. suc (suc k + i)) (cond b (Some m) (lowest (λ i. p (suc i)) (suc m) n))) e
            ∙ (rest ∙ sym (ap (λ b. option_map (λ i. suc (k + i)) (cond b (Some (suc m)) (lowest p (suc (suc m)) n))) e))

    go : (b : Bool) → bad x ≡ b → first_bad bad (suc (suc k)) xs ≡ option_map (λ i. suc (suc k + i)) (lowest (λ i. bad (get_or xs i d)) 0 (length xs)) →
        cond (bad x) (Some (suc k)) (first_bad bad (suc (suc k)) xs) ≡ option_map (λ i. suc (k + i)) (cond (bad x) (Some 0) (lowest (λ i. bad (get_or (x ∷ xs) i d)) 1 (length xs)))
    go true e rest =
        let same : suc k ≡ suc (k + 0) = omega arith in
        ap (λ b. cond b (Some (suc k)) (first_bad bad (suc (suc k)) xs)) e
        ∙ (ap Some same ∙ sym (ap (λ b. option_map (λ i. suc (k + i)) (cond b (Some 0) (lowest (λ i. bad (get_or (x ∷ xs) i d)) 1 (length xs)))) e))
    go false e rest =
        ap (λ b. cond b (Some (suc k)) (first_bad bad (suc (suc k)) xs)) e
        ∙ (rest ∙ (shifted (λ i. bad (get_or (x ∷ xs) i d)) 0 (length xs)
        ∙ sym (ap (λ b. option_map (λ i. suc (k + i)) (cond b (Some 0) (lowest (λ i. bad (get_or (x ∷ xs) i d)) 1 (length xs)))) e)))

mapped_same : (f g : ℕ → ℕ) → ((i : ℕ) → f i ≡ g i) → (u : Option ℕ) → option_map f u ≡ option_map g u
mapped_same f g h None = refl
mapped_same f g h (Some i) = ap Some (h i)

pub first_number : {A : Type 0} (bad : A → Bool) (d : A) (xs : List A) → first_bad bad 1 xs ≡ number (lowest (λ i. bad (get_or xs i d)) 0 (length xs))
first_number bad d xs = first_lowest bad d xs 0 ∙ mapped_same _ suc (λ i. omega arith) _

-- declined by one refusal, or by what follows it
err_same : (f g : Fault) (k j : ℕ) → ◌≡◌ {A = Answer} (Err (refused f j)) (Err (refused g k)) → (f ≡ g) × (j ≡ k)
err_same f g k j e = let r : refused f j ≡ refused g k = cc in (ap (λ x. x.fault) r, ap (λ x. x.place) r)

pub ok_not_err : (es : List Event) (f : Fault) (k : ℕ) → ◌≡◌ {A = Answer} (Ok es) (Err (refused f k)) → ⊥
ok_not_err es f k e = let z : ◌≡◌ {A = ℕ} 0 1 = cc in omega arith

module _ {A : Type 0} (answer-of : A → Answer) (no : Fault → ℕ → A) (told : (f : Fault) (j : ℕ) → answer-of (no f j) ≡ Err (refused f j)) (g : Fault) (k : ℕ) (R : Fault → ℕ → Type 0) where
  pub cases : (u : Option ℕ) (f : Fault) (r : A) → ((j : ℕ) → u ≡ Some j → R f j) → (u ≡ None → answer-of r ≡ Err (refused g k) → R g k) →
      answer-of (unless u (no f) r) ≡ Err (refused g k) → R g k
  cases None f r here later h = later refl h
  cases (Some j) f r here later h = let e = err_same f g k j (sym (told f j) ∙ h) in subst₂ R e.0 e.1 (here j refl)

by_cases : (s : NetState) (g : Fault) (k : ℕ) (R : Fault → ℕ → Type 0) (u : Option ℕ) (f : Fault) (r : Outcome) → ((j : ℕ) → u ≡ Some j → R f j) →
    (u ≡ None → r.answer ≡ Err (refused g k) → R g k) → (unless u (declined f s) r).answer ≡ Err (refused g k) → R g k
by_cases s = cases (λ (r : Outcome). r.answer) (λ f j. declined f s j) (λ f j. refl)

pub zero_none : (b : Bool) → at_zero b ≡ None → b ≡ false
zero_none true e = absurd (some_not_none 0 e)
zero_none false e = refl

pub zero_some : (b : Bool) (k : ℕ) → at_zero b ≡ Some k → (b ≡ true) × (k ≡ 0)
zero_some true k e = (refl, sym (inner e))
zero_some false k e = absurd (some_not_none k (sym e))

either_none : (u w : Option ℕ) → option_or u w ≡ None → (u ≡ None) × (w ≡ None)
either_none None w e = (refl, e)
either_none (Some x) w e = absurd (some_not_none x e)

-- paths, with n stations
module _ (n : ℕ) (paths : List Path) where
  bad_decides : (i : ℕ) → Decides (bad_path n (get_or paths i blank_path)) (BadPath n paths i)
  bad_decides i = (there, back)
    where
      there : bad_path n (get_or paths i blank_path) ≡ true → BadPath n paths i
      there h = go (or_cases _ _ h)
        where
          ends : (ltb n (get_or paths i blank_path).sender ≡ true) ⊎ (ltb n (get_or paths i blank_path).hearer ≡ true) → BadPath n paths i
          ends (inl x) = inl (inl (ltb-true _ _ x))
          ends (inr x) = inl (inr (ltb-true _ _ x))

          go : ((ltb n (get_or paths i blank_path).sender || ltb n (get_or paths i blank_path).hearer) ≡ true) ⊎ (eqb (get_or paths i blank_path).sender (get_or paths i blank_path).hearer ≡ true) → BadPath n paths i
          go (inl x) = ends (or_cases _ _ x)
          go (inr x) = inr (eqb-true _ _ x)

      back : BadPath n paths i → bad_path n (get_or paths i blank_path) ≡ true
      back (inl (inl x)) = or_left _ _ (or_left _ _ (lt-ltb _ _ x))
      back (inl (inr x)) = or_left _ _ (or_right _ _ (lt-ltb _ _ x))
      back (inr x) = or_right _ _ (eq-eqb _ _ x)

  pub path_found : Finds (BadPath n paths) (length paths) (bad_paths n paths)
  path_found =
      subst (Finds (BadPath n paths) (length paths)) (sym (first_number (bad_path n) blank_path paths))
      (finds_lowest (λ i. bad_path n (get_or paths i blank_path)) (BadPath n paths) bad_decides (length paths))

module _ (net : Net) (paths : List Path) (s : NetState) where
  abbrev n : ℕ
  n = length net.stations

  busy_decides : (i : ℕ) → Decides (busy_at net.stations s.stations i) (IsBusy net paths s i)
  busy_decides i = ((λ e. e), (λ e. e))

  ends_so : (l : Option ℕ) (e : ℕ) → Decides (ends_now l net.parts e) ((x : ℕ) × ((l ≡ Some x) × (e ≡ x * net.parts)))
  ends_so None e = ((λ h. absurd (true_not_false (sym h))), (λ h. absurd (some_not_none h.0 (sym h.1.0))))
  ends_so (Some l) e = (
    (λ h. (l, (refl, eqb-true _ _ h))),
    (λ h. eq-eqb e (l * net.parts) (h.1.1 ∙ ap (λ x. x * net.parts) (sym (inner h.1.0)))),
  )

  runs_so : (l : Option ℕ) (e : ℕ) → Decides (runs_out l net.parts e) ((x : ℕ) × ((l ≡ Some x) × (x * net.parts < e)))
  runs_so None e = ((λ h. absurd (true_not_false (sym h))), (λ h. absurd (some_not_none h.0 (sym h.1.0))))
  runs_so (Some l) e = (
    (λ h. (l, (refl, ltb-true _ _ h))),
    (λ h. lt-ltb (l * net.parts) e (subst (λ x. x * net.parts < e) (sym (inner h.1.0)) h.1.1)),
  )

  not_false_is : (b : Bool) → not b ≡ true → b ≡ false
  not_false_is true e = absurd (true_not_false (sym e))
  not_false_is false e = refl

  due_decides : (i : ℕ) → Decides (due_at net.stations net.parts s.stations i) (IsDue net paths s i)
  due_decides i = (
    (λ h. let p = and_parts _ _ h in (not_false_is _ p.0, (ends_so _ _).0 p.1)),
    (λ h. and_from _ _ (not_from_false _ h.0) ((ends_so _ _).1 h.1)),
  )

  past_decides : (d i : ℕ) → Decides (past_at net.stations net.parts s.stations d i) (RunsPast net paths s d i)
  past_decides d i = runs_so _ _

  busy_found : Finds (IsBusy net paths s) n (number (calls.lowest_busy net s))
  busy_found = finds_lowest _ (IsBusy net paths s) busy_decides n

  due_found : Finds (IsDue net paths s) n (number (calls.lowest_due net s))
  due_found = finds_lowest _ (IsDue net paths s) due_decides n

  past_found : (d : ℕ) → Finds (RunsPast net paths s d) n (number (calls.lowest_past net s d))
  past_found d = finds_lowest _ (RunsPast net paths s d) (past_decides d) n

  abbrev bad_found : Finds (BadPath n paths) (length paths) (bad_paths n paths)
  bad_found = path_found n paths

  abbrev D : Call → Fault → ℕ → Type 0
  D = Declines net paths s

  at_room : (slots : ℕ) (R : ℕ → Type 0) (j : ℕ) → (slots < room paths → R 0) → at_zero (ltb slots (room paths)) ≡ Some j → R j
  at_room slots R j h e = let z = zero_some _ j e in subst R (sym z.1) (h (ltb-true _ _ z.0))

  has_room : (slots : ℕ) → at_zero (ltb slots (room paths)) ≡ None → room paths ≤ slots
  has_room slots e = ltb-false _ _ (zero_none _ e)

  wait_forth : (d : ℕ) (f : Fault) (k : ℕ) → (answer_call net paths (wait d) s).answer ≡ Err (refused f k) → D (wait d) f k
  wait_forth d f k =
      by_cases s f k (D (wait d)) (number (calls.lowest_busy net s)) Busy _ (λ j e. wait_busy (busy_found.at j e)) (λ quiet.
      by_cases s f k (D (wait d)) (number (calls.lowest_past net s d)) Lifetime _ (λ j e. wait_past (busy_found.none quiet) ((past_found d).at j e)) (λ short.
      by_cases s f k (D (wait d)) (at_zero (ltb 1000000000000000 (s.total + d))) Total _
      (λ j e. let z = zero_some _ j e in subst (D (wait d) Total) (sym z.1) (wait_over (busy_found.none quiet) ((past_found d).none short) (ltb-true _ _ z.0)))
      (λ _ e. absurd (ok_not_err [] f k e))))

  due_forth : (port v slots : ℕ) → Checked net paths s slots → NoneHas (IsBusy net paths s) n → (o : Order) → net.order ≡ o → (j : ℕ) →
      number (due_before_words net o s) ≡ Some j → D (word port v slots) Due j
  due_forth port v slots checked quiet StepFirst e j h = word_due checked quiet e (due_found.at j h)
  due_forth port v slots checked quiet WordFirst e j h = absurd (some_not_none j (sym h))

  word_forth : (port v slots : ℕ) (f : Fault) (k : ℕ) → (answer_call net paths (word port v slots) s).answer ≡ Err (refused f k) → D (word port v slots) f k
  word_forth port v slots f k =
      by_cases s f k (D (word port v slots)) (bad_paths n paths) Paths _ (λ j e. word_path (bad_found.at j e)) (λ fine.
      by_cases s f k (D (word port v slots)) (at_zero (ltb slots (room paths))) Room _ (λ j e. at_room slots (D (word port v slots) Room) j (λ l. word_room (bad_found.none fine) l) e) (λ roomy.
      by_cases s f k (D (word port v slots)) (number (calls.lowest_busy net s)) Busy _ (λ j e. word_busy (bad_found.none fine, has_room slots roomy) (busy_found.at j e)) (λ quiet.
      by_cases s f k (D (word port v slots)) (number (due_before_words net net.order s)) Due _
      (λ j e. due_forth port v slots (bad_found.none fine, has_room slots roomy) (busy_found.none quiet) net.order refl j e)
      (λ _ e. absurd (ok_not_err _ f k e)))))

  step_none : (slots : ℕ) → Checked net paths s slots → (f : Fault) (k : ℕ) (u : Option ℕ) → option_or (calls.lowest_busy net s) (calls.lowest_due net s) ≡ u →
      (step_of net paths s u).answer ≡ Err (refused f k) → D (step slots) f k
  step_none slots checked f k None e h =
      let both = either_none _ _ e in
      let same = err_same Idle f k 0 h in
      subst₂ (D (step slots)) same.0 same.1 (step_idle checked (busy_found.none (ap number both.0)) (due_found.none (ap number both.1)))
  step_none slots checked f k (Some i) e h = absurd (ok_not_err _ f k h)

  step_forth : (slots : ℕ) (f : Fault) (k : ℕ) → (answer_call net paths (step slots) s).answer ≡ Err (refused f k) → D (step slots) f k
  step_forth slots f k =
      by_cases s f k (D (step slots)) (bad_paths n paths) Paths _ (λ j e. step_path (bad_found.at j e)) (λ fine.
      by_cases s f k (D (step slots)) (at_zero (ltb slots (room paths))) Room _ (λ j e. at_room slots (D (step slots) Room) j (λ l. step_room (bad_found.none fine) l) e) (λ roomy.
      step_none slots (bad_found.none fine, has_room slots roomy) f k _ refl))

  forth : (c : Call) (f : Fault) (k : ℕ) → (answer_call net paths c s).answer ≡ Err (refused f k) → D c f k
  forth (wait d) f k h = wait_forth d f k h
  forth (word port v slots) f k h = word_forth port v slots f k h
  forth (step slots) f k h = step_forth slots f k h

  fine_room : (slots : ℕ) → Checked net paths s slots → (bad_paths n paths ≡ None) × (at_zero (ltb slots (room paths)) ≡ None)
  fine_room slots c = (bad_found.found_none c.0, ap at_zero (le-ltb slots (room paths) c.1))

  none_busy : NoneHas (IsBusy net paths s) n → calls.lowest_busy net s ≡ None
  none_busy h = number_none _ (busy_found.found_none h)

  none_due : NoneHas (IsDue net paths s) n → calls.lowest_due net s ≡ None
  none_due h = number_none _ (due_found.found_none h)

  back : (c : Call) (f : Fault) (k : ℕ) → D c f k → (answer_call net paths c s).answer ≡ Err (refused f k)
  back (wait d) f k (wait_busy l) = let a = busy_found.found_at k l in simp a
  back (wait d) f k (wait_past q l) =
      let a = busy_found.found_none q in
      let b = (past_found d).found_at k l in
      simp (a, b)
  back (wait d) f k (wait_over q p l) =
      let a = busy_found.found_none q in
      let b = (past_found d).found_none p in
      let c : at_zero (ltb 1000000000000000 (s.total + d)) ≡ Some 0 = ap at_zero (lt-ltb 1000000000000000 (s.total + d) l) in
      simp (a, b, c)
  back (word port v slots) f k (word_path l) = let a = bad_found.found_at k l in simp a
  back (word port v slots) f k (word_room fine l) =
      let a = bad_found.found_none fine in
      let b : at_zero (ltb slots (room paths)) ≡ Some 0 = ap at_zero (lt-ltb slots (room paths) l) in
      simp (a, b)
  back (word port v slots) f k (word_busy c l) =
      let a = fine_room slots c in
      let a0 = a.0 in
      let a1 = a.1 in
      let b = busy_found.found_at k l in
      simp (a0, a1, b)
  back (word port v slots) f k (word_due c q o l) =
      let a = fine_room slots c in
      let a0 = a.0 in
      let a1 = a.1 in
      let b = busy_found.found_none q in
      let e = due_found.found_at k l in
      let d : number (due_before_words net net.order s) ≡ Some k = ap (λ x. number (due_before_words net x s)) o ∙ e in
      simp (a0, a1, b, d)
  back (step slots) f k (step_path l) = let a = bad_found.found_at k l in simp a
  back (step slots) f k (step_room fine l) =
      let a = bad_found.found_none fine in
      let b : at_zero (ltb slots (room paths)) ≡ Some 0 = ap at_zero (lt-ltb slots (room paths) l) in
      simp (a, b)
  back (step slots) f k (step_idle c q d) =
      let a = fine_room slots c in
      let a0 = a.0 in
      let a1 = a.1 in
      let b : option_or (calls.lowest_busy net s) (calls.lowest_due net s) ≡ None = ap₂ option_or (none_busy q) (none_due d) in
      simp (a0, a1, b)

  pub declines_exactly : (c : Call) (f : Fault) (k : ℕ) → ((answer_call net paths c s).answer ≡ Err (refused f k)) ↔ Declines net paths s c f k
  declines_exactly c f k = (forth c f k, back c f k)
