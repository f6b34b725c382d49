-- A making is declined exactly where a refusal's condition is the first that holds, and succeeds where none does.
use Rattle.std.proofs.Common.{◌≡◌, ℕ, ◌*◌, ◌<◌, ◌≤◌, Bool, true, false, ◌||◌, eqb, ltb, ◌⊎◌, List, length, get_or, Some, None, Ok, Err, Decides, Option, sym, refl, ap, ◌∙◌, subst, inl, inr, arith}
use Rattle.std.proofs.lemmas.Bool.{ltb-true, lt-ltb, ltb-false, le-ltb, eqb-true, eq-eqb, or_cases, or_left, or_right}
use Rattle.book.specs.Refusals.{refused}
use Rattle.book.specs.declared.refusal.Fault.{Fault}
use Rattle.book.specs.declared.refusal.Fault.TheVariants.{Scale, Paths, Room, Parts}
use Rattle.semantics.specs.Times.{Order}
use Rattle.semantics.specs.Trees.{Path}
use Rattle.semantics.specs.Machine.{Meaning, meaning_at, blank_meaning, net_scale, factor}
use Rattle.semantics.specs.Events.{Event}
use Rattle.semantics.specs.Calls.{Answer, make, created, misfit, first_bad, bad_paths, unless, at_zero}
use Rattle.semantics.proofs.Options.{true_not_false}
use Rattle.stepping.specs.Makings.{Misfits, AllFit, MakingDeclines, scale, path, room, parts, MakingFits, MakingsDecline}
use Rattle.stepping.proofs.Declined.{Finds, finds_lowest, first_number, ok_not_err, cases, zero_none, zero_some, path_found}

-- a refusal or what follows it, where the answer is no refusal
ok_after : (u : Option ℕ) (f : Fault) (r : Answer) (es : List Event) → unless u (λ k. Err (refused f k)) r ≡ Ok es → (u ≡ None) × (r ≡ Ok es)
ok_after None f r es h = (refl, h)
ok_after (Some k) f r es h = absurd (ok_not_err es f k (sym h))

ok_same : (es fs : List Event) → ◌≡◌ {A = Answer} (Ok es) (Ok fs) → es ≡ fs
ok_same es fs h = cc

-- parts per net tick outside 1 to 1,000
parts_out : (q : ℕ) → Decides (eqb q 0 || ltb 1000 q) ((q ≡ 0) ⊎ (1000 < q))
parts_out q = (λ h. there (or_cases _ _ h), back)
  where
    there : (eqb q 0 ≡ true) ⊎ (ltb 1000 q ≡ true) → (q ≡ 0) ⊎ (1000 < q)
    there (inl e) = inl (eqb-true q 0 e)
    there (inr l) = inr (ltb-true 1000 q l)

    back : (q ≡ 0) ⊎ (1000 < q) → (eqb q 0 || ltb 1000 q) ≡ true
    back (inl e) = or_left _ _ (eq-eqb q 0 e)
    back (inr l) = or_right _ _ (lt-ltb 1000 q l)

is_false : (b : Bool) → (b ≡ true → ⊥) → b ≡ false
is_false true h = absurd (h refl)
is_false false h = refl

module _ (ms : Meaning) (paths : List Path) (o : Order) (q slots : ℕ) where
  abbrev n : ℕ
  n = length ms

  abbrev Misfit : ℕ → Type 0
  Misfit = Misfits ms paths q slots

  abbrev D : Fault → ℕ → Type 0
  D = MakingDeclines ms paths q slots

  abbrev short : Option ℕ
  short = at_zero (ltb slots n)

  abbrev out : Option ℕ
  out = at_zero (eqb q 0 || ltb 1000 q)

  misfit_decides : (i : ℕ) → Decides (misfit (net_scale ms) (get_or ms i blank_meaning)) (Misfit i)
  misfit_decides i = (λ h. there (or_cases _ _ h), back)
    where
      there : (eqb (factor (net_scale ms) (meaning_at ms i)) 0 ≡ true) ⊎ (ltb 1000000 ((meaning_at ms i).scale * factor (net_scale ms) (meaning_at ms i)) ≡ true) → Misfit i
      there (inl e) = inl (eqb-true _ _ e)
      there (inr l) = inr (ltb-true _ _ l)

      back : Misfit i → misfit (net_scale ms) (get_or ms i blank_meaning) ≡ true
      back (inl e) = or_left _ _ (eq-eqb _ _ e)
      back (inr l) = or_right _ _ (lt-ltb _ _ l)

  misfit_found : Finds Misfit n (first_bad (misfit (net_scale ms)) 1 ms)
  misfit_found =
      subst (Finds Misfit n) (sym (first_number (misfit (net_scale ms)) blank_meaning ms))
      (finds_lowest (λ i. misfit (net_scale ms) (get_or ms i blank_meaning)) Misfit misfit_decides n)

  fit : first_bad (misfit (net_scale ms)) 1 ms ≡ None → bad_paths n paths ≡ None → AllFit ms paths q slots
  fit geared fine = (misfit_found.none geared, (path_found n paths).none fine)

  roomy : short ≡ None → n ≤ slots
  roomy e = ltb-false _ _ (zero_none _ e)

  by : (f : Fault) (k : ℕ) (u : Option ℕ) (g : Fault) (r : Answer) → ((j : ℕ) → u ≡ Some j → D g j) → (u ≡ None → r ≡ Err (refused f k) → D f k) →
      unless u (λ j. Err (refused g j)) r ≡ Err (refused f k) → D f k
  by f k = cases (λ (r : Answer). r) (λ g j. Err (refused g j)) (λ g j. refl) f k D

  forth : (f : Fault) (k : ℕ) → (make ms paths o q slots).answer ≡ Err (refused f k) → D f k
  forth f k =
      by f k (first_bad (misfit (net_scale ms)) 1 ms) Scale _ (λ j e. scale (misfit_found.at j e)) (λ geared.
      by f k (bad_paths n paths) Paths _ (λ j e. path (misfit_found.none geared) ((path_found n paths).at j e)) (λ fine.
      by f k short Room _ (λ j e. let z = zero_some _ j e in subst (D Room) (sym z.1) (room (fit geared fine) (ltb-true _ _ z.0))) (λ enough.
      by f k out Parts _
      (λ j e. let z = zero_some _ j e in subst (D Parts) (sym z.1) (parts (fit geared fine) (roomy enough) ((parts_out q).0 z.0)))
      (λ _ e. absurd (ok_not_err _ f k e)))))

  back : (f : Fault) (k : ℕ) → D f k → (make ms paths o q slots).answer ≡ Err (refused f k)
  back f k (scale l) = let a = misfit_found.found_at k l in simp a
  back f k (path g l) =
      let a = misfit_found.found_none g in
      let b = (path_found n paths).found_at k l in
      simp (a, b)
  back f k (room g l) =
      let a = misfit_found.found_none g.0 in
      let b = (path_found n paths).found_none g.1 in
      let c : short ≡ Some 0 = ap at_zero (lt-ltb slots n l) in
      simp (a, b, c)
  back f k (parts g l w) =
      let a = misfit_found.found_none g.0 in
      let b = (path_found n paths).found_none g.1 in
      let c : short ≡ None = ap at_zero (le-ltb slots n l) in
      let d : out ≡ Some 0 = ap at_zero ((parts_out q).1 w) in
      simp (a, b, c, d)

  made : (es : List Event) → (make ms paths o q slots).answer ≡ Ok es → MakingFits ms paths q slots × (es ≡ created 1 ms)
  made es h =
      let a = ok_after _ Scale _ es h in
      let b = ok_after _ Paths _ es a.1 in
      let c = ok_after _ Room _ es b.1 in
      let d = ok_after _ Parts _ es c.1 in
      let nowhere : (q ≡ 0) ⊎ (1000 < q) → ⊥ = λ w. true_not_false (sym ((parts_out q).1 w) ∙ zero_none _ d.0) in (
        record {
          all_fit = fit a.0 b.0;
          slots_fit = roomy c.0;
          some_parts = some nowhere;
          few_parts = few nowhere;
        },
        sym (ok_same _ _ d.1),
      )
    where
      some : ((q ≡ 0) ⊎ (1000 < q) → ⊥) → 1 ≤ q
      some nowhere = let x : q ≡ 0 → ⊥ = λ e. nowhere (inl e) in omega arith

      few : ((q ≡ 0) ⊎ (1000 < q) → ⊥) → q ≤ 1000
      few nowhere = let x : 1000 < q → ⊥ = λ e. nowhere (inr e) in omega arith

  makes : (es : List Event) → MakingFits ms paths q slots × (es ≡ created 1 ms) → (make ms paths o q slots).answer ≡ Ok es
  makes es (g, e) =
      let a = misfit_found.found_none g.all_fit.0 in
      let b = (path_found n paths).found_none g.all_fit.1 in
      let c : short ≡ None = ap at_zero (le-ltb slots n g.slots_fit) in
      let d : out ≡ None = ap at_zero (is_false _ (λ t. within ((parts_out q).0 t))) in
      simp (a, b, c, d, e)
    where
      within : (q ≡ 0) ⊎ (1000 < q) → ⊥
      within (inl z) = let x = g.some_parts in omega arith
      within (inr l) = let x = g.few_parts in omega arith

pub makings_decline : MakingsDecline
makings_decline ms paths o q slots = record {
  declines = λ f k. (forth ms paths o q slots f k, back ms paths o q slots f k);
  makes = λ es. (made ms paths o q slots es, makes ms paths o q slots es);
}
