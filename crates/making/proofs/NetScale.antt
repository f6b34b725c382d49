-- Gearing to the net scale: it succeeds for every station, or fails for the first one.
use Rattle.std.proofs.Common.{◌≡◌, ℕ, zero, suc, ◌+◌, ◌*◌, ◌<◌, ◌≤◌, Bool, true, false, cond, eqb, leb, List, [], ◌∷◌, map, length, get_or, IfOk, Some, None, Ok, Err, Result, sym, refl, ap, ◌∙◌, subst, ap₂, arith, MatchResult}
use lib.ListN.{length-map}
use Rattle.std.proofs.ByRecursion.{All-get_or}
use Rattle.std.proofs.lemmas.List.{get_or-map}
use Rattle.std.proofs.lemmas.Bool.{leb-true, leb-false, lt-ltb, or_right}
use Rattle.std.proofs.lemmas.Bool.Decides.{nat_tests}
use Rattle.book.specs.Refusals.{refused}
use Rattle.book.specs.declared.refusal.Refusal.{Refusal}
use Rattle.book.specs.declared.refusal.Fault.TheVariants.{Scale}
use Rattle.semantics.specs.Machine.{Meaning, Sound, meaning_at, blank_meaning, net_scale, factor, gear, geared}
use Rattle.semantics.specs.Calls.{first_bad, misfit, number}
use Rattle.semantics.proofs.Lcm.{least_common}
use Rattle.semantics.proofs.Lowest.{none_found}
use Rattle.semantics.proofs.Options.{some_not_none, inner}
use Rattle.semantics.proofs.Sound.{gearing_sound}
use Rattle.scales.specs.Limited.{limited}
use Rattle.machine.specs.declared.gear.Gear.{Gear}
use Rattle.gearing.specs.Gearing.{misfits, wanted, geared_by, as_wanted_from, as_wanted, misfit_at, lowest_misfit}

-- Where none of a list is bad, no bad one is found.
none_bad : {X : Type 0} (bad : X → Bool) (d : X) (k : ℕ) (xs : List X) → ((i : ℕ) → i < length xs → bad (get_or xs i d) ≡ false) → first_bad bad k xs ≡ None
none_bad bad d k [] h = refl
none_bad bad d k (x ∷ xs) h =
    ap₂ (λ b rest. cond b (Some k) rest) (h 0 (omega arith)) (none_bad bad d (suc k) xs (λ i l. h (suc i) (omega arith)))

fits : (scale f : ℕ) → 1 ≤ scale * f → scale * f ≤ 1000000 → misfits scale f ≡ false
fits scale zero some few = absurd (omega arith)
fits scale (suc f) some few = let n = scale * suc f in let h : n ≤ 1000000 = few in grind (arith, nat_tests)

module _ (ms : Meaning) (sound : Sound ms) where
  -- scale × factor is the net scale, at every station
  exact : (i : ℕ) → i < length ms → (meaning_at ms i).scale * factor (net_scale ms) (meaning_at ms i) ≡ net_scale ms
  exact i l =
      let there : i < length (geared ms) = rw length-map l in
      ap (λ m. m.scale) (sym (get_or-map (λ m. gear (factor (net_scale ms) m) m) ms i blank_meaning blank_meaning l))
      ∙ All-get_or (λ m. m.scale ≡ net_scale ms) (geared ms) i blank_meaning there (gearing_sound.to_net_scale ms sound)

  pub first_misfit : 1000000 < net_scale ms → first_bad (misfit (net_scale ms)) 1 ms ≡ Some 1
  first_misfit h = go ms refl
    where
      go : (xs : Meaning) → xs ≡ ms → first_bad (misfit (net_scale ms)) 1 xs ≡ Some 1
      go [] e = let n = ap length e in absurd (omega (arith, sound.some_station))
      go (m ∷ xs) e =
          let same : meaning_at ms 0 ≡ m = ap (λ y. meaning_at y 0) (sym e) in
          let is : m.scale * factor (net_scale ms) m ≡ net_scale ms =
          subst (λ m. m.scale * factor (net_scale ms) m ≡ net_scale ms) same (exact 0 (omega (arith, sound.some_station)))
          in
          ap (λ b. cond b (Some 1) (first_bad (misfit (net_scale ms)) 2 xs))
          (or_right (eqb (factor (net_scale ms) m) 0) _ (lt-ltb 1000000 (m.scale * factor (net_scale ms) m) (omega arith)))

  module _ (few : net_scale ms ≤ 1000000) where
    station_fits : (i : ℕ) → i < length ms → misfit (net_scale ms) (meaning_at ms i) ≡ false
    station_fits i l =
        let e = exact i l in
        let some = (least_common (map (λ m. m.scale) ms)).some in
        fits (meaning_at ms i).scale (factor (net_scale ms) (meaning_at ms i)) (omega arith) (omega arith)

    pub no_misfit : first_bad (misfit (net_scale ms)) 1 ms ≡ None
    no_misfit = none_bad (misfit (net_scale ms)) blank_meaning 1 ms station_fits

    -- with the factors that gear every station to the net scale
    module _ (fs : List ℕ) (are : (i : ℕ) → i < length ms → wanted fs i ≡ factor (net_scale ms) (meaning_at ms i)) where
      pub all_fit : lowest_misfit ms fs ≡ None
      all_fit =
          ap number
          (none_found (misfit_at ms fs) 0 (length ms)
          (λ j a b. ap (misfits (meaning_at ms j).scale) (are j (omega arith)) ∙ station_fits j (omega arith)))

-- geared as wanted is then geared to the net scale
wanted_is : (L i : ℕ) (ms : Meaning) (fs : List ℕ) → ((j : ℕ) → j < length ms → wanted fs (i + j) ≡ factor L (meaning_at ms j)) →
    as_wanted_from i ms fs ≡ map (λ m. gear (factor L m) m) ms
wanted_is L i [] fs h = refl
wanted_is L i (m ∷ ms) fs h =
    let z : i ≡ i + 0 = omega arith in
    ap₂ (λ f rest. gear f m ∷ rest) (ap (wanted fs) z ∙ h 0 (omega arith))
    (wanted_is L (suc i) ms fs (λ j l. let y : suc i + j ≡ i + suc j = omega arith in ap (wanted fs) y ∙ h (suc j) (omega arith)))

pub geared_as_wanted : (ms : Meaning) (fs : List ℕ) → ((i : ℕ) → i < length ms → wanted fs i ≡ factor (net_scale ms) (meaning_at ms i)) → as_wanted ms fs ≡ geared ms
geared_as_wanted ms fs are = wanted_is (net_scale ms) 0 ms fs (λ j l. let z : 0 + j ≡ j = omega arith in ap (wanted fs) z ∙ are j l)

-- a scale within the limit, and one over it
limit_kept : (n scale : ℕ) → Some scale ≡ limited n → (scale ≡ n) × (n ≤ 1000000)
limit_kept n scale e = go (leb n 1000000) refl e
  where
    go : (b : Bool) → leb n 1000000 ≡ b → Some scale ≡ cond b (Some n) None → (scale ≡ n) × (n ≤ 1000000)
    go true h e = (inner e, leb-true n 1000000 h)
    go false h e = absurd (some_not_none scale e)

pub limit_passed : (n : ℕ) → None ≡ limited n → 1000000 < n
limit_passed n e = go (leb n 1000000) refl e
  where
    go : (b : Bool) → leb n 1000000 ≡ b → None ≡ cond b (Some n) None → 1000000 < n
    go true h e = absurd (some_not_none n (sym e))
    go false h e = leb-false n 1000000 h

-- What gearing by those factors answers.
module _ {M : Type 0} (meaning : M → Meaning) (machine : M) (sound : Sound (meaning machine)) (scale : ℕ) (is : Some scale ≡ limited (net_scale (meaning machine))) (fs : List ℕ)
    (are : (i : ℕ) → i < length (meaning machine) → wanted fs i ≡ factor scale (meaning_at (meaning machine) i)) where
  abbrev ms : Meaning
  ms = meaning machine

  to_net_scale : (i : ℕ) → i < length ms → wanted fs i ≡ factor (net_scale ms) (meaning_at ms i)
  to_net_scale i l = are i l ∙ ap (λ s. factor s (meaning_at ms i)) (limit_kept (net_scale ms) scale is).0

  pub gear_made : (r : Result (Gear M) Refusal) →
      MatchResult r (λ g. (lowest_misfit ms fs ≡ None) × (g.below ≡ machine) × (g.factors ≡ fs)) (λ e. (lowest_misfit ms fs ≡ Some e.place) × (e ≡ refused Scale e.place)) →
      IfOk r (λ g. geared_by (meaning g.below) g.factors ≡ as_wanted ms fs) →
      MatchResult r (λ g. (first_bad (misfit (net_scale ms)) 1 ms ≡ None) × (g.below ≡ machine) × (geared_by (meaning g.below) g.factors ≡ geared ms))
      (λ e. (first_bad (misfit (net_scale ms)) 1 ms ≡ Some e.place) × (e ≡ refused Scale e.place))
  gear_made (Ok g) value asked =
      (no_misfit ms sound (limit_kept (net_scale ms) scale is).1, value.1, asked ∙ geared_as_wanted ms fs to_net_scale)
  gear_made (Err e) value asked =
      absurd (some_not_none e.place (sym value.0 ∙ all_fit ms sound (limit_kept (net_scale ms) scale is).1 fs to_net_scale))

-- What is answered where the net scale is over the limit.
pub refused_made : {M : Type 0} (meaning : M → Meaning) (machine : M) → Sound (meaning machine) → 1000000 < net_scale (meaning machine) → (r : Result (Gear M) Refusal) →
    r ≡ Err (refused Scale 1) →
    MatchResult r (λ g. (first_bad (misfit (net_scale (meaning machine))) 1 (meaning machine) ≡ None) × (g.below ≡ machine) × (geared_by (meaning g.below) g.factors ≡ geared (meaning machine)))
    (λ e. (first_bad (misfit (net_scale (meaning machine))) 1 (meaning machine) ≡ Some e.place) × (e ≡ refused Scale e.place))
refused_made meaning machine sound over (Ok g) e = absurd (cc)
refused_made meaning machine sound over (Err r) e =
    let is : r ≡ refused Scale 1 = cc in
    let place = ap (λ (x : Refusal). x.place) is in
    (first_misfit (meaning machine) sound over ∙ ap Some (sym place), is ∙ ap (refused Scale) (sym place))
