-- Gearing a whole machine.
use Rattle.std.proofs.Common.{◌≡◌, ℕ, zero, suc, ◌+◌, ◌-◌, ◌*◌, ◌<◌, ◌≤◌, Bool, true, false, cond, ◌&&◌, eqb, ltb, List, [], ◌∷◌, length, Some, None, Option, refl, ap, ◌∙◌, subst, ap₂, mul-one, arith}
use Rattle.std.specs.Bool.{then_some}
use Rattle.std.specs.List.{AllByRecursion}
use Rattle.std.proofs.ByRecursion.{All-get_or}
use Rattle.std.proofs.lemmas.Bool.{ltb-true, or_parts, ltb-false}
use Rattle.std.proofs.lemmas.Bool.Decides.{nat_tests}
use Rattle.semantics.specs.Machine.{Stance, StationMeaning, Meaning, SoundStation, Sound, meaning_at, blank_meaning, gear, gear_stance}
use Rattle.semantics.specs.Calls.{number}
use Rattle.semantics.specs.Questions.{ask_station, ask_stance, ask_hearing, has_stance, parts_fit}
use Rattle.semantics.proofs.Options.{some_not_none}
use Rattle.semantics.proofs.Lowest.{all_fail}
use Rattle.semantics.proofs.Sound.{gearing_sound}
use Rattle.gearing.specs.Gearing.{misfits, in_use, wanted, geared_from, geared_by, as_wanted_from, as_wanted, misfit_at, lowest_misfit}
use Rattle.gearing.specs.Laws.{used_at, GearedMachinesAnswer}

-- The factor in use is no 0, and fits.
pub some_in_use : (scale f : ℕ) → 1 ≤ in_use scale f
some_in_use scale f = grind (arith, nat_tests)

pub in_use_fits : (scale f : ℕ) → scale ≤ 1000000 → scale * in_use scale f ≤ 1000000
in_use_fits scale f h = go (misfits scale f) refl
  where
    go : (b : Bool) → misfits scale f ≡ b → scale * cond b 1 f ≤ 1000000
    go true e = rw mul-one h
    go false e = ltb-false _ _ (or_parts (eqb f 0) (ltb 1000000 (scale * f)) e).1

-- a factor that fits is in use
fits_in_use : (scale f : ℕ) → misfits scale f ≡ false → in_use scale f ≡ f
fits_in_use scale f e = ap (λ b. cond b 1 f) e

pub length_from : (i : ℕ) (ms : Meaning) (fs : List ℕ) → length (geared_from i ms fs) ≡ length ms
length_from i [] fs = refl
length_from i (m ∷ ms) fs = ap suc (length_from (suc i) ms fs)

stations_from : (i : ℕ) (ms : Meaning) (fs : List ℕ) → AllByRecursion SoundStation ms → AllByRecursion SoundStation (geared_from i ms fs)
stations_from i [] fs sound = tt
stations_from i (m ∷ ms) fs sound =
    let f = wanted fs i in (
      gearing_sound.one_station (in_use m.scale f) m (some_in_use m.scale f) (in_use_fits m.scale f sound.0.scale_fits) sound.0,
      stations_from (suc i) ms fs sound.1,
    )

pub geared_sound : (ms : Meaning) (fs : List ℕ) → Sound ms → Sound (geared_by ms fs)
geared_sound ms fs sound = record {
  some_station = rw length_from sound.some_station;
  few_stations = rw length_from sound.few_stations;
  stations = stations_from 0 ms fs sound.stations;
}

-- the station at place j, where the first one's factor stands at place i
at_from : (i j : ℕ) (ms : Meaning) (fs : List ℕ) → j < length ms →
    meaning_at (geared_from i ms fs) j ≡ gear (in_use (meaning_at ms j).scale (wanted fs (i + j))) (meaning_at ms j)
at_from i j [] fs h = absurd (omega arith)
at_from i zero (m ∷ ms) fs h = let e : i ≡ i + 0 = omega arith in ap (λ k. gear (in_use m.scale (wanted fs k)) m) e
at_from i (suc j) (m ∷ ms) fs h =
    let e : suc i + j ≡ i + suc j = omega arith in
    at_from (suc i) j ms fs (omega arith) ∙ ap (λ k. gear (in_use (meaning_at ms j).scale (wanted fs k)) (meaning_at ms j)) e

-- where every factor from place i on fits, the stations are geared as wanted
wanted_from : (i : ℕ) (ms : Meaning) (fs : List ℕ) → ((j : ℕ) → j < length ms → misfits (meaning_at ms j).scale (wanted fs (i + j)) ≡ false) →
    geared_from i ms fs ≡ as_wanted_from i ms fs
wanted_from i [] fs h = refl
wanted_from i (m ∷ ms) fs h =
    let e : i + 0 ≡ i = omega arith in
    ap₂ (λ f rest. gear f m ∷ rest)
    (fits_in_use m.scale (wanted fs i) (subst (λ k. misfits m.scale (wanted fs k) ≡ false) e (h 0 (omega arith))))
    (wanted_from (suc i) ms fs (λ j l. let e : i + suc j ≡ suc i + j = omega arith in subst (λ k. misfits (meaning_at ms j).scale (wanted fs k) ≡ false) e (h (suc j) (omega arith))))

none_below : (o : Option ℕ) → number o ≡ None → o ≡ None
none_below None e = refl
none_below (Some k) e = absurd (some_not_none (suc k) e)

pub geared_as_asked : (ms : Meaning) (fs : List ℕ) → lowest_misfit ms fs ≡ None → geared_by ms fs ≡ as_wanted ms fs
geared_as_asked ms fs e = wanted_from 0 ms fs (λ j l.
    let z : j ≡ 0 + j = omega arith in
    subst (λ k. misfits (meaning_at ms j).scale (wanted fs k) ≡ false) z
    (all_fail (misfit_at ms fs) 0 (length ms) (none_below _ e) j (omega arith) (omega arith)))

-- the station of number i + 1
pub at_by : (ms : Meaning) (fs : List ℕ) (i : ℕ) → i < length ms → meaning_at (geared_by ms fs) i ≡ gear (used_at ms fs (suc i)) (meaning_at ms i)
at_by ms fs i h =
    let z : 0 + i ≡ suc i - 1 = omega arith in
    let y : i ≡ suc i - 1 = omega arith in
    at_from 0 i ms fs h ∙ ap₂ (λ a b. gear (in_use (meaning_at ms a).scale (wanted fs b)) (meaning_at ms i)) y z

-- two answers to one test that agree wherever it passes
same_when : {A : Type 0} (b : Bool) (x y : A) → (b ≡ true → x ≡ y) → then_some b x ≡ then_some b y
same_when true x y h = ap Some (h refl)
same_when false x y h = refl

module _ (ms : Meaning) (fs : List ℕ) where
  same_count : (i : ℕ) → ltb i (length (geared_by ms fs)) ≡ ltb i (length ms)
  same_count i = ap (ltb i) (length_from 0 ms fs)

  pub geared_station : {A : Type 0} (k : ℕ) (what : StationMeaning → A) →
      ask_station (geared_by ms fs) k what ≡ ask_station ms k (λ m. what (gear (used_at ms fs k) m))
  geared_station zero what = refl
  geared_station (suc i) what =
      ap (λ b. then_some b (what (meaning_at (geared_by ms fs) i))) (same_count i)
      ∙ same_when (ltb i (length ms)) _ _ (λ e. ap what (at_by ms fs i (ltb-true _ _ e)))

  -- a geared station has the stances of the one below
  same_stances : (k s : ℕ) → has_stance (geared_by ms fs) k s ≡ has_stance ms k s
  same_stances zero s = refl
  same_stances (suc i) s = ap (λ b. b && (meaning_at (geared_by ms fs) i).known s) (same_count i) ∙ go (ltb i (length ms)) refl
    where
      go : (b : Bool) → ltb i (length ms) ≡ b → (b && (meaning_at (geared_by ms fs) i).known s) ≡ (b && (meaning_at ms i).known s)
      go true e = ap (λ m. m.known s) (at_by ms fs i (ltb-true _ _ e))
      go false e = refl

  -- a station that has a stance is there
  there : (i s : ℕ) → has_stance ms (suc i) s ≡ true → i < length ms
  there i s e = go (ltb i (length ms)) refl e
    where
      go : (b : Bool) → ltb i (length ms) ≡ b → (b && (meaning_at ms i).known s) ≡ true → i < length ms
      go true h e = ltb-true _ _ h
      go false h e = let z : ◌≡◌ {A = ℕ} 0 1 = cc in absurd (omega arith)

  pub geared_stance : {A : Type 0} (k s : ℕ) (what : Stance → A) →
      ask_stance (geared_by ms fs) k s what ≡ ask_stance ms k s (λ x. what (gear_stance (used_at ms fs k) x))
  geared_stance zero s what = refl
  geared_stance (suc i) s what =
      ap (λ b. then_some b (what ((meaning_at (geared_by ms fs) i).stance s))) (same_stances (suc i) s)
      ∙ same_when (has_stance ms (suc i) s) _ _ (λ e. ap (λ m. what (m.stance s)) (at_by ms fs i (there i s e)))

  pub geared_hearing : Sound ms → (k s p v e q : ℕ) →
      ask_hearing (geared_by ms fs) k s p v e q ≡ ask_hearing ms k s p v e (q * used_at ms fs k)
  geared_hearing sound zero s p v e q = refl
  geared_hearing sound (suc i) s p v e q =
      ap (λ b. then_some (b && parts_fit (meaning_at (geared_by ms fs) i) q) (((meaning_at (geared_by ms fs) i).stance s).hears p v e q)) (same_stances (suc i) s)
      ∙ go (has_stance ms (suc i) s) refl
    where
      go : (b : Bool) → has_stance ms (suc i) s ≡ b →
          then_some (b && parts_fit (meaning_at (geared_by ms fs) i) q) (((meaning_at (geared_by ms fs) i).stance s).hears p v e q)
          ≡ then_some (b && parts_fit (meaning_at ms i) (q * used_at ms fs (suc i))) (((meaning_at ms i).stance s).hears p v e (q * used_at ms fs (suc i)))
      go true h =
          let l : i < length ms = there i s h in
          let m = meaning_at ms i in
          let st : SoundStation m = All-get_or SoundStation ms i blank_meaning l sound.stations in
          ap (λ y. then_some (parts_fit y q) ((y.stance s).hears p v e q)) (at_by ms fs i l)
          ∙ ap (λ b. then_some b ((m.stance s).hears p v e (q * used_at ms fs (suc i))))
          (gearing_sound.parts_alike (used_at ms fs (suc i)) q m (some_in_use (meaning_at ms (suc i - 1)).scale (wanted fs (suc i - 1))) st.some_scale)
      go false h = refl

pub geared_machines_answer : GearedMachinesAnswer
geared_machines_answer = record {
  sound = geared_sound;
  as_asked = geared_as_asked;
  as_many = length_from 0;
  each_station = at_by;
  hearing = geared_hearing;
}
