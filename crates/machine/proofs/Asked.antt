-- What the answers of a machine tell of its meaning, and so of the machine geared over it.
use Rattle.std.proofs.Common.{◌≡◌, ℕ, zero, suc, ◌-◌, ◌*◌, ◌/◌, ◌^◌, ◌<◌, ◌≤◌, Bool, true, false, ◌&&◌, ltb, leb, List, length, IfSome, Some, None, Option, sym, refl, ap, ◌∙◌, subst, ap₂, mul-le-mul_right, mul_assoc, div-le_self, arith}
use Rattle.std.specs.Bool.{then_some}
use Rattle.std.specs.Option.{option_map}
use Rattle.std.proofs.ByRecursion.{All-get_or}
use Rattle.std.proofs.lemmas.Bool.{ltb-true, lt-ltb, lt-leb, and_right, and_parts}
use Rattle.semantics.specs.Machine.{Stance, StationMeaning, Meaning, SoundStation, Sound, meaning_at, blank_meaning, gear}
use Rattle.semantics.specs.Questions.{ask_station, ask_stance, ask_hearing, has_stance, parts_fit}
use Rattle.semantics.proofs.Options.{some_not_none, inner}
use Rattle.gearing.specs.Gearing.{in_use, wanted, geared_by}
use Rattle.gearing.specs.Laws.{used_at}
use Rattle.gearing.proofs.Gearing.{in_use_fits, geared_station, geared_stance, geared_hearing}
use Rattle.machine.specs.declared.stance.StanceInfo.{StanceInfo}
use Rattle.machine.specs.Stances.{told, finer}

-- A station whose scale is told is there, and that is its scale.
pub record KnownStation (ms : Meaning) (k u : ℕ) : Type 0 where
  pub some : 1 ≤ k
  pub there : k - 1 < length ms
  pub scale_is : u ≡ (meaning_at ms (k - 1)).scale
  pub sound_station : SoundStation (meaning_at ms (k - 1))

pub known_station : (ms : Meaning) → Sound ms → (k u : ℕ) → Some u ≡ ask_station ms k (λ m. m.scale) → KnownStation ms k u
known_station ms sound zero u e = absurd (some_not_none u e)
known_station ms sound (suc i) u e = go (ltb i (length ms)) refl e
  where
    go : (b : Bool) → ltb i (length ms) ≡ b → Some u ≡ then_some b (meaning_at ms i).scale → KnownStation ms (suc i) u
    go false h e = absurd (some_not_none u e)
    go true h e =
        let l : i < length ms = ltb-true _ _ h in
        let z : i ≡ suc i - 1 = omega arith in
        record {
          some = omega arith;
          there = omega arith;
          scale_is = inner e ∙ ap (λ j. (meaning_at ms j).scale) z;
          sound_station = subst (λ j. SoundStation (meaning_at ms j)) z (All-get_or SoundStation ms i blank_meaning l sound.stations);
        }

-- what is asked of a station that is there is answered
pub asked_there : {X : Type 0} (ms : Meaning) (k : ℕ) (what : StationMeaning → X) → 1 ≤ k → k - 1 < length ms →
    ask_station ms k what ≡ Some (what (meaning_at ms (k - 1)))
asked_there ms zero what some there = absurd (omega arith)
asked_there ms (suc i) what some there =
    let z : i ≡ suc i - 1 = omega arith in
    ap (λ b. then_some b (what (meaning_at ms i))) (lt-ltb i (length ms) (omega arith)) ∙ ap (λ j. Some (what (meaning_at ms j))) z

-- a station whose scale is unknown has no stance
pub no_stance : {X : Type 0} (ms : Meaning) (k s : ℕ) (what : StationMeaning → X) → None ≡ ask_station ms k what → has_stance ms k s ≡ false
no_stance ms zero s what e = refl
no_stance ms (suc i) s what e = go (ltb i (length ms)) e
  where
    go : (b : Bool) → None ≡ then_some b (what (meaning_at ms i)) → (b && (meaning_at ms i).known s) ≡ false
    go true e = absurd (some_not_none _ (sym e))
    go false e = refl

-- at whatever scale, parts per tick go no further than 1,000,000,000
pub too_fine : (ms : Meaning) (k s p v e q : ℕ) → 1000000000 < q → None ≡ ask_hearing ms k s p v e q
too_fine ms zero s p v e q h = refl
too_fine ms (suc i) s p v e q h =
    let m = meaning_at ms i in
    let l : 1000000000 / m.scale ≤ 1000000000 = div-le_self 1000000000 m.scale in
    let unfit : parts_fit m q ≡ false = and_right (leb 1 q) _ (lt-leb q (1000000000 / m.scale) (omega arith)) in
    ap (λ b. then_some b ((m.stance s).hears p v e q)) (sym (and_right (has_stance ms (suc i) s) _ unfit))

no_answer : {X : Type 0} (ms : Meaning) (k s : ℕ) (what : Stance → X) → has_stance ms k s ≡ false → None ≡ ask_stance ms k s what
no_answer ms zero s what e = refl
no_answer ms (suc i) s what e = ap (λ b. then_some b (what ((meaning_at ms i).stance s))) (sym e)

no_hearing : (ms : Meaning) (k s p v e q : ℕ) → has_stance ms k s ≡ false → None ≡ ask_hearing ms k s p v e q
no_hearing ms zero s p v e q h = refl
no_hearing ms (suc i) s p v e q h =
    ap (λ b. then_some (b && parts_fit (meaning_at ms i) q) (((meaning_at ms i).stance s).hears p v e q)) (sym h)

-- an answer that is worked out from another one
ask_mapped : {X Y : Type 0} (ms : Meaning) (k s : ℕ) (what : Stance → X) (f : X → Y) →
    option_map f (ask_stance ms k s what) ≡ ask_stance ms k s (λ x. f (what x))
ask_mapped ms zero s what f = refl
ask_mapped ms (suc i) s what f = go (has_stance ms (suc i) s)
  where
    go : (b : Bool) → option_map f (then_some b (what ((meaning_at ms i).stance s))) ≡ then_some b (f (what ((meaning_at ms i).stance s)))
    go true = refl
    go false = refl

-- A stance that is told is known, and that is what is meant by it.
pub record KnownStance (ms : Meaning) (k s : ℕ) (x : StanceInfo) : Type 0 where
  pub has : has_stance ms k s ≡ true
  pub known : (meaning_at ms (k - 1)).known s ≡ true
  pub is : x ≡ told ((meaning_at ms (k - 1)).stance s)

pub known_stance : (ms : Meaning) (k s : ℕ) (x : StanceInfo) → Some x ≡ ask_stance ms k s told → KnownStance ms k s x
known_stance ms zero s x e = absurd (some_not_none x e)
known_stance ms (suc i) s x e = go (has_stance ms (suc i) s) refl e
  where
    go : (b : Bool) → has_stance ms (suc i) s ≡ b → Some x ≡ then_some b (told ((meaning_at ms i).stance s)) → KnownStance ms (suc i) s x
    go false h e = absurd (some_not_none x e)
    go true h e =
        let z : i ≡ suc i - 1 = omega arith in
        record {
          has = h;
          known = subst (λ j. (meaning_at ms j).known s ≡ true) z (and_parts (ltb i (length ms)) _ h).1;
          is = inner e ∙ ap (λ j. told ((meaning_at ms j).stance s)) z;
        }

-- What is unknown below is unknown of the geared machine.
module _ (ms : Meaning) (fs : List ℕ) (k : ℕ) where
  pub unknown_station : {X Y : Type 0} (what : StationMeaning → X) (other : StationMeaning → Y) → None ≡ ask_station ms k what → None ≡ ask_station (geared_by ms fs) k other
  unknown_station what other e = go k e ∙ sym (geared_station ms fs k other)
    where
      go : (k : ℕ) → None ≡ ask_station ms k what → None ≡ ask_station ms k (λ m. other (gear (used_at ms fs k) m))
      go zero e = refl
      go (suc i) e = turn (ltb i (length ms)) e
        where
          turn : (b : Bool) → None ≡ then_some b (what (meaning_at ms i)) → None ≡ then_some b (other (gear (used_at ms fs (suc i)) (meaning_at ms i)))
          turn true e = absurd (some_not_none _ (sym e))
          turn false e = refl

  pub unknown_stance : {X Y : Type 0} (s : ℕ) (what : StationMeaning → X) (other : Stance → Y) → None ≡ ask_station ms k what → None ≡ ask_stance (geared_by ms fs) k s other
  unknown_stance s what other e =
      no_answer ms k s _ (no_stance ms k s what e) ∙ sym (geared_stance ms fs k s other)

  pub unknown_hearing : {X : Type 0} → Sound ms → (s p v t q : ℕ) (what : StationMeaning → X) → None ≡ ask_station ms k what → None ≡ ask_hearing (geared_by ms fs) k s p v t q
  unknown_hearing sound s p v t q what e =
      no_hearing ms k s p v t (q * used_at ms fs k) (no_stance ms k s what e) ∙ sym (geared_hearing ms fs sound k s p v t q)

  pub untold_stance : (s : ℕ) → None ≡ ask_stance ms k s told → None ≡ ask_stance (geared_by ms fs) k s told
  untold_stance s e =
      ap (option_map (finer (used_at ms fs k))) e ∙ ask_mapped ms k s told (finer (used_at ms fs k)) ∙ sym (geared_stance ms fs k s told)

-- A geared machine, over one whose station k has the scale u and is geared by f.
module _ (ms : Meaning) (sound : Sound ms) (fs : List ℕ) (k u f : ℕ) (e : Some u ≡ ask_station ms k (λ m. m.scale)) (is : f ≡ in_use u (wanted fs (k - 1))) where
  station : KnownStation ms k u
  station = known_station ms sound k u e

  factor_is : f ≡ used_at ms fs k
  factor_is = is ∙ ap (λ x. in_use x (wanted fs (k - 1))) station.scale_is

  pub product_fits : u * f ≤ 1000000
  product_fits =
      let a : u ≤ 1000000 = let h = station.sound_station.scale_fits in let z = station.scale_is in omega arith in
      subst (λ x. u * x ≤ 1000000) (sym is) (in_use_fits u (wanted fs (k - 1)) a)

  pub gear_scale : Some (u * f) ≡ ask_station (geared_by ms fs) k (λ m. m.scale)
  gear_scale =
      ap Some (ap₂ ◌*◌ station.scale_is factor_is)
      ∙ sym (asked_there ms k (λ m. m.scale * used_at ms fs k) station.some station.there)
      ∙ sym (geared_station ms fs k (λ m. m.scale))

  pub gear_stance_told : (s : ℕ) (x : StanceInfo) → Some x ≡ ask_stance ms k s told → Some (finer f x) ≡ ask_stance (geared_by ms fs) k s told
  gear_stance_told s x a =
      ap (λ j. Some (finer j x)) factor_is ∙ ap (option_map (finer (used_at ms fs k))) a
      ∙ ask_mapped ms k s told (finer (used_at ms fs k)) ∙ sym (geared_stance ms fs k s told)

  pub gear_hearing : (s p v t q : ℕ) → ask_hearing ms k s p v t (q * f) ≡ ask_hearing (geared_by ms fs) k s p v t q
  gear_hearing s p v t q =
      ap (λ j. ask_hearing ms k s p v t (q * j)) factor_is ∙ sym (geared_hearing ms fs sound k s p v t q)

  pub lifetime_fits : (s : ℕ) (x : StanceInfo) → Some x ≡ ask_stance ms k s told → IfSome x.lifetime (λ l. l * f < 2 ^ 64)
  lifetime_fits s x a = go x.lifetime refl
    where
      go : (life : Option ℕ) → x.lifetime ≡ life → IfSome life (λ l. l * f < 2 ^ 64)
      go None h = tt
      go (Some l) h =
          let n = known_stance ms k s x a in
          let m = meaning_at ms (k - 1) in
          let b : l ≤ 1000000 * m.scale = (station.sound_station.stances s n.known).lifetime_fits l (sym (ap (λ y. y.lifetime) n.is) ∙ h) in
          let d : l * f ≤ 1000000 * m.scale * f = mul-le-mul_right f b in
          let g : 1000000 * m.scale * f ≡ 1000000 * (u * f) = ap (λ y. 1000000 * y * f) (sym station.scale_is) ∙ mul_assoc 1000000 u f in
          let w : u * f ≤ 1000000 = product_fits in
          omega arith
