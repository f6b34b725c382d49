-- What is asked of a station, by its place.
use Rattle.std.proofs.Common.{◌≡◌, ℕ, zero, suc, ◌<◌, Bool, true, false, ◌&&◌, ltb, length, Some, None, sym, refl, ap, ◌∙◌, arith}
use Rattle.std.specs.Bool.{then_some}
use Rattle.std.proofs.lemmas.Bool.{ltb-true, lt-ltb}
use Rattle.semantics.specs.Machine.{Stance, StationMeaning, Meaning, meaning_at}
use Rattle.semantics.specs.Questions.{ask_station, ask_stance, ask_hearing, parts_fit}
use Rattle.semantics.proofs.Options.{some_not_none, inner}
use Rattle.places.specs.Tables.{place_asked}

-- what a test lets through
pub when_some : {X : Type 0} (t : Bool) (x y : X) → Some y ≡ then_some t x → (t ≡ true) × (y ≡ x)
when_some true x y e = (refl, inner e)
when_some false x y e = absurd (some_not_none y e)

pub when_none : {X : Type 0} (t : Bool) (x : X) → None ≡ then_some t x → t ≡ false
when_none true x e = absurd (some_not_none x (sym e))
when_none false x e = refl

module _ (ms : Meaning) (n k : ℕ) (all : n ≡ length ms) where
  -- no station has that number
  module _ (none : None ≡ place_asked n k) where
    not_there : (k : ℕ) → None ≡ place_asked n k → (i : ℕ) → k ≡ suc i → ltb i (length ms) ≡ false
    not_there zero e i z = absurd (omega arith)
    not_there (suc j) e i z =
        let same : j ≡ i = omega arith in
        ap (λ x. ltb x (length ms)) (sym same) ∙ ap (ltb j) (sym all) ∙ go (ltb j n) e
      where
        go : (t : Bool) → None ≡ then_some t j → t ≡ false
        go true e = absurd (some_not_none j (sym e))
        go false e = refl

    pub unknown_station : {X : Type 0} (what : StationMeaning → X) → None ≡ ask_station ms k what
    unknown_station what = go k refl
      where
        go : (j : ℕ) → k ≡ j → None ≡ ask_station ms j what
        go zero z = refl
        go (suc i) z = sym (ap (λ t. then_some t (what (meaning_at ms i))) (not_there k none i z))

    pub unknown_stance : {X : Type 0} (s : ℕ) (what : Stance → X) → None ≡ ask_stance ms k s what
    unknown_stance s what = go k refl
      where
        go : (j : ℕ) → k ≡ j → None ≡ ask_stance ms j s what
        go zero z = refl
        go (suc i) z = sym (ap (λ t. then_some (t && (meaning_at ms i).known s) (what ((meaning_at ms i).stance s))) (not_there k none i z))

    pub unknown_hearing : (s p v e q : ℕ) → None ≡ ask_hearing ms k s p v e q
    unknown_hearing s p v e q = go k refl
      where
        go : (j : ℕ) → k ≡ j → None ≡ ask_hearing ms j s p v e q
        go zero z = refl
        go (suc i) z =
            sym (ap (λ t. then_some ((t && (meaning_at ms i).known s) && parts_fit (meaning_at ms i) q) (((meaning_at ms i).stance s).hears p v e q)) (not_there k none i z))

  -- the station of that number stands at place i
  module _ (i : ℕ) (some : Some i ≡ place_asked n k) where
    found : (k ≡ suc i) × (i < length ms)
    found = go k refl some
      where
        go : (j : ℕ) → k ≡ j → Some i ≡ place_asked n j → (k ≡ suc i) × (i < length ms)
        go zero z e = absurd (some_not_none i e)
        go (suc j) z e = turn (ltb j n) refl e
          where
            turn : (t : Bool) → ltb j n ≡ t → Some i ≡ then_some t j → (k ≡ suc i) × (i < length ms)
            turn false h e = absurd (some_not_none i e)
            turn true h e = let same : i ≡ j = inner e in let l = ltb-true j n h in (omega arith, omega arith)

    pub there : i < length ms
    there = found.1

    test : ltb i (length ms) ≡ true
    test = lt-ltb i (length ms) there

    pub known_station : {X : Type 0} (what : StationMeaning → X) → Some (what (meaning_at ms i)) ≡ ask_station ms k what
    known_station what = sym (ap (λ j. ask_station ms j what) found.0 ∙ ap (λ t. then_some t (what (meaning_at ms i))) test)

    pub known_stance : {X : Type 0} (s : ℕ) (what : Stance → X) → then_some ((meaning_at ms i).known s) (what ((meaning_at ms i).stance s)) ≡ ask_stance ms k s what
    known_stance s what =
        sym (ap (λ j. ask_stance ms j s what) found.0 ∙ ap (λ t. then_some (t && (meaning_at ms i).known s) (what ((meaning_at ms i).stance s))) test)

    pub known_hearing : (s p v e q : ℕ) → then_some ((meaning_at ms i).known s && parts_fit (meaning_at ms i) q) (((meaning_at ms i).stance s).hears p v e q) ≡ ask_hearing ms k s p v e q
    known_hearing s p v e q =
        sym (ap (λ j. ask_hearing ms j s p v e q) found.0
        ∙ ap (λ t. then_some ((t && (meaning_at ms i).known s) && parts_fit (meaning_at ms i) q) (((meaning_at ms i).stance s).hears p v e q)) test)
