-- Which stances a station has, by the table of places and the words of a phase.
use Rattle.std.proofs.Common.{◌≡◌, ℕ, ◌<◌, ◌≤◌, Bool, true, false, cond, ◌&&◌, ◌||◌, eqb, ltb, List, [], length, get_or, Some, None, Option, sym, refl, ap, ◌∙◌, ap₂, arith}
use Rattle.std.specs.Bool.{then_some}
use Rattle.std.proofs.lemmas.List.{length-map}
use Rattle.std.proofs.lemmas.Bool.{ltb-true, ltb-false, lt-ltb, le-ltb, eq-eqb, ne_eqb, or_left, or_right, or_from, and_parts, both_ways}
use Rattle.book.specs.Chains.{chain_of}
use Rattle.fields.specs.Fields.{phase_at, is_endless}
use Rattle.semantics.specs.Trees.{Word, Phase, words_of, blank_phase}
use Rattle.semantics.specs.Books.{read_word}
use Rattle.semantics.specs.Meanings.{model_known}
use Rattle.tree_records.specs.TreeRecords.{stations_in}
use Rattle.places.specs.Standing.{phases_of, PhaseOf}
use Rattle.model.specs.Records.{station_tree, words_at}
use Rattle.model.proofs.Trees.{words_read, phase_count, phase_read}
use Rattle.places.proofs.Asking.{when_some, when_none}
use Rattle.model.proofs.Words.{told_at}

module _ (b : List ℕ) (i : ℕ) where
  abbrev ps : List ℕ
  ps = phases_of b i

  abbrev phases : List Phase
  phases = (station_tree b i).phases

  -- the stance with m words sent of the phase at place j
  known_there : (j m : ℕ) → j < length ps → model_known phases j m ≡ (eqb m 0 || ltb m (length (words_at b (get_or ps j 0))))
  known_there j m h =
      let n = phase_count b i in
      let count : length (words_of (get_or phases j blank_phase)) ≡ length (words_at b (get_or ps j 0)) =
      ap (λ f. length (words_of f)) (phase_read b i j blank_phase h) ∙ ap length (words_read b ps (get_or ps j 0)) ∙ length-map (words_at b (get_or ps j 0)) (read_word b) in
      ap₂ (λ x y. x && (eqb m 0 || ltb m y)) (lt-ltb j (length phases) (omega arith)) count

  unknown_past : (j m : ℕ) → length ps ≤ j → model_known phases j m ≡ false
  unknown_past j m h =
      let n = phase_count b i in
      ap (λ x. x && (eqb m 0 || ltb m (length (words_of (get_or phases j blank_phase))))) (le-ltb j (length phases) (omega arith))

  module _ (j m : ℕ) where
    abbrev answer : Option ℕ
    answer = then_some (model_known phases j m) (get_or ps j 0)

    abbrev asked : Option ℕ
    asked = then_some (ltb j (length ps)) (get_or ps j 0)

    pub unknown_phase : None ≡ asked → None ≡ answer
    unknown_phase none = sym (ap (λ x. then_some x (get_or ps j 0)) (unknown_past j m (ltb-false j (length ps) (when_none _ _ none))))

    module _ (k : ℕ) (some : Some k ≡ asked) where
      here : j < length ps
      here = ltb-true j (length ps) (when_some _ _ _ some).0

      is : k ≡ get_or ps j 0
      is = (when_some _ _ _ some).1

      known_by : (eqb m 0 || ltb m (length (words_at b k))) ≡ true → Some k ≡ answer
      known_by e =
          ap Some is
          ∙ sym (ap (λ x. then_some x (get_or ps j 0)) (known_there j m here ∙ ap (λ x. eqb m 0 || ltb m (length (words_at b x))) (sym is) ∙ e))

      pub known_quiet : m ≡ 0 → Some k ≡ answer
      known_quiet z = known_by (or_left _ _ (eq-eqb m 0 z))

      pub known_busy : (w : Word) → Some w ≡ told_at b k m → Some k ≡ answer
      known_busy w e = known_by (or_right (eqb m 0) _ (when_some _ _ _ e).0)

      pub unknown_words : (m ≡ 0 → ⊥) → None ≡ told_at b k m → None ≡ answer
      unknown_words z e =
          sym (ap (λ x. then_some x (get_or ps j 0))
          (known_there j m here ∙ ap (λ x. eqb m 0 || ltb m (length (words_at b x))) (sym is) ∙ or_from _ _ (ne_eqb m 0 z) (when_none _ _ e)))

-- a known stance's phase
pub record KnownPhase (b : List ℕ) (i j m k : ℕ) : Type 0 where
  pub known : model_known (station_tree b i).phases j m ≡ true
  pub there : j < length (phases_of b i)
  pub is : k ≡ get_or (phases_of b i) j 0
  pub lasts : (m ≡ 0 → ⊥) → is_endless (phase_at b k).lifetime ≡ false

pub known_phase : (b : List ℕ) (i j m k : ℕ) → Some k ≡ then_some (model_known (station_tree b i).phases j m) (get_or (phases_of b i) j 0) → KnownPhase b i j m k
known_phase b i j m k e =
    let yes = (when_some _ _ _ e).0 in
    let same = (when_some _ _ _ e).1 in
    let n = phase_count b i in
    let low : j < length (phases_of b i) = let l = ltb-true j _ (and_parts _ _ yes).0 in omega arith in
    record {
      known = yes;
      there = low;
      is = same;
      lasts = λ z. go (is_endless (phase_at b k).lifetime) refl z
          (ap (λ x. eqb m 0 || ltb m (length (words_at b x))) same ∙ sym (known_there b i j m low) ∙ yes);
    }
  where
    go : (r : Bool) → is_endless (phase_at b k).lifetime ≡ r → (m ≡ 0 → ⊥) → (eqb m 0 || ltb m (length (words_at b k))) ≡ true → r ≡ false
    go false h z e = refl
    go true h z e =
        let none : length (words_at b k) ≡ 0 = ap (λ x. length (cond x [] (chain_of b (phase_at b k).first_word))) h in
        let no : (eqb m 0 || ltb m (length (words_at b k))) ≡ false = or_from _ _ (ne_eqb m 0 z) (le-ltb m _ (omega arith)) in
        absurd (both_ways _ no e)

pub as_phase_of : (b : List ℕ) (i j m k : ℕ) → i < length (stations_in b) → KnownPhase b i j m k → PhaseOf b i k
as_phase_of b i j m k h p = record { station_there = h; place = j; phase_there = p.there; is = p.is }
