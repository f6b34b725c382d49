-- What the machine answers is what its meaning has.
use Rattle.std.proofs.Common.{◌≡◌, ℕ, ◌<◌, Bool, true, false, cond, ◌&&◌, ltb, List, length, get_or, Some, None, Option, sym, refl, ap, ◌∙◌, ap₂, arith}
use Rattle.std.specs.Bool.{then_some}
use Rattle.std.proofs.lemmas.Bool.{ltb-true, ltb-false, lt-ltb, le-ltb}
use Rattle.book.specs.declared.term.BookKind.TheVariants.{Automaton}
use Rattle.records.specs.Fits.{Bytes}
use Rattle.fields.specs.Fields.{automaton_at, location_at}
use Rattle.semantics.specs.Times.{fraction}
use Rattle.semantics.specs.Trees.{blank_location}
use Rattle.semantics.specs.Books.{read_automata}
use Rattle.semantics.specs.Fits.{transition_fits, within_bound, first}
use Rattle.semantics.specs.Machine.{Stance, StationMeaning, Meaning, meaning_at}
use Rattle.semantics.specs.Meanings.{location_stance, automaton_meaning, automata_meaning}
use Rattle.semantics.specs.Questions.{ask_station, ask_stance, ask_hearing, parts_fit}
use Rattle.tree_records.specs.TreeRecords.{stations_in}
use Rattle.moments.specs.Moments.{parts_allowed}
use Rattle.accepted.specs.Accepted.{accepts}
use Rattle.places.specs.declared.table.Places.{Places}
use Rattle.places.specs.Tables.{places_of, place_asked, station_in, phase_in, place_of}
use Rattle.places.specs.Standing.{station_of, phases_of, PhaseOf}
use Rattle.places.proofs.Asking.{when_some, when_none, there, known_station, known_stance, known_hearing}
use Rattle.automaton.specs.Records.{automaton_tree, location_tree}
use Rattle.automaton.proofs.Trees.{location_count, location_read, meaning_count, meaning_read, stands, opening_placed}

module _ (b : List ℕ) (bytes : Bytes b) (accepted : accepts b Automaton ≡ true) (t : Places) (et : t ≡ places_of b) where
  abbrev ms : Meaning
  ms = automata_meaning (read_automata b)

  pub stations_told : t.stations ≡ length ms
  stations_told = ap (λ (x : Places). x.stations) et ∙ (stands b bytes accepted).stations_are ∙ sym (meaning_count b)

  -- automaton k is asked, and stands at place i
  module _ (k i : ℕ) (some : Some i ≡ place_asked t.stations k) where
    station_there : i < length (stations_in b)
    station_there = let h = there ms t.stations k stations_told i some in let n = meaning_count b in omega arith

    abbrev own : StationMeaning
    own = automaton_meaning (automaton_tree b i)

    own_is : meaning_at ms i ≡ own
    own_is = meaning_read b i station_there

    own_station : (s : ℕ) → s ≡ station_in t i → s ≡ station_of b i
    own_station s es = es ∙ ap (λ x. station_in x i) et ∙ (stands b bytes accepted).station_is i station_there

    scale_is : (s n : ℕ) → s ≡ station_in t i → n ≡ (automaton_at b s).scale → n ≡ own.scale
    scale_is s n es en = en ∙ ap (λ x. (automaton_at b x).scale) (own_station s es)

    pub scale_told : (s n : ℕ) → s ≡ station_in t i → n ≡ (automaton_at b s).scale → Some n ≡ ask_station ms k (λ m. m.scale)
    scale_told s n es en =
        ap Some (scale_is s n es en ∙ ap (λ m. m.scale) (sym own_is)) ∙ known_station ms t.stations k stations_told i some (λ m. m.scale)

    pub opening_told : (s n : ℕ) → s ≡ station_in t i → n ≡ place_of t (automaton_at b s).opening → Some n ≡ ask_station ms k (λ m. m.opening)
    opening_told s n es en =
        ap Some (en ∙ ap (λ x. place_of t (automaton_at b x).opening) (own_station s es) ∙ opening_placed b bytes accepted i station_there t et)
        ∙ ap (λ m. Some m.opening) (sym own_is) ∙ known_station ms t.stations k stations_told i some (λ m. m.opening)

    -- a stance of the automaton
    module _ (s : ℕ) where
      asked : phase_in t i s ≡ then_some (ltb s (length (phases_of b i))) (get_or (phases_of b i) s 0)
      asked = ap (λ x. phase_in x i s) et ∙ (stands b bytes accepted).phase_is i s station_there

      asked_stance : {X : Type 0} (what : Stance → X) → then_some (own.known s) (what (own.stance s)) ≡ ask_stance ms k s what
      asked_stance what = ap (λ (m : StationMeaning). then_some (m.known s) (what (m.stance s))) (sym own_is) ∙ known_stance ms t.stations k stations_told i some s what

      asked_hearing : (p v e q : ℕ) → then_some (own.known s && parts_allowed own.scale q) ((own.stance s).hears p v e q) ≡ ask_hearing ms k s p v e q
      asked_hearing p v e q =
          ap (λ (m : StationMeaning). then_some (m.known s && parts_fit m q) ((m.stance s).hears p v e q)) (sym own_is)
          ∙ known_hearing ms t.stations k stations_told i some s p v e q

      module _ (none : None ≡ phase_in t i s) where
        unknown : own.known s ≡ false
        unknown =
            let past = ltb-false s (length (phases_of b i)) (when_none _ _ (none ∙ asked)) in
            let n = location_count b i in
            le-ltb s (length (automaton_tree b i).locations) (omega arith)

        pub unknown_told : {X : Type 0} (what : Stance → X) → None ≡ ask_stance ms k s what
        unknown_told what = sym (ap (λ x. then_some x (what (own.stance s))) unknown) ∙ asked_stance what

        pub unknown_heard : (p v e q : ℕ) → None ≡ ask_hearing ms k s p v e q
        unknown_heard p v e q = sym (ap (λ x. then_some (x && parts_allowed own.scale q) ((own.stance s).hears p v e q)) unknown) ∙ asked_hearing p v e q

      module _ (f : ℕ) (is_some : Some f ≡ phase_in t i s) where
        here : s < length (phases_of b i)
        here = ltb-true s (length (phases_of b i)) (when_some _ _ _ (is_some ∙ asked)).0

        record_is : f ≡ get_or (phases_of b i) s 0
        record_is = (when_some _ _ _ (is_some ∙ asked)).1

        pub location_of : PhaseOf b i f
        location_of = record { station_there = station_there; place = s; phase_there = here; is = record_is }

        known : own.known s ≡ true
        known = let n = location_count b i in let h = here in lt-ltb s (length (automaton_tree b i).locations) (omega arith)

        stance_is : own.stance s ≡ location_stance (location_tree b i f)
        stance_is = ap location_stance (location_read b i s blank_location here ∙ ap (location_tree b i) (sym record_is))

        pub stance_told : {X : Type 0} (what : Stance → X) → Some (what (location_stance (location_tree b i f))) ≡ ask_stance ms k s what
        stance_told what = ap (λ y. Some (what y)) (sym stance_is) ∙ sym (ap (λ y. then_some y (what (own.stance s))) known) ∙ asked_stance what

        -- and what it hears
        module _ (p v e q station n : ℕ) (es : station ≡ station_in t i) (en : n ≡ (automaton_at b station).scale) (may : Bool) (parts : may ≡ parts_allowed n q) where
          hearing_answer : then_some may ((location_stance (location_tree b i f)).hears p v e q) ≡ ask_hearing ms k s p v e q
          hearing_answer =
              ap₂ (λ y (z : Stance). then_some y (z.hears p v e q)) (parts ∙ ap (λ m. parts_allowed m q) (scale_is station n es en)) (sym stance_is)
              ∙ sym (ap (λ y. then_some (y && parts_allowed own.scale q) ((own.stance s).hears p v e q)) known) ∙ asked_hearing p v e q

          pub too_fine : may ≡ false → None ≡ ask_hearing ms k s p v e q
          too_fine unfit = sym (ap (λ y. then_some y ((location_stance (location_tree b i f)).hears p v e q)) unfit) ∙ hearing_answer

          abbrev taken : Option ℕ
          taken = first (transition_fits p v (fraction e q)) (λ x. x.goal) (location_tree b i f).transitions

          bounded : (within : Bool) (r : Option ℕ) → may ≡ true → within_bound (location_at b f).bound (fraction e q) ≡ within → r ≡ cond within taken None → Some r ≡ ask_hearing ms k s p v e q
          bounded within r fit eb er =
              ap Some (er ∙ ap (λ y. cond y taken None) (sym eb)) ∙ sym (ap (λ y. then_some y ((location_stance (location_tree b i f)).hears p v e q)) fit) ∙ hearing_answer

          pub past_bound : may ≡ true → within_bound (location_at b f).bound (fraction e q) ≡ false → Some None ≡ ask_hearing ms k s p v e q
          past_bound fit eb = bounded false None fit eb refl

          pub hearing_told : (r : Option ℕ) → may ≡ true → within_bound (location_at b f).bound (fraction e q) ≡ true → r ≡ taken → Some r ≡ ask_hearing ms k s p v e q
          hearing_told r fit eb er = bounded true r fit eb er
