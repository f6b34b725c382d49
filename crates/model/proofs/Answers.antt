-- What the machine answers is what its meaning has.
use Rattle.std.proofs.Common.{◌≡◌, ℕ, zero, suc, ◌*◌, ◌<◌, Bool, true, false, ◌&&◌, ltb, List, length, get_or, Some, None, Option, sym, refl, ap, ◌∙◌, ap₂, arith}
use Rattle.std.specs.Bool.{then_some}
use Rattle.book.specs.declared.term.BookKind.TheVariants.{Model}
use Rattle.records.specs.Fits.{Bytes}
use Rattle.fields.specs.Fields.{station_at}
use Rattle.semantics.specs.Times.{fraction}
use Rattle.semantics.specs.Trees.{blank_phase, lifetime_of, edges_of}
use Rattle.semantics.specs.Books.{read_order, read_model}
use Rattle.semantics.specs.Fits.{edge_fits, first}
use Rattle.semantics.specs.Machine.{Stance, StationMeaning, Meaning, meaning_at}
use Rattle.semantics.specs.Meanings.{phase_of, sent_of, stance_number, quiet_stance, busy_stance, model_stance, station_meaning, model_meaning}
use Rattle.semantics.specs.Questions.{ask_station, ask_stance, ask_hearing, parts_fit}
use Rattle.book_scales.specs.Scales.{fitting_scale}
use Rattle.tree_records.specs.TreeRecords.{stations_in}
use Rattle.moments.specs.Moments.{parts_allowed}
use Rattle.accepted.specs.Accepted.{accepts}
use Rattle.places.specs.declared.table.Places.{Places}
use Rattle.places.specs.Tables.{places_of, place_asked, station_in, phase_in, place_of}
use Rattle.places.specs.Standing.{station_of, phases_of}
use Rattle.places.proofs.Asking.{when_none, there, known_station, known_stance, known_hearing}
use Rattle.model.specs.Records.{station_tree, phase_tree}
use Rattle.model.proofs.Trees.{meaning_count, meaning_read, phase_count, phase_read}
use Rattle.model.proofs.Scales.{scale_read}
use Rattle.model.proofs.Lawful.{stands, few_stations, short_book, lawful_station, opening_placed}
use Rattle.model.proofs.Known.{KnownPhase, known_phase}

module _ (b : List ℕ) (bytes : Bytes b) (accepted : accepts b Model ≡ true) (t : Places) (et : t ≡ places_of b) where
  abbrev ms : Meaning
  ms = model_meaning (read_model b)

  pub stations_told : t.stations ≡ length ms
  stations_told = ap (λ (x : Places). x.stations) et ∙ (stands b bytes accepted).stations_are ∙ sym (meaning_count b)

  pub phase_asked : (i j : ℕ) → i < length (stations_in b) → phase_in t i j ≡ then_some (ltb j (length (phases_of b i))) (get_or (phases_of b i) j 0)
  phase_asked i j h = ap (λ x. phase_in x i j) et ∙ (stands b bytes accepted).phase_is i j h

  -- station k is asked, and stands at place i
  module _ (k i : ℕ) (some : Some i ≡ place_asked t.stations k) where
    pub station_there : i < length (stations_in b)
    station_there = let h = there ms t.stations k stations_told i some in let n = meaning_count b in omega arith

    pub place_low : i < 16
    place_low = let h = station_there in let few = few_stations b bytes accepted in omega arith

    abbrev own : StationMeaning
    own = station_meaning (read_order b) (station_tree b i)

    own_is : meaning_at ms i ≡ own
    own_is = meaning_read b i station_there

    own_station : station_in t i ≡ station_of b i
    own_station = ap (λ x. station_in x i) et ∙ (stands b bytes accepted).station_is i station_there

    pub opening_told : (s n : ℕ) → s ≡ station_in t i → n ≡ stance_number (place_of t (station_at b s).opening) 0 → Some n ≡ ask_station ms k (λ m. m.opening)
    opening_told s n es en =
        let place = ap (λ x. place_of t (station_at b x).opening) (es ∙ own_station) ∙ opening_placed b bytes accepted i station_there t et in
        let number = en ∙ ap (λ x. stance_number x 0) place in
        ap Some number ∙ ap (λ m. Some m.opening) (sym own_is) ∙ known_station ms t.stations k stations_told i some (λ m. m.opening)

    module _ (scales : List ℕ) (scaled : (i : ℕ) → i < 16 → i < t.stations → get_or scales i 0 ≡ fitting_scale b (station_in t i)) where
      scale_is : get_or scales i 0 ≡ own.scale
      scale_is =
          let low : i < t.stations = let h = there ms t.stations k stations_told i some in let n = stations_told in omega arith in
          scaled i place_low low ∙ ap (fitting_scale b) own_station
          ∙ scale_read b (short_book b bytes accepted) i (lawful_station b bytes accepted i station_there).scale_fits

      pub scale_told : Some (get_or scales i 0) ≡ ask_station ms k (λ m. m.scale)
      scale_told = ap Some (scale_is ∙ ap (λ m. m.scale) (sym own_is)) ∙ known_station ms t.stations k stations_told i some (λ m. m.scale)

      -- a stance of the station
      module _ (s : ℕ) where
        asked_stance : {X : Type 0} (what : Stance → X) → then_some (own.known s) (what (own.stance s)) ≡ ask_stance ms k s what
        asked_stance what = ap (λ (m : StationMeaning). then_some (m.known s) (what (m.stance s))) (sym own_is) ∙ known_stance ms t.stations k stations_told i some s what

        pub unknown_told : {X : Type 0} (what : Stance → X) → None ≡ then_some (own.known s) (get_or (phases_of b i) (phase_of s) 0) → None ≡ ask_stance ms k s what
        unknown_told what none = sym (ap (λ x. then_some x (what (own.stance s))) (when_none _ _ none)) ∙ asked_stance what

        module _ (f : ℕ) (e : Some f ≡ then_some (own.known s) (get_or (phases_of b i) (phase_of s) 0)) where
          pub known_here : KnownPhase b i (phase_of s) (sent_of s) f
          known_here = known_phase b i (phase_of s) (sent_of s) f e

          pub phase_low : phase_of s < 65535
          phase_low =
              let few = (lawful_station b bytes accepted i station_there).few_phases in
              let l = known_here.there in
              let n = phase_count b i in
              omega arith

          phase_is : get_or (station_tree b i).phases (phase_of s) blank_phase ≡ phase_tree b i f
          phase_is = phase_read b i (phase_of s) blank_phase known_here.there ∙ ap (phase_tree b i) (sym known_here.is)

          quiet_is : sent_of s ≡ 0 → own.stance s ≡ quiet_stance (read_order b) (get_or scales i 0) (phase_of s) (phase_tree b i f)
          quiet_is z =
              ap (model_stance (read_order b) own.scale (station_tree b i).phases (phase_of s)) z
              ∙ ap₂ (λ n x. quiet_stance (read_order b) n (phase_of s) x) (sym scale_is) phase_is

          busy_is : (sent_of s ≡ 0 → ⊥) → own.stance s ≡ busy_stance (phase_of s) (sent_of s) (phase_tree b i f)
          busy_is z = go (sent_of s) refl
            where
              go : (m : ℕ) → sent_of s ≡ m → model_stance (read_order b) own.scale (station_tree b i).phases (phase_of s) m ≡ busy_stance (phase_of s) m (phase_tree b i f)
              go zero h = absurd (z h)
              go (suc m) h = ap (busy_stance (phase_of s) (suc m)) phase_is

          stance_told : {X : Type 0} (what : Stance → X) (x : Stance) → own.stance s ≡ x → Some (what x) ≡ ask_stance ms k s what
          stance_told what x is = ap (λ y. Some (what y)) (sym is) ∙ sym (ap (λ y. then_some y (what (own.stance s))) known_here.known) ∙ asked_stance what

          pub quiet_answer : {X : Type 0} (what : Stance → X) → sent_of s ≡ 0 → Some (what (quiet_stance (read_order b) (get_or scales i 0) (phase_of s) (phase_tree b i f))) ≡ ask_stance ms k s what
          quiet_answer what z = stance_told what _ (quiet_is z)

          pub busy_answer : {X : Type 0} (what : Stance → X) → (sent_of s ≡ 0 → ⊥) → Some (what (busy_stance (phase_of s) (sent_of s) (phase_tree b i f))) ≡ ask_stance ms k s what
          busy_answer what z = stance_told what _ (busy_is z)

        -- and what it hears
        module _ (p v e q : ℕ) where
          asked_hearing : then_some (own.known s && parts_allowed own.scale q) ((own.stance s).hears p v e q) ≡ ask_hearing ms k s p v e q
          asked_hearing =
              ap (λ (m : StationMeaning). then_some (m.known s && parts_fit m q) ((m.stance s).hears p v e q)) (sym own_is)
              ∙ known_hearing ms t.stations k stations_told i some s p v e q

          pub unknown_heard : None ≡ then_some (own.known s) (get_or (phases_of b i) (phase_of s) 0) → None ≡ ask_hearing ms k s p v e q
          unknown_heard none = sym (ap (λ x. then_some (x && parts_allowed own.scale q) ((own.stance s).hears p v e q)) (when_none _ _ none)) ∙ asked_hearing

          module _ (f : ℕ) (known : Some f ≡ then_some (own.known s) (get_or (phases_of b i) (phase_of s) 0)) (may : Bool) (parts : may ≡ parts_allowed (get_or scales i 0) q) where
            hearing_answer : (x : Stance) → own.stance s ≡ x → then_some may (x.hears p v e q) ≡ ask_hearing ms k s p v e q
            hearing_answer x is =
                ap₂ (λ y (z : Stance). then_some y (z.hears p v e q)) (parts ∙ ap (λ n. parts_allowed n q) scale_is) (sym is)
                ∙ sym (ap (λ y. then_some (y && parts_allowed own.scale q) ((own.stance s).hears p v e q)) (known_here f known).known) ∙ asked_hearing

            pub too_fine : may ≡ false → None ≡ ask_hearing ms k s p v e q
            too_fine unfit = sym (ap (λ y. then_some y ((own.stance s).hears p v e q)) unfit) ∙ hearing_answer (own.stance s) refl

            pub deaf : may ≡ true → (sent_of s ≡ 0 → ⊥) → Some None ≡ ask_hearing ms k s p v e q
            deaf fit z = sym (ap (λ y. then_some y ((busy_stance (phase_of s) (sent_of s) (phase_tree b i f)).hears p v e q)) fit) ∙ hearing_answer _ (busy_is f known z)

            pub hearing_told : may ≡ true → sent_of s ≡ 0 → (r : Option ℕ) (d : ℕ) → d ≡ q * get_or scales i 0
                → r ≡ first (edge_fits (read_order b) (lifetime_of (phase_tree b i f)) p v (fraction e d)) (λ x. stance_number x.goal 0) (edges_of (phase_tree b i f))
                → Some r ≡ ask_hearing ms k s p v e q
            hearing_told fit z r d ed er =
                ap Some (er ∙ ap (λ n. first (edge_fits (read_order b) (lifetime_of (phase_tree b i f)) p v (fraction e n)) (λ x. stance_number x.goal 0) (edges_of (phase_tree b i f))) ed)
                ∙ sym (ap (λ y. then_some y ((quiet_stance (read_order b) (get_or scales i 0) (phase_of s) (phase_tree b i f)).hears p v e q)) fit)
                ∙ hearing_answer _ (quiet_is f known z)
