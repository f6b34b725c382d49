-- Printing is faithful.
use Rattle.std.proofs.Common.{◌≡◌, ℕ, zero, suc, pred, ◌+◌, ◌*◌, ◌/◌, ◌<◌, ◌≤◌, List, length, sym, refl, ap, ◌∙◌, subst, ap₂, subst₂, arith}
use Prim.Native.Nat.{◌∣◌}
use native.Mathlib.Nat.{one-le-mul, div-mul_cancel, suc_inj, eq_of_mul-eq-mul_right}
use lib.ListN.{length-map}
use Rattle.std.proofs.lemmas.Bool.{eqb-true, eq-eqb}
use Rattle.semantics.specs.Times.{Fraction, fraction, Proper, Order}
use Rattle.semantics.specs.Trees.{Station, Automaton, ModelNet, station_at, automaton_at, location_at, phase_at}
use Rattle.semantics.specs.Scales.{station_scale, model_scale, automaton_scale}
use Rattle.semantics.specs.Machine.{geared}
use Rattle.semantics.specs.Meanings.{phase_of, sent_of, model_stance}
use Rattle.semantics.specs.Events.{Event}
use Rattle.semantics.specs.Net.{NetState, state_at}
use Rattle.semantics.specs.Calls.{Call, telling}
use Rattle.semantics.specs.Runs.{Act, Rules, Run}
use Rattle.semantics.specs.ModelRules.{ModelState}
use Rattle.semantics.specs.ModelRules as model
use Rattle.semantics.specs.AutomatonRules.{AutomatonState, automaton_rules}
use Rattle.semantics.specs.AutomatonRules as automata
use Rattle.semantics.specs.Print.{place_of, print, print_station}
use Rattle.semantics.specs.LawfulModels.{LawfulModel}
use Rattle.semantics.specs.Faithful.{Agrees, model_made, automata_made, model_start, automaton_start, IsTime, ModelStands, AutomataStand, Correspond, SameRuns}
use Rattle.faithful.specs.Theorems.{PrintingIsFaithful}
use Rattle.semantics.proofs.Simulation.{Follows, run_too, run_proper}
use Rattle.faithful.proofs.Twins.{Even, even_openings, same_telling, answers_agree, make_same}
use Rattle.faithful.proofs.Ticks.{Shows}
use Rattle.faithful.proofs.Law.{StationLaw}
use Rattle.faithful.proofs.Locations.{width, split_place, all_long}
use Rattle.faithful.proofs.Printed.{stands_numbers, alike_at}
use Rattle.faithful.proofs.Stations.{Matches, automaton_follows, model_follows}
use Rattle.faithful.proofs.Nets.{Stand, law, one_side, other_side, station_law, printed_at, as_many_automata, as_many_here, as_many_there, printed_twin, same_scales, printed_scale, factor_at, net_twin, here_stance, there_stance, tells, made_parts}

pub stance_phase : (o : Order) (st : Station) (i j : ℕ) → (model_stance o (station_scale st) st.phases i j).phase ≡ suc i
stance_phase o st i zero = refl
stance_phase o st i (suc j) = refl

pub stance_sent : (o : Order) (st : Station) (i j : ℕ) → (model_stance o (station_scale st) st.phases i j).sent ≡ j
stance_sent o st i zero = refl
stance_sent o st i (suc j) = refl

-- a printed location is told by its phase and words sent
unique_place : (o : Order) (L : ℕ) (st : Station) → StationLaw L st → (n i j : ℕ) → n < length (print_station o st).locations →
    (location_at (print_station o st) n).phase ≡ suc i → (location_at (print_station o st) n).sent ≡ j → n ≡ place_of st.phases i + j
unique_place o L st law n i j l ep es =
    let r = split_place o (station_scale st) st.phases st.phases 0 0 n l in
    let a = alike_at o L st law r.0 r.1 r.2 r.3 n r.4 in
    let ei : r.0 ≡ i = suc_inj (sym (stance_phase o st r.0 r.1) ∙ a.phase ∙ ep) in
    let ej : r.1 ≡ j = sym (stance_sent o st r.0 r.1) ∙ a.sent ∙ es in
    r.4 ∙ ap₂ (λ x y. place_of st.phases x + y) ei ej

pub regroup : (u s c : ℕ) → u * s * c ≡ u * (c * s)
regroup u s c = omega arith

-- an age and a clock that are e parts, q to a net tick
shows_equal : (au al cu cl e q f s : ℕ) → 1 ≤ q * f → au * (q * (f * s)) ≡ e * al → cu * (q * f) ≡ e * cl → cu * al ≡ au * s * cl
shows_equal au al cu cl e q f s some x y =
    eq_of_mul-eq-mul_right (q * f) some _ _ (let m = ap (λ k. k * cl) x in let n = ap (λ k. k * al) y in omega arith)

stands_shows : (q L s e : ℕ) (age clock : Fraction) → 1 ≤ q → 1 ≤ s → s ∣ L → 1 ≤ L / s →
    IsTime age (fraction e (q * L)) → IsTime clock (fraction e (q * (L / s))) → Shows s age clock
stands_shows q L s e age clock some sp divides factor a c = record {
  scale_some = sp;
  age_some = a.0;
  clock_some = c.0;
  equal =
      shows_equal age.numerator age.denominator clock.numerator clock.denominator e q (L / s) s (one-le-mul some factor)
      (subst (λ k. age.numerator * (q * k) ≡ e * age.denominator) (sym (div-mul_cancel s divides)) (eqb-true _ _ a.1))
      (eqb-true _ _ c.1);
}

module _ (m : ModelNet) (lawful : LawfulModel m) (q : ℕ) (some : 1 ≤ q) where
  abbrev Pair : NetState → NetState → Type 0
  Pair = Even (Stand m lawful)

  abbrev told : NetState → ℕ → ℕ × ℕ × ℕ
  told s i = telling (model_made m q 0).net s (suc i)

  abbrev told_there : NetState → ℕ → ℕ × ℕ × ℕ
  told_there t i = telling (automata_made (print m) q 0).net t (suc i)

  same_told : (s t : NetState) → Pair s t → (i : ℕ) → told s i ≡ told_there t i
  same_told s t even i =
      same_telling (Stand m lawful) (geared (one_side m lawful)) (geared (other_side m lawful)) (net_twin m lawful) m.order q s t even (suc i)

  known_here : (i : ℕ) → i < length m.stations → i < length (geared (one_side m lawful))
  known_here i l = subst (λ n. i < n) (sym (length-map (one_side m lawful) _ ∙ as_many_here m lawful)) l

  known_there : (i : ℕ) → i < length m.stations → i < length (geared (other_side m lawful))
  known_there i l = subst (λ n. i < n) (sym (length-map (other_side m lawful) _ ∙ as_many_there m lawful)) l

  phase_told : (s : NetState) (i : ℕ) → i < length m.stations → (told s i).0 ≡ suc (phase_of (state_at s.stations i).stance)
  phase_told s i l =
      ap (λ x. x.0) (tells (model_made m q 0).net s i (known_here i l))
      ∙ (here_stance m lawful i (state_at s.stations i).stance l).0 ∙ stance_phase m.order (station_at m i) _ _

  sent_told : (s : NetState) (i : ℕ) → i < length m.stations → (told s i).1 ≡ sent_of (state_at s.stations i).stance
  sent_told s i l =
      ap (λ x. x.1) (tells (model_made m q 0).net s i (known_here i l))
      ∙ (here_stance m lawful i (state_at s.stations i).stance l).1 ∙ stance_sent m.order (station_at m i) _ _

  matched : (s t : NetState) → Pair s t → (σ : ℕ → ModelState) (τ : ℕ → AutomatonState) → ModelStands m q s σ → AutomataStand (print m) q t τ →
      (i : ℕ) → i < length m.stations → Matches (station_at m i) (σ i) (τ i)
  matched s t even σ τ hm ha i l =
      let st = station_at m i in
      let here = station_law m lawful i l in
      let stands = (even.related.paired i).0 l in
      let numbers = stands_numbers m.order (model_scale m) st here _ _ stands in
      let ei : (σ i).phase ≡ stands.i = suc_inj ((hm i l).0 ∙ phase_told s i l ∙ ap suc (sym numbers.0)) in
      let ej : (σ i).sent ≡ stands.j = (hm i l).1 ∙ sent_told s i l ∙ sym numbers.1 in
      let la : i < length (print m).automata = subst (λ k. i < k) (sym (as_many_automata m lawful)) l in
      let stood = ha i la in
      let same = same_told s t even i in
      let ea = printed_at m lawful i l in
      record {
        here = subst (λ k. k < length st.phases) (sym ei) stands.here;
        fewer = subst₂ (λ k j. j < width (phase_at st.phases k)) (sym ei) (sym ej) stands.fewer;
        location = unique_place m.order (model_scale m) st here (τ i).location (σ i).phase (σ i).sent
            (subst (λ a. (τ i).location < length a.locations) ea stood.0)
            (sym (ap (λ a. (location_at a (τ i).location).phase) ea) ∙ stood.1 ∙ sym (ap (λ x. x.0) same) ∙ sym (hm i l).0)
            (sym (ap (λ a. (location_at a (τ i).location).sent) ea) ∙ stood.2 ∙ sym (ap (λ x. x.1) same) ∙ sym (hm i l).1);
        shows = stands_shows q (model_scale m) (station_scale st) (told s i).2 (σ i).age (τ i).clock some here.some_scale here.divides (factor_at m lawful i l) (hm i l).2
            (subst (λ (L : ℕ). IsTime (τ i).clock (fraction (told s i).2 (q * (L / station_scale st)))) (printed_scale m lawful)
            (subst₂ (λ (e : ℕ) (a : Automaton). IsTime (τ i).clock (fraction e (q * (automaton_scale (print m) / a.scale)))) (sym (ap (λ x. x.2) same)) ea stood.3));
      }

  abbrev here_rules : ℕ → Rules ModelState
  here_rules = model.rules_of m

  abbrev there_rules : ℕ → Rules AutomatonState
  there_rules = automata.rules_of (print m)

  pub suits_forward : (i : ℕ) → i < length m.stations → Follows Proper (here_rules i) (there_rules i) (Matches (station_at m i))
  suits_forward i l =
      subst₂ (λ (L : ℕ) (a : Automaton). Follows Proper (here_rules i) (automaton_rules (L / a.scale) a) (Matches (station_at m i)))
      (sym (printed_scale m lawful)) (sym (printed_at m lawful i l))
      (automaton_follows m.order (model_scale m) (station_at m i) (law m lawful).some_scale (factor_at m lawful i l) (station_law m lawful i l))

  pub suits_back : (i : ℕ) → i < length m.stations → Follows Proper (there_rules i) (here_rules i) (λ y x. Matches (station_at m i) x y)
  suits_back i l =
      subst₂ (λ (L : ℕ) (a : Automaton). Follows Proper (automaton_rules (L / a.scale) a) (here_rules i) (λ y x. Matches (station_at m i) x y))
      (sym (printed_scale m lawful)) (sym (printed_at m lawful i l))
      (model_follows m.order (model_scale m) (station_at m i) (law m lawful).some_scale (factor_at m lawful i l) (station_law m lawful i l))

  correspond : (σ : ℕ → ModelState) (τ : ℕ → AutomatonState) → ((i : ℕ) → i < length m.stations → Matches (station_at m i) (σ i) (τ i)) → Correspond m (print m) σ τ
  correspond σ τ h i l =
      let st = station_at m i in
      let t = h i l in
      let al = alike_at m.order (model_scale m) st (station_law m lawful i l) (σ i).phase (σ i).sent t.here t.fewer (τ i).location t.location in
      let ea = printed_at m lawful i l in (
        ap (λ a. (location_at a (τ i).location).phase) ea ∙ sym al.phase ∙ stance_phase m.order st (σ i).phase (σ i).sent,
        ap (λ a. (location_at a (τ i).location).sent) ea ∙ sym al.sent ∙ stance_sent m.order st (σ i).phase (σ i).sent,
        (
          one-le-mul t.shows.clock_some t.shows.scale_some,
          eq-eqb _ _ (t.shows.equal ∙ regroup (σ i).age.numerator (station_scale st) (τ i).clock.denominator),
        ),
      )

  same_run : (σ : ℕ → ModelState) (τ : ℕ → AutomatonState) → ((i : ℕ) → i < length m.stations → Matches (station_at m i) (σ i) (τ i)) →
      (acts : List Act) (es : List Event) → SameRuns m (print m) σ τ acts es
  same_run σ τ r acts es =
      let n = length m.stations in
      let many : length (print m).automata ≡ n = as_many_automata m lawful in
      record {
        forth = λ σ' run.
            let t = run_too Proper here_rules there_rules n (λ i. Matches (station_at m i)) suits_forward m.order m.paths τ r (run_proper run) run in
            (t.0, (subst (λ k. Run there_rules k m.order m.paths τ acts es t.0) (sym many) t.1.0, correspond σ' t.0 t.1.1));
        back = λ τ' run.
            let there : Run there_rules n m.order m.paths τ acts es τ' = subst (λ k. Run there_rules k m.order m.paths τ acts es τ') many run in
            let t = run_too Proper there_rules here_rules n (λ i y x. Matches (station_at m i) x y) suits_back m.order m.paths σ r (run_proper there) there in
            (t.0, (t.1.0, correspond t.0 τ' t.1.1));
      }

  start_stands : (s t : NetState) → Pair s t → ModelStands m q s (model_start m q s)
  start_stands s t even i l =
      let e = phase_told s i l in
      (ap (λ x. suc (pred x)) e ∙ sym e, refl, (one-le-mul some (law m lawful).some_scale, eq-eqb _ _ refl))

  automata_start_stand : (s t : NetState) → Pair s t → AutomataStand (print m) q t (automaton_start (print m) q t)
  automata_start_stand s t even i la =
      let l : i < length m.stations = subst (λ k. i < k) (as_many_automata m lawful) la in
      let st = station_at m i in
      let stands = (even.related.paired i).0 l in
      let ea = printed_at m lawful i l in
      let n = (state_at t.stations i).stance in
      let told-now = tells (automata_made (print m) q 0).net t i (known_there i l) in (
        subst (λ a. n < length a.locations) (sym ea)
            (subst (λ k. k < length (print_station m.order st).locations) (sym stands.printed)
            (all_long m.order (station_scale st) st.phases st.phases stands.i stands.j 0 0 stands.here stands.fewer)),
        ap (λ a. (location_at a n).phase) ea ∙ sym (ap (λ x. x.0) told-now ∙ (there_stance m lawful i n l).0),
        ap (λ a. (location_at a n).sent) ea ∙ sym (ap (λ x. x.1) told-now ∙ (there_stance m lawful i n l).1),
        (
          subst₂ (λ (L : ℕ) (a : Automaton). 1 ≤ q * (L / a.scale)) (sym (printed_scale m lawful)) (sym ea) (one-le-mul some (factor_at m lawful i l)),
          eq-eqb _ _ (ap (λ e. e * (q * (automaton_scale (print m) / (automaton_at (print m) i).scale))) (sym (ap (λ x. x.2) told-now))),
        ),
      )

  agrees : (slots : ℕ) (calls : List Call) → Agrees m (print m) q slots calls
  agrees slots calls =
      let start = even_openings (Stand m lawful) (one_side m lawful) (other_side m lawful) (printed_twin m lawful).as_many (printed_twin m lawful).openings in
      let after = answers_agree (Stand m lawful) (geared (one_side m lawful)) (geared (other_side m lawful)) (net_twin m lawful) m.order q some m.paths calls _ _ start in
      record {
        same_answers = after.0;
        same_tellings = same_telling (Stand m lawful) (geared (one_side m lawful)) (geared (other_side m lawful)) (net_twin m lawful) m.order q _ _ after.1;
        model_starts = start_stands _ _ after.1;
        automata_start = automata_start_stand _ _ after.1;
        same_runs = λ σ τ hm ha. same_run σ τ (matched _ _ after.1 σ τ hm ha);
      }

pub printing_is_faithful : PrintingIsFaithful
printing_is_faithful m lawful = record {
  same_making = λ q slots. make_same (Stand m lawful) (one_side m lawful) (other_side m lawful) (printed_twin m lawful) (same_scales m lawful) m.paths m.order q slots;
  same_life = λ q slots es made calls. agrees m lawful q (made_parts m q slots es made) slots calls;
}
