-- Automaton nets step by the automaton rules.
use Rattle.std.proofs.Common.{◌≡◌, ℕ, suc, ◌*◌, ◌/◌, ◌<◌, ◌≤◌, true, List, [], ◌∷◌, map, length, None, Ok, sym, refl, ap, ◌∙◌, subst, ap₂, subst₂, arith}
use native.Mathlib.Nat.{one-le-mul}
use lib.ListN.{length-map}
use Rattle.std.proofs.ByRecursion.{All-get_or}
use Rattle.std.proofs.lemmas.List.{get_or-map}
use Rattle.std.proofs.lemmas.Simd.{map-map}
use Rattle.std.proofs.lemmas.Bool.{eq-eqb, eqb-true}
use Rattle.semantics.specs.Times.{fraction}
use Rattle.semantics.specs.Trees.{Automaton, AutomatonNet, automaton_at, blank_automaton, location_at}
use Rattle.semantics.specs.Scales.{lcm_all, automaton_scale}
use Rattle.semantics.specs.Fits.{within_bound}
use Rattle.semantics.specs.Machine.{Meaning, meaning_at, blank_meaning, Sound, net_scale, factor, gear, geared}
use Rattle.semantics.specs.declared.state.StationState.{StationState}
use Rattle.semantics.specs.Meanings.{automaton_meaning, automata_meaning}
use Rattle.semantics.specs.Events.{event, Created}
use Rattle.semantics.specs.Net.{NetState, in_stance, state_at}
use Rattle.semantics.specs.Calls.{Call, bad_paths, created, left_by, telling}
use Rattle.semantics.specs.Runs.{Run}
use Rattle.semantics.specs.LawfulAutomata.{LawfulAutomaton, LawfulAutomata}
use Rattle.semantics.specs.AutomatonRules.{AutomatonRun, AutomatonState, rules_of}
use Rattle.semantics.specs.OneTime.{AreOneTime}
use Rattle.semantics.specs.Faithful.{automata_made, IsTime, automaton_start}
use Rattle.semantics.proofs.OneTime.{one_time}
use Rattle.semantics.proofs.Sound.{meanings_sound}
use Rattle.stepping.specs.StationRules.{station_rules}
use Rattle.stepping.specs.Obeys.{acts_of}
use Rattle.stepping.specs.AutomatonNets.{net_of, left, openings, AutomataAt, opening_state, AutomatonSteps}
use Rattle.semantics.proofs.Simulation.{Follows}
use Rattle.stepping.proofs.Bridge.{InParts, left_stood, obeyed_runs, runs_obeyed}
use Rattle.stepping.proofs.Geared.{paths_good, long, gear_at, some_factor, steady, start_at, start_whole, makes, telling_at}
use Rattle.stepping.proofs.Settled.{run_one}
use Rattle.stepping.specs.Progress.{GoesOn}
use Rattle.stepping.proofs.Timely.{left_sure}
use Rattle.stepping.proofs.Progress.{progress as goes_on_by, start_sure}
use Rattle.stepping.specs.Determined.{OneRun}
use Rattle.stepping.proofs.AutomatonSuits.{InPlace, automaton_settled, zero_within, Sited, automaton_forth, automaton_back}

module _ (a : AutomatonNet) (law : LawfulAutomata a) (q : ℕ) (some : 1 ≤ q) where
  abbrev ms : Meaning
  ms = automata_meaning a

  abbrev at : ℕ → Automaton
  at i = automaton_at a i

  abbrev n : ℕ
  n = length (geared ms)

  sound : Sound ms
  sound = meanings_sound.automata a law

  one_scale : net_scale ms ≡ automaton_scale a
  one_scale = ap (lcm_all 1) (map-map (λ x. x.scale) automaton_meaning a.automata)

  many : length ms ≡ length a.automata
  many = length-map a.automata _

  all : n ≡ length a.automata
  all = long ms sound ∙ many

  in_meaning : (i : ℕ) → i < length a.automata → i < length ms
  in_meaning i l = subst (λ k. i < k) (sym many) l

  in_automata : (i : ℕ) → i < n → i < length a.automata
  in_automata i l = subst (λ k. i < k) all l

  in_net : (i : ℕ) → i < length a.automata → i < n
  in_net i l = subst (λ k. i < k) (sym all) l

  meaning_is : (i : ℕ) → i < length a.automata → meaning_at ms i ≡ automaton_meaning (at i)
  meaning_is i l = get_or-map automaton_meaning a.automata i blank_automaton blank_meaning l

  abbrev L : ℕ
  L = automaton_scale a

  abbrev factor_of : ℕ → ℕ
  factor_of i = L / (at i).scale

  geared_is : (i : ℕ) → i < length a.automata → meaning_at (geared ms) i ≡ gear (factor_of i) (automaton_meaning (at i))
  geared_is i l = gear_at ms sound i (in_meaning i l) ∙ ap₂ (λ k x. gear (factor k x) x) one_scale (meaning_is i l)

  law_at : (i : ℕ) → i < length a.automata → LawfulAutomaton (at i)
  law_at i l = All-get_or LawfulAutomaton a.automata i blank_automaton l law.automata_fit

  factor_at : (i : ℕ) → i < length a.automata → 1 ≤ factor_of i
  factor_at i l = subst₂ (λ k x. 1 ≤ factor k x) one_scale (meaning_is i l) (some_factor ms sound i (in_meaning i l))

  fine : bad_paths n a.paths ≡ None
  fine = ap (λ k. bad_paths k a.paths) all ∙ paths_good (length a.automata) a.paths law.paths_fit

  abbrev S : ℕ → StationState → AutomatonState → Type 0
  S i = Sited (factor_of i) (at i) q

  forth : (i : ℕ) → i < n → Follows (InParts q) (station_rules q (meaning_at (geared ms) i)) (rules_of a i) (S i)
  forth i l =
      let k = in_automata i l in
      subst (λ x. Follows (InParts q) (station_rules q x) (rules_of a i) (S i)) (sym (geared_is i k))
      (automaton_forth L (at i) (law_at i k) (factor_at i k) q some)

  back : (i : ℕ) → i < n → Follows (InParts q) (rules_of a i) (station_rules q (meaning_at (geared ms) i)) (λ y x. S i x y)
  back i l =
      let k = in_automata i l in
      subst (λ x. Follows (InParts q) (rules_of a i) (station_rules q x) (λ y x. S i x y)) (sym (geared_is i k))
      (automaton_back L (at i) (law_at i k) (factor_at i k) q some)

  abbrev Stands : NetState → (ℕ → AutomatonState) → Type 0
  Stands s σ = (i : ℕ) → i < n → S i (state_at s.stations i) (σ i)

  abbrev start : NetState
  start = (automata_made a q 0).state

  start_stands : Stands start (opening_state a)
  start_stands i l =
      let k = in_automata i l in
      let here = start_at ms sound a.paths a.order q i (in_meaning i k) ∙ ap (λ x. in_stance x.opening 0) (meaning_is i k) in
      subst (λ x. S i x (opening_state a i)) (sym here)
      (record {
        location = refl;
        here = (law_at i k).opening_here;
        clock = record { left = omega arith; right = one-le-mul some (factor_at i k); equal = omega arith };
        within = zero_within (location_at (at i) (at i).opening).bound;
      })

  module _ (s : NetState) (i : ℕ) (k : i < length a.automata) where
    tells_phase : (telling (net_of a q) s (suc i)).0 ≡ (location_at (at i) (state_at s.stations i).stance).phase
    tells_phase = ap (λ x. x.0) (telling_at (net_of a q) s i (in_net i k)) ∙ ap (λ x. (x.stance (state_at s.stations i).stance).phase) (geared_is i k)

    tells_sent : (telling (net_of a q) s (suc i)).1 ≡ (location_at (at i) (state_at s.stations i).stance).sent
    tells_sent = ap (λ x. x.1) (telling_at (net_of a q) s i (in_net i k)) ∙ ap (λ x. (x.stance (state_at s.stations i).stance).sent) (geared_is i k)

    tells_elapsed : (telling (net_of a q) s (suc i)).2 ≡ (state_at s.stations i).elapsed
    tells_elapsed = ap (λ x. x.2) (telling_at (net_of a q) s i (in_net i k))

  -- what tells a state of an automaton's run
  told_by : (s : NetState) (i : ℕ) → i < length a.automata → (y : AutomatonState) → y.location ≡ (state_at s.stations i).stance → y.location < length (at i).locations →
      IsTime y.clock (fraction (state_at s.stations i).elapsed (q * factor_of i)) →
      (y.location < length (at i).locations)
      × ((location_at (at i) y.location).phase ≡ (telling (net_of a q) s (suc i)).0)
      × ((location_at (at i) y.location).sent ≡ (telling (net_of a q) s (suc i)).1)
      × IsTime y.clock (fraction (telling (net_of a q) s (suc i)).2 (q * factor_of i))
  told_by s i k y e l t = (
    l,
    ap (λ x. (location_at (at i) x).phase) e ∙ sym (tells_phase s i k),
    ap (λ x. (location_at (at i) x).sent) e ∙ sym (tells_sent s i k),
    subst (λ x. IsTime y.clock (fraction x (q * factor_of i))) (sym (tells_elapsed s i k)) t,
  )

  to_at : (s : NetState) (σ : ℕ → AutomatonState) → Stands s σ → AutomataAt a q s σ
  to_at s σ h = record {
    told = λ i k. let m = h i (in_net i k) in told_by s i k (σ i) m.location m.here (m.clock.left, eq-eqb _ _ m.clock.equal);
    in_stances = λ i k. (h i (in_net i k)).location;
  }

  of_at : (s : NetState) (σ τ : ℕ → AutomatonState) → Stands s τ → AutomataAt a q s σ → Stands s σ
  of_at s σ τ h stood i l =
      let k = in_automata i l in
      let m = h i l in
      let t = subst (λ x. IsTime (σ i).clock (fraction x (q * factor_of i))) (tells_elapsed s i k) (stood.told i k).3 in
      let clock : AreOneTime (σ i).clock (fraction (state_at s.stations i).elapsed (q * factor_of i)) =
      record { left = t.0; right = one-le-mul some (factor_at i k); equal = eqb-true _ _ t.1 } in
      let same : (τ i).location ≡ (σ i).location = m.location ∙ sym (stood.in_stances i k) in
      let b = (location_at (at i) (σ i).location).bound in
      record {
        location = stood.in_stances i k;
        here = subst (λ x. x < length (at i).locations) same m.here;
        clock = clock;
        within = one_time.bound_same b (σ i).clock _ clock ∙ (sym (one_time.bound_same b (τ i).clock _ m.clock) ∙ subst (λ x. within_bound (location_at (at i) x).bound (τ i).clock ≡ true) same m.within);
      }

  of_start : (s : NetState) (τ : ℕ → AutomatonState) → Stands s τ → AutomataAt a q s (automaton_start a q s)
  of_start s τ h = record {
    told = λ i k.
        let m = h i (in_net i k) in
        told_by s i k (automaton_start a q s i) refl (subst (λ x. x < length (at i).locations) m.location m.here) (one-le-mul some (factor_at i k), eq-eqb _ _ refl);
    in_stances = λ i k. refl;
  }

  made_opened : (k : ℕ) (xs : List Automaton) → created k (map automaton_meaning xs) ≡ openings k xs
  made_opened k [] = refl
  made_opened k (x ∷ xs) = ap (λ es. event Created k 0 (location_at x x.opening).phase ∷ es) (made_opened (suc k) xs)

  pub automaton_steps : q ≤ 1000 → (calls : List Call) → AutomatonSteps a q calls
  automaton_steps few calls =
      let r = left_stood (geared ms) q a.order a.paths some (steady ms sound) (rules_of a) S forth back calls start (opening_state a) (start_whole ms sound a.paths a.order q) start_stands in
      record {
        makes = λ slots room.
            makes ms sound a.paths a.order q slots (subst (λ k. k ≤ 1000000) (sym one_scale) law.scale_fits)
            (ap (λ k. bad_paths k a.paths) many ∙ paths_good (length a.automata) a.paths law.paths_fit) (subst (λ k. k ≤ slots) (sym many) room) some few
            ∙ ap Ok (made_opened 1 a.automata);
        opens = to_at start (opening_state a) start_stands;
        stands = of_start (left a q calls) r.1.0 r.1.1;
        steps = λ σ stood cs es.
            let here = of_at (left a q calls) σ r.1.0 r.1.1 stood in
            record {
              obeyed_allowed = λ h.
                  let t = obeyed_runs (geared ms) q a.order a.paths some (steady ms sound) (rules_of a) S forth back cs (left a q calls) es σ r.0 here h in
                  (t.0, (subst (λ k. Run (rules_of a) k a.order a.paths σ (acts_of q cs) es t.0) all t.1.0, to_at (left_by (net_of a q) a.paths cs (left a q calls)) t.0 t.1.1));
              allowed_obeyed = λ enough τ run.
                  let t = runs_obeyed (geared ms) q a.order a.paths some (steady ms sound) (rules_of a) S forth back fine cs (left a q calls) es σ τ r.0 here enough
                  (subst (λ k. Run (rules_of a) k a.order a.paths σ (acts_of q cs) es τ) (sym all) run) in
                  (t.0, to_at (left_by (net_of a q) a.paths cs (left a q calls)) τ t.1);
            };
      }

  pub determined : (calls : List Call) (σ : ℕ → AutomatonState) → AutomataAt a q (left a q calls) σ → OneRun (AutomatonRun a) σ
  determined calls σ stood acts es fs τ ρ x y =
      let r = left_stood (geared ms) q a.order a.paths some (steady ms sound) (rules_of a) S forth back calls start (opening_state a) (start_whole ms sound a.paths a.order q) start_stands in
      let here = of_at (left a q calls) σ r.1.0 r.1.1 stood in
      run_one (rules_of a) (length a.automata) (λ i. InPlace (at i)) (λ i k. automaton_settled L (at i) (law_at i k) (factor_at i k) q some) a.order a.paths acts
      (λ i k. let h = here i (in_net i k) in record { here = h.here; proper = h.clock.left; within = h.within }) x y

  pub progress : (calls : List Call) (σ : ℕ → AutomatonState) → AutomataAt a q (left a q calls) σ → GoesOn (AutomatonRun a) σ
  progress calls σ stood =
      let r = left_stood (geared ms) q a.order a.paths some (steady ms sound) (rules_of a) S forth back calls start (opening_state a) (start_whole ms sound a.paths a.order q) start_stands in
      let here = of_at (left a q calls) σ r.1.0 r.1.1 stood in
      subst (λ k. GoesOn (Run (rules_of a) k a.order a.paths) σ) all
      (goes_on_by (geared ms) q a.order a.paths some (steady ms sound) (rules_of a) S forth fine (left a q calls)
      (left_sure (geared ms) q (steady ms sound) a.order a.paths calls start (start_sure ms sound a.paths a.order q)) σ here)
