-- Model nets step by the model's rules.
use Rattle.std.proofs.Common.{◌≡◌, ℕ, suc, pred, ◌*◌, ◌<◌, ◌≤◌, List, [], ◌∷◌, map, length, None, Ok, sym, refl, ap, ◌∙◌, subst, ap₂, subst₂, arith}
use native.Mathlib.Nat.{one-le-mul, suc_inj}
use lib.ListN.{length-map}
use Rattle.std.proofs.ByRecursion.{All-get_or}
use Rattle.std.proofs.lemmas.List.{get_or-map}
use Rattle.std.proofs.lemmas.Simd.{map-map}
use Rattle.std.proofs.lemmas.Bool.{eq-eqb, eqb-true}
use Rattle.semantics.specs.Times.{Fraction, fraction}
use Rattle.semantics.specs.Trees.{Station, ModelNet, station_at, blank_station, words_of, phase_at}
use Rattle.semantics.specs.Scales.{lcm_all, station_scale, model_scale}
use Rattle.semantics.specs.Machine.{StationMeaning, Meaning, meaning_at, blank_meaning, Sound, net_scale, factor, gear, gear_stance, geared}
use Rattle.semantics.specs.declared.state.StationState.{StationState}
use Rattle.semantics.specs.Meanings.{stance_number, model_stance, station_meaning, model_meaning}
use Rattle.semantics.specs.Events.{event, Created}
use Rattle.semantics.specs.Net.{NetState, in_stance, state_at, stance_at}
use Rattle.semantics.specs.Calls.{Call, bad_paths, created, left_by, telling}
use Rattle.semantics.specs.Runs.{Run}
use Rattle.semantics.specs.LawfulModels.{LawfulStation, LawfulModel}
use Rattle.semantics.specs.ModelRules.{ModelRun, ModelState, fresh, rules_of}
use Rattle.semantics.specs.OneTime.{AreOneTime}
use Rattle.semantics.specs.Faithful.{model_made, IsTime, ModelStands, model_start}
use Rattle.semantics.proofs.Sound.{stance_numbers, meanings_sound}
use Rattle.stepping.specs.StationRules.{station_rules}
use Rattle.stepping.specs.Obeys.{acts_of}
use Rattle.stepping.specs.ModelNets.{net_of, left, openings, ModelSteps}
use Rattle.semantics.proofs.Simulation.{Follows}
use Rattle.stepping.proofs.Bridge.{InParts, left_stood, obeyed_runs, runs_obeyed}
use Rattle.stepping.proofs.Geared.{paths_good, scaled, long, gear_at, exact, some_factor, steady, start_at, start_whole, makes, telling_at}
use Rattle.stepping.proofs.Settled.{run_one}
use Rattle.stepping.specs.Progress.{GoesOn}
use Rattle.stepping.proofs.Timely.{left_sure}
use Rattle.stepping.proofs.Progress.{progress as goes_on_by, start_sure}
use Rattle.stepping.specs.Determined.{OneRun}
use Rattle.stepping.proofs.ModelSuits.{InPlace, model_settled, stance_phase, stance_sent, SitsAt, fresh_sits, at_stance, model_forth, model_back}

module _ (m : ModelNet) (law : LawfulModel m) (q : ℕ) (some : 1 ≤ q) where
  abbrev ms : Meaning
  ms = model_meaning m

  abbrev st : ℕ → Station
  st i = station_at m i

  abbrev n : ℕ
  n = length (geared ms)

  sound : Sound ms
  sound = meanings_sound.models m law

  one_scale : net_scale ms ≡ model_scale m
  one_scale = ap (lcm_all 1) (map-map (λ x. x.scale) (station_meaning m.order) m.stations)

  many : length ms ≡ length m.stations
  many = length-map m.stations _

  all : n ≡ length m.stations
  all = long ms sound ∙ many

  in_meaning : (i : ℕ) → i < length m.stations → i < length ms
  in_meaning i l = subst (λ k. i < k) (sym many) l

  in_stations : (i : ℕ) → i < n → i < length m.stations
  in_stations i l = subst (λ k. i < k) all l

  in_net : (i : ℕ) → i < length m.stations → i < n
  in_net i l = subst (λ k. i < k) (sym all) l

  meaning_is : (i : ℕ) → i < length m.stations → meaning_at ms i ≡ station_meaning m.order (st i)
  meaning_is i l = get_or-map (station_meaning m.order) m.stations i blank_station blank_meaning l

  abbrev L : ℕ
  L = model_scale m

  abbrev geared_to : ℕ → StationMeaning
  geared_to i = gear (factor L (station_meaning m.order (st i))) (station_meaning m.order (st i))

  geared_is : (i : ℕ) → i < length m.stations → meaning_at (geared ms) i ≡ geared_to i
  geared_is i l =
      gear_at ms sound i (in_meaning i l)
      ∙ ap₂ (λ k x. gear (factor k x) x) one_scale (meaning_is i l)

  law_at : (i : ℕ) → i < length m.stations → LawfulStation m.order (st i)
  law_at i l = All-get_or (LawfulStation m.order) m.stations i blank_station l law.stations_fit

  one_or_more : 1 ≤ L
  one_or_more = subst (λ k. 1 ≤ k) one_scale (scaled ms sound)

  exact_at : (i : ℕ) → i < length m.stations → factor L (station_meaning m.order (st i)) * station_scale (st i) ≡ L
  exact_at i l = subst₂ (λ k x. factor k x * x.scale ≡ k) one_scale (meaning_is i l) (exact ms sound i (in_meaning i l))

  factor_at : (i : ℕ) → i < length m.stations → 1 ≤ factor L (station_meaning m.order (st i))
  factor_at i l = subst₂ (λ k x. 1 ≤ factor k x) one_scale (meaning_is i l) (some_factor ms sound i (in_meaning i l))

  fine : bad_paths n m.paths ≡ None
  fine = ap (λ k. bad_paths k m.paths) all ∙ paths_good (length m.stations) m.paths law.paths_fit

  abbrev S : ℕ → StationState → ModelState → Type 0
  S i = SitsAt L (st i) q

  forth : (i : ℕ) → i < n → Follows (InParts q) (station_rules q (meaning_at (geared ms) i)) (rules_of m i) (S i)
  forth i l =
      let k = in_stations i l in
      subst (λ x. Follows (InParts q) (station_rules q x) (rules_of m i) (S i)) (sym (geared_is i k))
      (model_forth m.order L (st i) (law_at i k) one_or_more (exact_at i k) (factor_at i k) q some)

  back : (i : ℕ) → i < n → Follows (InParts q) (rules_of m i) (station_rules q (meaning_at (geared ms) i)) (λ y x. S i x y)
  back i l =
      let k = in_stations i l in
      subst (λ x. Follows (InParts q) (rules_of m i) (station_rules q x) (λ y x. S i x y)) (sym (geared_is i k))
      (model_back m.order L (st i) (law_at i k) one_or_more (exact_at i k) (factor_at i k) q some)

  abbrev Stands : NetState → (ℕ → ModelState) → Type 0
  Stands s σ = (i : ℕ) → i < n → S i (state_at s.stations i) (σ i)

  abbrev start : NetState
  start = (model_made m q 0).state

  start_stands : Stands start (λ i. fresh (st i).opening)
  start_stands i l =
      let k = in_stations i l in
      let here = start_at ms sound m.paths m.order q i (in_meaning i k) ∙ ap (λ x. in_stance x.opening 0) (meaning_is i k) in
      subst (λ x. S i x (fresh (st i).opening)) (sym here)
      (fresh_sits m.order L (st i) (law_at i k) one_or_more (exact_at i k) (factor_at i k) q some _ (st i).opening (law_at i k).opening_here refl refl)

  module _ (s : NetState) (i : ℕ) (k : i < length m.stations) (y : ModelState) (sits : S i (state_at s.stations i) y) where
    stance_is : stance_at (geared ms) s.stations i ≡ gear_stance (factor L (station_meaning m.order (st i))) (model_stance m.order (station_scale (st i)) (st i).phases y.phase y.sent)
    stance_is =
        ap (λ x. x.stance (state_at s.stations i).stance) (geared_is i k)
        ∙ at_stance m.order L (st i) (law_at i k) one_or_more (exact_at i k) (factor_at i k) q some _ y sits

    tells_phase : (telling (net_of m q) s (suc i)).0 ≡ suc y.phase
    tells_phase = ap (λ x. x.0) (telling_at (net_of m q) s i (in_net i k)) ∙ ap (λ x. x.phase) stance_is ∙ stance_phase m.order (station_scale (st i)) (st i).phases y.phase y.sent

    tells_sent : (telling (net_of m q) s (suc i)).1 ≡ y.sent
    tells_sent = ap (λ x. x.1) (telling_at (net_of m q) s i (in_net i k)) ∙ ap (λ x. x.sent) stance_is ∙ stance_sent m.order (station_scale (st i)) (st i).phases y.phase y.sent

  tells_elapsed : (s : NetState) (i : ℕ) → i < length m.stations → (telling (net_of m q) s (suc i)).2 ≡ (state_at s.stations i).elapsed
  tells_elapsed s i k = ap (λ x. x.2) (telling_at (net_of m q) s i (in_net i k))

  to_stands : (s : NetState) (σ : ℕ → ModelState) → Stands s σ → ModelStands m q s σ
  to_stands s σ h i k =
      let sits = h i (in_net i k) in (
        sym (tells_phase s i k (σ i) sits),
        sym (tells_sent s i k (σ i) sits),
        subst (λ e. IsTime (σ i).age (fraction e (q * L))) (sym (tells_elapsed s i k)) (sits.age.left, eq-eqb _ _ sits.age.equal),
      )

  time_one : (t : Fraction) (e : ℕ) → IsTime t (fraction e (q * L)) → AreOneTime t (fraction e (q * L))
  time_one t e h = record { left = h.0; right = one-le-mul some one_or_more; equal = eqb-true _ _ h.1 }

  of_stands : (s : NetState) (σ τ : ℕ → ModelState) → Stands s τ → ModelStands m q s σ → Stands s σ
  of_stands s σ τ h stood i l =
      let k = in_stations i l in
      let sits = h i l in
      let ep : (τ i).phase ≡ (σ i).phase = suc_inj (sym (tells_phase s i k (τ i) sits) ∙ sym (stood i k).0) in
      let es : (τ i).sent ≡ (σ i).sent = sym (tells_sent s i k (τ i) sits) ∙ sym (stood i k).1 in
      record {
        here = subst (λ p. p < length (st i).phases) ep sits.here;
        fewer = subst₂ (λ p j. 0 < j → j < length (words_of (phase_at (st i).phases p))) ep es sits.fewer;
        stance = sits.stance ∙ ap₂ stance_number ep es;
        age = time_one (σ i).age _ (subst (λ e. IsTime (σ i).age (fraction e (q * L))) (tells_elapsed s i k) (stood i k).2);
      }

  of_start : (s : NetState) (τ : ℕ → ModelState) → Stands s τ → ModelStands m q s (model_start m q s)
  of_start s τ h i k =
      let t = tells_phase s i k (τ i) (h i (in_net i k)) in
      (ap (λ x. suc (pred x)) t ∙ sym t, refl, (one-le-mul some one_or_more, eq-eqb _ _ refl))

  made_opened : (k : ℕ) (sts : List Station) → created k (map (station_meaning m.order) sts) ≡ openings k sts
  made_opened k [] = refl
  made_opened k (x ∷ xs) =
      ap₂ (λ p es. event Created k 0 p ∷ es)
      (stance_phase m.order (station_scale x) x.phases _ _ ∙ ap suc (stance_numbers.phase_back x.opening 0 (omega arith)))
      (made_opened (suc k) xs)

  pub model_steps : q ≤ 1000 → (calls : List Call) → ModelSteps m q calls
  model_steps few calls =
      let r = left_stood (geared ms) q m.order m.paths some (steady ms sound) (rules_of m) S forth back calls start (λ i. fresh (st i).opening) (start_whole ms sound m.paths m.order q) start_stands in
      record {
        makes = λ slots room.
            makes ms sound m.paths m.order q slots (subst (λ k. k ≤ 1000000) (sym one_scale) law.scale_fits)
            (ap (λ k. bad_paths k m.paths) many ∙ paths_good (length m.stations) m.paths law.paths_fit) (subst (λ k. k ≤ slots) (sym many) room) some few
            ∙ ap Ok (made_opened 1 m.stations);
        opens = to_stands start (λ i. fresh (st i).opening) start_stands;
        stands = of_start (left m q calls) r.1.0 r.1.1;
        steps = λ σ stood cs es.
            let here = of_stands (left m q calls) σ r.1.0 r.1.1 stood in
            record {
              obeyed_allowed = λ h.
                  let t = obeyed_runs (geared ms) q m.order m.paths some (steady ms sound) (rules_of m) S forth back cs (left m q calls) es σ r.0 here h in
                  (t.0, (subst (λ k. Run (rules_of m) k m.order m.paths σ (acts_of q cs) es t.0) all t.1.0, to_stands (left_by (net_of m q) m.paths cs (left m q calls)) t.0 t.1.1));
              allowed_obeyed = λ enough τ run.
                  let t = runs_obeyed (geared ms) q m.order m.paths some (steady ms sound) (rules_of m) S forth back fine cs (left m q calls) es σ τ r.0 here enough
                  (subst (λ k. Run (rules_of m) k m.order m.paths σ (acts_of q cs) es τ) (sym all) run) in
                  (t.0, to_stands (left_by (net_of m q) m.paths cs (left m q calls)) τ t.1);
            };
      }

  pub determined : (calls : List Call) (σ : ℕ → ModelState) → ModelStands m q (left m q calls) σ → OneRun (ModelRun m) σ
  determined calls σ stood acts es fs τ ρ x y =
      let r = left_stood (geared ms) q m.order m.paths some (steady ms sound) (rules_of m) S forth back calls start (λ i. fresh (st i).opening) (start_whole ms sound m.paths m.order q) start_stands in
      let here = of_stands (left m q calls) σ r.1.0 r.1.1 stood in
      run_one (rules_of m) (length m.stations) (λ i. InPlace (st i)) (λ i k. model_settled m.order L (st i) (law_at i k) one_or_more (exact_at i k) (factor_at i k) q some) m.order m.paths acts
      (λ i k. let h = here i (in_net i k) in record { here = h.here; proper = h.age.left }) x y

  pub progress : (calls : List Call) (σ : ℕ → ModelState) → ModelStands m q (left m q calls) σ → GoesOn (ModelRun m) σ
  progress calls σ stood =
      let r = left_stood (geared ms) q m.order m.paths some (steady ms sound) (rules_of m) S forth back calls start (λ i. fresh (st i).opening) (start_whole ms sound m.paths m.order q) start_stands in
      let here = of_stands (left m q calls) σ r.1.0 r.1.1 stood in
      subst (λ k. GoesOn (Run (rules_of m) k m.order m.paths) σ) all
      (goes_on_by (geared ms) q m.order m.paths some (steady ms sound) (rules_of m) S forth fine (left m q calls)
      (left_sure (geared ms) q (steady ms sound) m.order m.paths calls start (start_sure ms sound m.paths m.order q)) σ here)
