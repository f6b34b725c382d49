-- The machine of a printed net is the twin of the model's, so both nets answer alike.
use Rattle.std.proofs.Common.{◌≡◌, ℕ, zero, suc, ◌*◌, ◌/◌, ◌<◌, ◌≤◌, Bool, true, false, cond, ◌||◌, eqb, ltb, ◌⊎◌, List, [], ◌∷◌, map, length, Some, None, Ok, Err, Option, sym, refl, ap, ◌∙◌, subst, subst₂, inl, inr, arith}
use Prim.Native.Nat.{◌∣◌}
use native.Mathlib.Nat.{div-mul_cancel}
use lib.ListN.{length-map}
use Rattle.std.proofs.ByRecursion.{All-get_or}
use Rattle.std.proofs.lemmas.Bool.{cases_lt, or_parts, eqb-false, lt-ltb}
use Rattle.book.specs.Refusals.{refused}
use Rattle.book.specs.declared.refusal.Fault.{Fault}
use Rattle.book.specs.declared.refusal.Fault.TheVariants.{Scale, Paths, Room, Parts}
use Rattle.semantics.specs.Times.{Order}
use Rattle.semantics.specs.Trees.{Station, ModelNet, station_at, blank_station, Automaton, automaton_at, blank_automaton}
use Rattle.semantics.specs.Scales.{lcm_all, station_scale, model_scale, automaton_scale}
use Rattle.semantics.specs.Machine.{Stance, StationMeaning, Meaning, blank_meaning, meaning_at, net_scale, factor, geared}
use Rattle.semantics.specs.Meanings.{station_meaning, automaton_meaning, model_meaning, automata_meaning}
use Rattle.semantics.specs.Events.{Event}
use Rattle.semantics.specs.Net.{Net, NetState, state_at, stance_at}
use Rattle.semantics.specs.Calls.{Answer, unless, at_zero, first_bad, misfit, bad_paths, telling}
use Rattle.semantics.specs.Print.{print, print_station}
use Rattle.semantics.specs.LawfulModels.{LawfulModel}
use Rattle.semantics.specs.Faithful.{model_made}
use Rattle.faithful.proofs.Twins.{Both, Alike, Twin, map_at, map_past, geared_at, geared_twin}
use Rattle.faithful.proofs.Law.{StationLaw, NetLaw, net_law}
use Rattle.faithful.proofs.Printed.{StandsFor, quiet_stands, meaning_alike}

pub factor_some : (L s : ℕ) → 1 ≤ L → s ∣ L → 1 ≤ L / s
factor_some L s some d = go (L / s) (div-mul_cancel s d)
  where
    go : (f : ℕ) → f * s ≡ L → 1 ≤ f
    go zero e = absurd (omega arith)
    go (suc f) e = omega arith

both_weaker : {A B : Type 0} (R Q : A → B → Type 0) → ((a : A) (b : B) → R a b → Q a b) → (x : Option A) (y : Option B) → Both R x y → Both Q x y
both_weaker R Q f None None h = tt
both_weaker R Q f None (Some b) h = absurd h
both_weaker R Q f (Some a) None h = absurd h
both_weaker R Q f (Some a) (Some b) h = f a b h

pub alike_weaker : (R Q : ℕ → ℕ → Type 0) → ((s t : ℕ) → R s t → Q s t) → (x y : Stance) → Alike R x y → Alike Q x y
alike_weaker R Q f x y a = record {
  phase = a.phase;
  sent = a.sent;
  busy = a.busy;
  lifetime = a.lifetime;
  move = both_weaker _ _ (λ m k h. (h.0, f m.follows k.follows h.1)) x.move y.move a.move;
  hears = λ p v e q h. both_weaker R Q f (x.hears p v e q) (y.hears p v e q) (a.hears p v e q h);
}

-- the scales of both machines are the stations' scales
pub model_scales : (o : Order) (sts : List Station) → map (λ m. m.scale) (map (station_meaning o) sts) ≡ map station_scale sts
model_scales o [] = refl
model_scales o (st ∷ sts) = ap (λ r. station_scale st ∷ r) (model_scales o sts)

automaton_scales : (o : Order) (sts : List Station) → map (λ a. a.scale) (map (print_station o) sts) ≡ map station_scale sts
automaton_scales o [] = refl
automaton_scales o (st ∷ sts) = ap (λ r. station_scale st ∷ r) (automaton_scales o sts)

meaning_scales : (xs : List Automaton) → map (λ m. m.scale) (map automaton_meaning xs) ≡ map (λ a. a.scale) xs
meaning_scales [] = refl
meaning_scales (x ∷ xs) = ap (λ r. x.scale ∷ r) (meaning_scales xs)

module _ (m : ModelNet) (lawful : LawfulModel m) where
  abbrev pub law : NetLaw m
  law = net_law m lawful

  abbrev pub one_side : Meaning
  one_side = model_meaning m

  abbrev pub other_side : Meaning
  other_side = automata_meaning (print m)

  abbrev pub Stand : ℕ → ℕ → ℕ → Type 0
  Stand i s t = i < length m.stations → StandsFor (station_at m i) s t

  pub station_law : (i : ℕ) → i < length m.stations → StationLaw (model_scale m) (station_at m i)
  station_law i l = All-get_or _ m.stations i blank_station l law.stations_fit

  pub printed_at : (i : ℕ) → i < length m.stations → automaton_at (print m) i ≡ print_station m.order (station_at m i)
  printed_at i l = map_at (print_station m.order) blank_station blank_automaton m.stations i l

  pub as_many_automata : length (print m).automata ≡ length m.stations
  as_many_automata = length-map m.stations (print_station m.order)

  pub as_many_here : length one_side ≡ length m.stations
  as_many_here = length-map m.stations (station_meaning m.order)

  pub as_many_there : length other_side ≡ length m.stations
  as_many_there = length-map (print m).automata automaton_meaning ∙ as_many_automata

  pub here_at : (i : ℕ) → i < length m.stations → meaning_at one_side i ≡ station_meaning m.order (station_at m i)
  here_at i l = map_at (station_meaning m.order) blank_station blank_meaning m.stations i l

  there_at : (i : ℕ) → i < length m.stations → meaning_at other_side i ≡ automaton_meaning (print_station m.order (station_at m i))
  there_at i l =
      map_at automaton_meaning blank_automaton blank_meaning (print m).automata i (subst (λ n. i < n) (sym as_many_automata) l)
      ∙ ap automaton_meaning (printed_at i l)

  pub here_past : (i : ℕ) → length m.stations ≤ i → meaning_at one_side i ≡ blank_meaning
  here_past i l = map_past (station_meaning m.order) blank_meaning m.stations i l

  there_past : (i : ℕ) → length m.stations ≤ i → meaning_at other_side i ≡ blank_meaning
  there_past i l = map_past automaton_meaning blank_meaning (print m).automata i (subst (λ n. n ≤ i) (sym as_many_automata) l)

  alike_at : (i s t : ℕ) → (i < length m.stations) ⊎ (length m.stations ≤ i) → Stand i s t →
      Alike (Stand i) ((meaning_at one_side i).stance s) ((meaning_at other_side i).stance t)
  alike_at i s t (inl l) stands =
      subst₂ (λ x y. Alike (Stand i) (x.stance s) (y.stance t)) (sym (here_at i l)) (sym (there_at i l))
      (alike_weaker (StandsFor (station_at m i)) (Stand i) (λ a b h _. h) _ _ (meaning_alike m.order (model_scale m) (station_at m i) (station_law i l) s t (stands l)))
  alike_at i s t (inr l) stands =
      subst₂ (λ x y. Alike (Stand i) (x.stance s) (y.stance t)) (sym (here_past i l)) (sym (there_past i l))
      (record { phase = refl; sent = refl; busy = refl; lifetime = refl; move = tt; hears = λ p v e q h. tt })

  pub printed_twin : Twin Stand one_side other_side
  printed_twin = record {
    as_many = as_many_here ∙ sym as_many_there;
    openings = λ i l.
        subst₂ (λ x y. StandsFor (station_at m i) x.opening y.opening) (sym (here_at i l)) (sym (there_at i l))
        (quiet_stands (station_at m i) (station_at m i).opening (station_law i l).opening_here);
    alike = λ i s t h. alike_at i s t (cases_lt i (length m.stations)) h;
  }

  pub same_scales : map (λ x. x.scale) one_side ≡ map (λ x. x.scale) other_side
  same_scales = model_scales m.order m.stations ∙ sym (meaning_scales (print m).automata ∙ automaton_scales m.order m.stations)

  here_scale : net_scale one_side ≡ model_scale m
  here_scale = ap (lcm_all 1) (model_scales m.order m.stations)

  pub printed_scale : automaton_scale (print m) ≡ model_scale m
  printed_scale = ap (lcm_all 1) (automaton_scales m.order m.stations)

  pub factor_at : (i : ℕ) → i < length m.stations → 1 ≤ model_scale m / station_scale (station_at m i)
  factor_at i l = factor_some (model_scale m) (station_scale (station_at m i)) law.some_scale (station_law i l).divides

  pub here_factor : (i : ℕ) → i < length one_side → 1 ≤ factor (net_scale one_side) (meaning_at one_side i)
  here_factor i l =
      let k : i < length m.stations = subst (λ n. i < n) as_many_here l in
      subst₂ (λ (L : ℕ) (x : StationMeaning). 1 ≤ L / x.scale) (sym here_scale) (sym (here_at i k)) (factor_at i k)

  pub net_twin : Twin Stand (geared one_side) (geared other_side)
  net_twin =
      geared_twin Stand one_side other_side printed_twin same_scales
      here_factor
      (λ i s t past here. absurd (let k = as_many_here in omega arith))

  -- a station of the net on either side, but for its gearing
  pub here_stance : (i s : ℕ) → i < length m.stations →
      (((meaning_at (geared one_side) i).stance s).phase ≡ ((station_meaning m.order (station_at m i)).stance s).phase)
      × (((meaning_at (geared one_side) i).stance s).sent ≡ ((station_meaning m.order (station_at m i)).stance s).sent)
  here_stance i s l =
      let e = geared_at one_side i (subst (λ n. i < n) (sym as_many_here) l) in (
        ap (λ x. (x.stance s).phase) e ∙ ap (λ x. (x.stance s).phase) (here_at i l),
        ap (λ x. (x.stance s).sent) e ∙ ap (λ x. (x.stance s).sent) (here_at i l),
      )

  pub there_stance : (i s : ℕ) → i < length m.stations →
      (((meaning_at (geared other_side) i).stance s).phase ≡ ((automaton_meaning (print_station m.order (station_at m i))).stance s).phase)
      × (((meaning_at (geared other_side) i).stance s).sent ≡ ((automaton_meaning (print_station m.order (station_at m i))).stance s).sent)
  there_stance i s l =
      let e = geared_at other_side i (subst (λ n. i < n) (sym as_many_there) l) in (
        ap (λ x. (x.stance s).phase) e ∙ ap (λ x. (x.stance s).phase) (there_at i l),
        ap (λ x. (x.stance s).sent) e ∙ ap (λ x. (x.stance s).sent) (there_at i l),
      )

-- what a known station tells
pub tells : (net : Net) (s : NetState) (i : ℕ) → i < length net.stations →
    telling net s (suc i) ≡ ((stance_at net.stations s.stations i).phase, (stance_at net.stations s.stations i).sent, (state_at s.stations i).elapsed)
tells net s i l =
    ap (λ b. cond b ((stance_at net.stations s.stations i).phase, (stance_at net.stations s.stations i).sent, (state_at s.stations i).elapsed) (0, 0, 0))
    (lt-ltb i (length net.stations) l)

unless_passed : (u : Option ℕ) (f : Fault) (r : Answer) (es : List Event) → unless u (λ k. Err (refused f k)) r ≡ Ok es → (u ≡ None) × (r ≡ Ok es)
unless_passed None f r es h = (refl, h)
unless_passed (Some p) f r es h = absurd (let z : ◌≡◌ {A = ℕ} 0 1 = cc in omega arith)

at_zero_none : (b : Bool) → at_zero b ≡ None → b ≡ false
at_zero_none true h = absurd (let z : ◌≡◌ {A = ℕ} 0 1 = cc in omega arith)
at_zero_none false h = refl

-- a net that was made has parts
pub made_parts : (m : ModelNet) (q slots : ℕ) (es : List Event) → (model_made m q slots).answer ≡ Ok es → 1 ≤ q
made_parts m q slots es h =
    let ms = model_meaning m in
    let a = unless_passed (first_bad (misfit (net_scale ms)) 1 ms) Scale _ es h in
    let b = unless_passed (bad_paths (length ms) m.paths) Paths _ es a.1 in
    let c = unless_passed (at_zero (ltb slots (length ms))) Room _ es b.1 in
    let d = unless_passed (at_zero (eqb q 0 || ltb 1000 q)) Parts _ es c.1 in
    let f = or_parts (eqb q 0) (ltb 1000 q) (at_zero_none _ d.0) in
    let g = eqb-false q 0 f.0 in
    omega arith
