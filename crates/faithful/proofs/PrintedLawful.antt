-- What is printed from a lawful model net is a lawful automaton net.
use Rattle.std.proofs.Common.{◌≡◌, ℕ, zero, suc, ◌+◌, ◌*◌, ◌<◌, ◌≤◌, Bool, true, false, cond, not, ◌&&◌, ltb, leb, List, [], ◌∷◌, ◌++◌, map, length, drop, Some, None, sum_by, Option, sym, refl, ap, ◌∙◌, subst, mul-le-mul_right, div-le_self, arith, length-append}
use native.Mathlib.Nat.{one-le-mul}
use lib.ListN.{length-map}
use Rattle.std.specs.List.{flat_map, AllByRecursion}
use Rattle.std.proofs.ByRecursion.{All-get_or, All-from_get_or, All-append}
use Rattle.std.proofs.lemmas.List.Sums.{sum_by-cons, sum_by-append}
use Rattle.std.proofs.lemmas.Bool.{le-leb, and_parts}
use Rattle.records.specs.Fits.{HighFits}
use Rattle.semantics.specs.Times.{Fraction, fraction, Proper, HighEnd, Closed, Open, Absent, Window, Order, StepFirst, WordFirst, inside, counts, itself, whole, over}
use Rattle.semantics.specs.Trees.{Word, Edge, Phase, endless, lasting, lifetime_of, words_of, edges_of, next_of, phase_at, blank_phase, Station, Transition, location_at, blank_location, Automaton}
use Rattle.semantics.specs.Scales.{ticks, life_ticks, station_scale, model_scale}
use Rattle.semantics.specs.Fits.{edge_fits, transition_fits, within_bound}
use Rattle.semantics.specs.Limits.{AtMostOne, LawfulPath}
use Rattle.semantics.specs.Print.{tick_high, cut_high, hearing_guard, from_on, locations_for, place_of, print_edge, print_sending, print_move, print_moves, print_committed, print_quiet, print_phase, print_phases, print_station}
use Rattle.semantics.specs.LawfulModels.{SmallTime, SmallLife, LawfulWord, LawfulEdge, WindowHolds, LawfulPhase, LawfulStation, phase_records, station_records}
use Rattle.semantics.specs.LawfulAutomata.{is_move, LawfulLabel, LawfulTransition, PrintedMove, HearsOnly, LawfulMoves, BoundFits, LawfulLocation, LawfulAutomaton, location_records, automaton_records}
use Rattle.faithful.specs.Theorems.{PrintedIsLawful}
use Rattle.faithful.proofs.Ticks.{InTicks, LifeInTicks, HighInTicks, Shows, window_same, within_life}
use Rattle.faithful.proofs.Law.{EdgeLaw, StationLaw, net_law}
use Rattle.faithful.proofs.Locations.{width, drop_some, more_words, busy_location, quiet_at, busy_at, split_place, all_long}
use Rattle.faithful.proofs.Printed.{fits_same, phase_law, words_next, drop_words, drop_width, width_some, width_few}
use Rattle.faithful.proofs.Stations.{moves_deaf}
use Rattle.faithful.proofs.Nets.{printed_scale}

-- Ends in ticks fit.
module _ (s : ℕ) where
  ticks_fit : (t : Fraction) → SmallTime t → ticks s t ≤ 1000000 * s
  ticks_fit t small =
      let a = div-le_self (t.numerator * s) t.denominator in
      let b = mul-le-mul_right s small.numerator_fits in
      omega arith

  life_fits : (life : Option Fraction) → SmallLife life → BoundFits s (life_ticks s life)
  life_fits None small = tt
  life_fits (Some t) small = ticks_fit t small

  abbrev EndFits : HighEnd ℕ → Type 0
  EndFits h = HighFits (λ x. x ≤ 1000000 * s) h

  either_fits : (c : Bool) (h k : HighEnd ℕ) → EndFits h → EndFits k → EndFits (cond c h k)
  either_fits true h k x y = x
  either_fits false h k x y = y

  cut_fits : (o : Order) (b : Option ℕ) (h : HighEnd ℕ) → BoundFits s b → EndFits h → EndFits (cut_high o b h)
  cut_fits StepFirst None h bf hf = hf
  cut_fits WordFirst None h bf hf = hf
  cut_fits StepFirst (Some b) Absent bf hf = bf
  cut_fits WordFirst (Some b) Absent bf hf = bf
  cut_fits StepFirst (Some b) (Closed h) bf hf = either_fits (ltb h b) (Closed h) (Open b) hf bf
  cut_fits StepFirst (Some b) (Open h) bf hf = either_fits (ltb h b) (Open h) (Open b) hf bf
  cut_fits WordFirst (Some b) (Closed h) bf hf = either_fits (leb h b) (Closed h) (Closed b) hf bf
  cut_fits WordFirst (Some b) (Open h) bf hf = either_fits (leb h b) (Open h) (Closed b) hf bf

  high_fits : (h : HighEnd Fraction) → HighFits SmallTime h → EndFits (tick_high s h)
  high_fits (Closed t) small = ticks_fit t small
  high_fits (Open t) small = ticks_fit t small
  high_fits Absent small = tt

  -- some moment is in the printed guard
  guard_holds : (o : Order) (life : Option Fraction) (e : Edge) → 1 ≤ s → LifeInTicks s life → InTicks s e.window.low → HighInTicks s e.window.high → WindowHolds o life e →
      (x : Fraction) × (Proper x × ((inside whole (hearing_guard o s life e.window) x ≡ true) × (within_bound (life_ticks s life) x ≡ true)))
  guard_holds o life e some lf low high (t, (good, h)) =
      let clock = fraction (t.numerator * s) t.denominator in
      let shows : Shows s t clock = record { scale_some = some; age_some = good; clock_some = good; equal = refl } in
      let parts = and_parts (inside itself e.window t) (counts o life t) h in
      (clock, (good, (sym (window_same s t clock shows o life lf e.window low high) ∙ h, within_life s t clock shows o life lf parts.1)))

-- a move's guard holds at its bound
at_bound_holds : (b : ℕ) → (inside whole (from_on b) (whole b) ≡ true) × (within_bound (Some b) (whole b) ≡ true)
at_bound_holds b = (ap (λ x. x && true) (le-leb (b * 1) (b * 1) (omega arith)), le-leb (b * 1) (b * 1) (omega arith))

-- what a transition that sends is, whatever follows it
module _ (here next : ℕ) (g : Window ℕ) (w : Word) where
  sends_moves : (rest : List Word) → is_move (print_sending here next g w rest).label ≡ true
  sends_moves [] = refl
  sends_moves (x ∷ xs) = refl

  sends_guard : (rest : List Word) → (print_sending here next g w rest).guard ≡ g
  sends_guard [] = refl
  sends_guard (x ∷ xs) = refl

  sends_label : (rest : List Word) → LawfulWord w → LawfulLabel (print_sending here next g w rest).label
  sends_label [] h = h
  sends_label (x ∷ xs) h = h

hears_only : (o : Order) (s : ℕ) (all : List Phase) (life : Option Fraction) (es : List Edge) → HearsOnly (map (print_edge o s all life) es)
hears_only o s all life [] = tt
hears_only o s all life (e ∷ es) = (refl, hears_only o s all life es)

hearing_resets : (o : Order) (s : ℕ) (all : List Phase) (life : Option Fraction) (es : List Edge) →
    AllByRecursion (λ t. is_move t.label ≡ false → t.resets ≡ true) (map (print_edge o s all life) es)
hearing_resets o s all life [] = tt
hearing_resets o s all life (e ∷ es) = ((λ _. refl), hearing_resets o s all life es)

not_both : {P : Type 0} (b : Bool) → b ≡ true → b ≡ false → P
not_both b e f = absurd (let z : ◌≡◌ {A = ℕ} 0 1 = cc in omega arith)

move_resets : (here next : ℕ) (b : Option ℕ) (ws : List Word) → AllByRecursion (λ t. is_move t.label ≡ false → t.resets ≡ true) (print_moves here next b ws)
move_resets here next None ws = tt
move_resets here next (Some b) [] = ((λ _. refl), tt)
move_resets here next (Some b) (w ∷ ws) = ((λ e. not_both _ (sends_moves here next (from_on b) w ws) e), tt)

-- the guards are apart where the edges are
module _ (o : Order) (s : ℕ) (all : List Phase) (life : Option Fraction) (lf : LifeInTicks s life) (n p v : ℕ) (age t : Fraction) (shows : Shows s age t)
    (ms : List Transition) (deaf : AllByRecursion (λ x. transition_fits p v t x ≡ false) ms) where
  deaf_alone : (xs : List Transition) → AllByRecursion (λ x. transition_fits p v t x ≡ false) xs → AtMostOne (transition_fits p v t) xs
  deaf_alone [] h = tt
  deaf_alone (x ∷ xs) h = ((λ _. h.1), deaf_alone xs h.1)

  others : (es : List Edge) → AllByRecursion (EdgeLaw s n) es → AllByRecursion (λ e. edge_fits o life p v age e ≡ false) es →
      AllByRecursion (λ x. transition_fits p v t x ≡ false) (map (print_edge o s all life) es ++ ms)
  others [] laws h = deaf
  others (e ∷ es) laws h = (sym (fits_same o s all life lf n e laws.0 age t shows p v) ∙ h.0, others es laws.1 h.1)

  guards_apart : (es : List Edge) → AllByRecursion (EdgeLaw s n) es → AtMostOne (edge_fits o life p v age) es →
      AtMostOne (transition_fits p v t) (map (print_edge o s all life) es ++ ms)
  guards_apart [] laws h = deaf_alone ms deaf
  guards_apart (e ∷ es) laws h =
      ((λ k. others es laws.1 (h.0 (fits_same o s all life lf n e laws.0 age t shows p v ∙ k))), guards_apart es laws.1 h.1)

module _ (o : Order) (L : ℕ) (st : Station) (lawful : LawfulStation o st) (law : StationLaw L st) where
  abbrev s : ℕ
  s = station_scale st

  abbrev pa : Automaton
  pa = print_station o st

  abbrev many : ℕ
  many = length pa.locations

  phase_lawful : (i : ℕ) → i < length st.phases → LawfulPhase o (length st.phases) (phase_at st.phases i)
  phase_lawful i l = All-get_or _ st.phases i blank_phase l lawful.phases_fit

  quiet_open : (i : ℕ) → i < length st.phases → (location_at pa (place_of st.phases i)).committed ≡ false
  quiet_open i l = ap (λ x. x.committed) (quiet_at o st i l (place_of st.phases i) (omega arith))

  quiet_here : (i : ℕ) → i < length st.phases → place_of st.phases i < many
  quiet_here i l =
      let h = all_long o s st.phases st.phases i 0 0 0 l (width_some (words_of (phase_at st.phases i))) in
      subst (λ k. k < many) (let e : place_of st.phases i + 0 ≡ place_of st.phases i = omega arith in e) h

  -- edges
  edge_lawful : (life : Option Fraction) → SmallLife life → LifeInTicks s life → (e : Edge) → LawfulEdge (length st.phases) e → EdgeLaw s (length st.phases) e → WindowHolds o life e →
      LawfulTransition many s (life_ticks s life) (print_edge o s st.phases life e)
  edge_lawful life small lf e le el holds = record {
    goal_here = quiet_here e.goal le.goal_here;
    label_fits = (le.port_width, (le.values_ordered, le.value_width));
    low_fits = ticks_fit s e.window.low le.low_fits;
    high_fits = cut_fits s o (life_ticks s life) (tick_high s e.window.high) (life_fits s life small) (high_fits s e.window.high le.high_fits);
    guard_holds = guard_holds s o life e law.some_scale lf el.low_fits el.high_fits holds;
  }

  edges_lawful : (life : Option Fraction) → SmallLife life → LifeInTicks s life → (es : List Edge) → AllByRecursion (LawfulEdge (length st.phases)) es →
      AllByRecursion (EdgeLaw s (length st.phases)) es → AllByRecursion (WindowHolds o life) es →
      AllByRecursion (LawfulTransition many s (life_ticks s life)) (map (print_edge o s st.phases life) es)
  edges_lawful life small lf [] a b c = tt
  edges_lawful life small lf (e ∷ es) a b c = (edge_lawful life small lf e a.0 b.0 c.0, edges_lawful life small lf es a.1 b.1 c.1)

  -- the move that sends w, with `rest` after it, from phase i with j words sent
  module _ (i : ℕ) (l : i < length st.phases) (j n : ℕ) (g : Window ℕ) (w : Word) (en : n ≡ place_of st.phases i + j) (nl : next_of (phase_at st.phases i) < length st.phases) where
    abbrev next : ℕ
    next = place_of st.phases (next_of (phase_at st.phases i))

    drop_next : (x : Word) (xs ws : List Word) (k : ℕ) → drop k ws ≡ w ∷ x ∷ xs → drop (suc k) ws ≡ x ∷ xs
    drop_next x xs [] zero f = absurd (let z : ◌≡◌ {A = ℕ} 0 1 = cc in omega arith)
    drop_next x xs [] (suc k) f = absurd (let z : ◌≡◌ {A = ℕ} 0 1 = cc in omega arith)
    drop_next x xs (y ∷ ys) zero f = cc
    drop_next x xs (y ∷ ys) (suc k) f = drop_next x xs ys k f

    sends_resets : (rest : List Word) → drop j (words_of (phase_at st.phases i)) ≡ w ∷ rest →
        (print_sending n next g w rest).resets ≡ not (location_at pa (print_sending n next g w rest).goal).committed
    sends_resets [] d = sym (ap not (quiet_open (next_of (phase_at st.phases i)) nl))
    sends_resets (x ∷ xs) d =
        let wd = drop_width o L st law (words_of (phase_at st.phases i)) j w (x ∷ xs) d in
        let more : suc j < width (phase_at st.phases i) = omega arith in
        sym (ap not (ap (λ y. y.committed) (busy_at o st i l j (suc n) x xs more (drop_next x xs (words_of (phase_at st.phases i)) j d) (omega arith))))

    sends_goal : (rest : List Word) → drop j (words_of (phase_at st.phases i)) ≡ w ∷ rest → (print_sending n next g w rest).goal < many
    sends_goal [] d = quiet_here (next_of (phase_at st.phases i)) nl
    sends_goal (x ∷ xs) d =
        let wd = drop_width o L st law (words_of (phase_at st.phases i)) j w (x ∷ xs) d in
        let h = all_long o s st.phases st.phases i (suc j) 0 0 l (omega arith) in
        subst (λ k. k < many) (let e : place_of st.phases i + suc j ≡ suc n = omega arith in e) h

  -- a lawful move from b on
  sends_lawful : (i : ℕ) (l : i < length st.phases) (j n b : ℕ) (w : Word) (rest : List Word) → n ≡ place_of st.phases i + j → next_of (phase_at st.phases i) < length st.phases →
      drop j (words_of (phase_at st.phases i)) ≡ w ∷ rest → LawfulWord w → b ≤ 1000000 * s → (bound : Option ℕ) → within_bound bound (whole b) ≡ true →
      LawfulTransition many s bound (print_sending n (place_of st.phases (next_of (phase_at st.phases i))) (from_on b) w rest)
  sends_lawful i l j n b w rest en nl d lw fits bound wb =
      let to = place_of st.phases (next_of (phase_at st.phases i)) in
      let eg = sym (sends_guard n to (from_on b) w rest) in
      record {
        goal_here = sends_goal i l j n (from_on b) w en nl rest d;
        label_fits = sends_label n to (from_on b) w rest lw;
        low_fits = subst (λ g. g.low ≤ 1000000 * s) eg fits;
        high_fits = subst (λ (g : Window ℕ). HighFits (λ h. h ≤ 1000000 * s) g.high) eg tt;
        guard_holds = (whole b, (omega arith, (subst (λ g. inside whole g (whole b) ≡ true) eg (at_bound_holds b).0, wb)));
      }

  sends_printed : (i : ℕ) (l : i < length st.phases) (j n b : ℕ) (w : Word) (rest : List Word) → n ≡ place_of st.phases i + j → next_of (phase_at st.phases i) < length st.phases →
      drop j (words_of (phase_at st.phases i)) ≡ w ∷ rest →
      PrintedMove pa b (print_sending n (place_of st.phases (next_of (phase_at st.phases i))) (from_on b) w rest)
  sends_printed i l j n b w rest en nl d =
      let to = place_of st.phases (next_of (phase_at st.phases i)) in
      record { moves = sends_moves n to (from_on b) w rest; from_bound = sends_guard n to (from_on b) w rest; resets_right = sends_resets i l j n (from_on b) w en nl rest d }

  -- the move of a phase's quiet location
  module _ (i n : ℕ) (l : i < length st.phases) (en : n ≡ place_of st.phases i + 0) (t : Fraction) (small : SmallTime t) (nl : next_of (phase_at st.phases i) < length st.phases) where
    abbrev to : ℕ
    to = place_of st.phases (next_of (phase_at st.phases i))

    first_lawful : (ws : List Word) → words_of (phase_at st.phases i) ≡ ws → AllByRecursion LawfulWord ws →
        LawfulTransition many s (Some (ticks s t)) (print_move n to (from_on (ticks s t)) ws)
    first_lawful [] d h = record {
      goal_here = quiet_here (next_of (phase_at st.phases i)) nl;
      label_fits = tt;
      low_fits = ticks_fit s t small;
      high_fits = tt;
      guard_holds = (whole (ticks s t), (omega arith, ((at_bound_holds (ticks s t)).0, (at_bound_holds (ticks s t)).1)));
    }
    first_lawful (w ∷ ws) d h = sends_lawful i l 0 n (ticks s t) w ws en nl d h.0 (ticks_fit s t small) (Some (ticks s t)) (at_bound_holds (ticks s t)).1

    first_printed : (ws : List Word) → words_of (phase_at st.phases i) ≡ ws → PrintedMove pa (ticks s t) (print_move n to (from_on (ticks s t)) ws)
    first_printed [] d = record { moves = refl; from_bound = refl; resets_right = sym (ap not (quiet_open (next_of (phase_at st.phases i)) nl)) }
    first_printed (w ∷ ws) d = sends_printed i l 0 n (ticks s t) w ws en nl d

  -- by the kind of phase; f is the phase at i
  module _ (i n : ℕ) (l : i < length st.phases) (en : n ≡ place_of st.phases i + 0) where
    moves_lawful : (f : Phase) → phase_at st.phases i ≡ f → LawfulPhase o (length st.phases) f →
        AllByRecursion (LawfulTransition many s (life_ticks s (lifetime_of f))) (print_moves n (place_of st.phases (next_of f)) (life_ticks s (lifetime_of f)) (words_of f))
    moves_lawful (endless edges) e lf = tt
    moves_lawful (lasting t words next edges) e lf =
        let nx : next_of (phase_at st.phases i) ≡ next = ap next_of e in
        let nl = subst (λ k. k < length st.phases) (sym nx) lf.next_here in (
          subst (λ k. LawfulTransition many s (Some (ticks s t)) (print_move n (place_of st.phases k) (from_on (ticks s t)) words)) nx
              (first_lawful i n l en t lf.life_fits nl words (ap words_of e) lf.words_fit),
          tt,
        )

    moves_fit : (f : Phase) → phase_at st.phases i ≡ f → LawfulPhase o (length st.phases) f →
        LawfulMoves pa false (life_ticks s (lifetime_of f))
        (map (print_edge o s st.phases (lifetime_of f)) (edges_of f) ++ print_moves n (place_of st.phases (next_of f)) (life_ticks s (lifetime_of f)) (words_of f))
    moves_fit (endless edges) e lf = All-append _ (map (print_edge o s st.phases None) edges) [] (hears_only o s st.phases None edges) tt
    moves_fit (lasting t words next edges) e lf =
        let nx : next_of (phase_at st.phases i) ≡ next = ap next_of e in
        let nl = subst (λ k. k < length st.phases) (sym nx) lf.next_here in (
          map (print_edge o s st.phases (Some t)) edges,
          (
            print_move n (place_of st.phases next) (from_on (ticks s t)) words,
            (
              refl,
              (
                hears_only o s st.phases (Some t) edges,
                subst (λ k. PrintedMove pa (ticks s t) (print_move n (place_of st.phases k) (from_on (ticks s t)) words)) nx (first_printed i n l en t lf.life_fits nl words (ap words_of e)),
              ),
            ),
          ),
        )

  quiet_lawful : (i n : ℕ) → i < length st.phases → n ≡ place_of st.phases i + 0 → LawfulLocation pa (print_quiet o s st.phases i n (phase_at st.phases i))
  quiet_lawful i n l en =
      let f = phase_at st.phases i in
      let lf = phase_lawful i l in
      let pl = phase_law o L st law i l in
      let next = place_of st.phases (next_of f) in
      record {
        phase_width = let few = lawful.few_phases in omega arith;
        sent_width = omega arith;
        bound_fits = life_fits s (lifetime_of f) lf.life_fits;
        transitions_fit =
            All-append _ (map (print_edge o s st.phases (lifetime_of f)) (edges_of f)) (print_moves n next (life_ticks s (lifetime_of f)) (words_of f))
            (edges_lawful (lifetime_of f) lf.life_fits pl.life_fits (edges_of f) lf.edges_fit pl.edges_fit lf.windows_hold)
            (moves_lawful i n l en f refl lf);
        guards_apart = λ p v t good b.
            guards_apart o s st.phases (lifetime_of f) pl.life_fits (length st.phases) p v (over t s) t
            (record { scale_some = law.some_scale; age_some = one-le-mul good law.some_scale; clock_some = good; equal = omega arith })
            (print_moves n next (life_ticks s (lifetime_of f)) (words_of f)) (moves_deaf p v t n next (life_ticks s (lifetime_of f)) (words_of f))
            (edges_of f) pl.edges_fit (lf.edges_apart p v (over t s) (one-le-mul good law.some_scale));
        not_both = λ h. not_both false h refl;
        moves_fit = moves_fit i n l en f refl lf;
        hearing_resets =
            All-append _ (map (print_edge o s st.phases (lifetime_of f)) (edges_of f)) (print_moves n next (life_ticks s (lifetime_of f)) (words_of f))
            (hearing_resets o s st.phases (lifetime_of f) (edges_of f)) (move_resets n next (life_ticks s (lifetime_of f)) (words_of f));
      }

  word_at : (ws : List Word) → AllByRecursion LawfulWord ws → (j : ℕ) (w : Word) (rest : List Word) → drop j ws ≡ w ∷ rest → LawfulWord w
  word_at [] h zero w rest d = absurd (let z : ◌≡◌ {A = ℕ} 0 1 = cc in omega arith)
  word_at [] h (suc j) w rest d = absurd (let z : ◌≡◌ {A = ℕ} 0 1 = cc in omega arith)
  word_at (x ∷ ws) h zero w rest d = let e : x ≡ w = cc in subst LawfulWord e h.0
  word_at (x ∷ ws) h (suc j) w rest d = word_at ws h.1 j w rest d

  busy_lawful : (i j n : ℕ) → i < length st.phases → suc j < width (phase_at st.phases i) → (w : Word) (rest : List Word) → drop (suc j) (words_of (phase_at st.phases i)) ≡ w ∷ rest →
      n ≡ place_of st.phases i + suc j → LawfulLocation pa (busy_location i (place_of st.phases (next_of (phase_at st.phases i))) n (suc j) w rest)
  busy_lawful i j n l lj w rest d en =
      let f = phase_at st.phases i in
      let lf = phase_lawful i l in
      let nl = words_next o L st law (length st.phases) f lf.next_here (drop_words o L st law (words_of f) (suc j) w rest d) in
      let few = width_few (words_of f) lf.few_words in
      record {
        phase_width = let m = lawful.few_phases in omega arith;
        sent_width = omega arith;
        bound_fits = tt;
        transitions_fit = (sends_lawful i l (suc j) n 0 w rest en nl d (word_at (words_of f) lf.words_fit (suc j) w rest d) (omega arith) None refl, tt);
        guards_apart = λ p v t good b. ((λ _. tt), tt);
        not_both = λ h. refl;
        moves_fit = (_, (refl, sends_printed i l (suc j) n 0 w rest en nl d));
        hearing_resets = ((λ k. not_both _ (sends_moves n (place_of st.phases (next_of f)) (from_on 0) w rest) k), tt);
      }

  location_lawful : (n : ℕ) → n < many → LawfulLocation pa (location_at pa n)
  location_lawful n l = let r = split_place o s st.phases st.phases 0 0 n l in go r.0 r.1 r.2 r.3 r.4
    where
      go : (i j : ℕ) → i < length st.phases → j < width (phase_at st.phases i) → n ≡ place_of st.phases i + j → LawfulLocation pa (location_at pa n)
      go i zero li lj e = subst (LawfulLocation pa) (sym (quiet_at o st i li n e)) (quiet_lawful i n li e)
      go i (suc j) li lj e =
          let d = drop_some (words_of (phase_at st.phases i)) (suc j) (more_words (words_of (phase_at st.phases i)) j lj) in
          subst (LawfulLocation pa) (sym (busy_at o st i li j n d.0 d.1 lj d.2 e)) (busy_lawful i j n li lj d.0 d.1 d.2 e)

  station_lawful : LawfulAutomaton pa
  station_lawful = record {
    some_scale = law.some_scale;
    scale_fits = lawful.scale_fits;
    opening_here = quiet_here st.opening lawful.opening_here;
    locations_fit = All-from_get_or (LawfulLocation pa) pa.locations blank_location location_lawful;
  }

-- How many records a printed net takes: at most twice as many as the model's.
committed_size : (i next here sent : ℕ) (ws : List Word) → sum_by location_records (print_committed i next here sent ws) ≡ length ws * 2
committed_size i next here sent [] = refl
committed_size i next here sent (w ∷ ws) =
    let a = sum_by-cons location_records (busy_location i next here sent w ws) (print_committed i next (suc here) (suc sent) ws) in
    let b = committed_size i next (suc here) (suc sent) ws in
    omega arith

moves_few : (here next : ℕ) (b : Option ℕ) (ws : List Word) → length (print_moves here next b ws) ≤ 1
moves_few here next None ws = omega arith
moves_few here next (Some b) ws = omega arith

rest_few : (ws : List Word) → length (drop 1 ws) ≤ length ws
rest_few [] = omega arith
rest_few (w ∷ ws) = omega arith

module _ (o : Order) (s : ℕ) (all : List Phase) where
  phase_size : (i here : ℕ) (f : Phase) → sum_by location_records (print_phase o s all i here f) ≤ 2 * phase_records f
  phase_size i here f =
      let next = place_of all (next_of f) in
      let a = sum_by-cons location_records (print_quiet o s all i here f) (print_committed i next (suc here) 1 (drop 1 (words_of f))) in
      let b = committed_size i next (suc here) 1 (drop 1 (words_of f)) in
      let c = length-append (map (print_edge o s all (lifetime_of f)) (edges_of f)) (print_moves here next (life_ticks s (lifetime_of f)) (words_of f)) in
      let d = length-map (edges_of f) (print_edge o s all (lifetime_of f)) in
      let e = moves_few here next (life_ticks s (lifetime_of f)) (words_of f) in
      let g = rest_few (words_of f) in
      omega arith

  phases_size : (i here : ℕ) (fs : List Phase) → sum_by location_records (flat_map (λ ls. ls) (print_phases o s all i here fs)) ≤ 2 * sum_by phase_records fs
  phases_size i here [] = omega arith
  phases_size i here (f ∷ fs) =
      let a = sum_by-append location_records (print_phase o s all i here f) (flat_map (λ ls. ls) (print_phases o s all (suc i) (here + locations_for (words_of f)) fs)) in
      let b = phase_size i here f in
      let c = phases_size (suc i) (here + locations_for (words_of f)) fs in
      let d = sum_by-cons phase_records f fs in
      omega arith

stations_size : (o : Order) (sts : List Station) → sum_by automaton_records (map (print_station o) sts) ≤ 2 * sum_by station_records sts
stations_size o [] = omega arith
stations_size o (st ∷ sts) =
    let a = sum_by-cons automaton_records (print_station o st) (map (print_station o) sts) in
    let b = sum_by-cons station_records st sts in
    let c = phases_size o (station_scale st) st.phases 0 0 st.phases in
    let d = stations_size o sts in
    omega arith

all_lawful : (o : Order) (L : ℕ) (sts : List Station) → AllByRecursion (LawfulStation o) sts → AllByRecursion (StationLaw L) sts → AllByRecursion LawfulAutomaton (map (print_station o) sts)
all_lawful o L [] a b = tt
all_lawful o L (st ∷ sts) a b = (station_lawful o L st a.0 b.0, all_lawful o L sts a.1 b.1)

pub printed_is_lawful : PrintedIsLawful
printed_is_lawful m lawful =
    let many = length-map m.stations (print_station m.order) in
    record {
      some_automaton = subst (λ n. 1 ≤ n) (sym many) lawful.some_station;
      few_automata = subst (λ n. n ≤ 16) (sym many) lawful.few_stations;
      scale_fits = subst (λ n. n ≤ 1000000) (sym (printed_scale m lawful)) lawful.scale_fits;
      automata_fit = all_lawful m.order (model_scale m) m.stations lawful.stations_fit (net_law m lawful).stations_fit;
      paths_fit = subst (λ n. AllByRecursion (LawfulPath n) m.paths) (sym many) lawful.paths_fit;
      few_records = let a = stations_size m.order m.stations in let b = lawful.few_records in omega arith;
    }
