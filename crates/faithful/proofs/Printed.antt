-- A printed automaton means what its model's station means.
use Rattle.std.proofs.Common.{◌≡◌, ℕ, zero, suc, ◌+◌, ◌*◌, ◌<◌, ◌≤◌, Bool, true, false, cond, ◌&&◌, List, [], ◌∷◌, ◌++◌, map, length, drop, Some, None, Option, sym, refl, ap, ◌∙◌, subst, subst₂, arith, length-drop}
use native.Mathlib.Nat.{one-le-mul}
use Rattle.std.specs.List.{AllByRecursion}
use Rattle.std.proofs.ByRecursion.{All-get_or}
use Rattle.std.proofs.lemmas.Bool.{and_right}
use Rattle.semantics.specs.Times.{Fraction, fraction, Window, Order, inside, counts, itself}
use Rattle.semantics.specs.Trees.{Word, Edge, Phase, endless, lasting, lifetime_of, words_of, edges_of, next_of, phase_at, blank_phase, Station, Transition, location_at}
use Rattle.semantics.specs.Scales.{life_ticks, station_scale}
use Rattle.semantics.specs.Fits.{word_fits, edge_fits, transition_fits, within_bound, first}
use Rattle.semantics.specs.Machine.{move_to}
use Rattle.semantics.specs.Meanings.{stance_number, phase_of, sent_of, move_with, first_move, model_stance, station_meaning, move_among, location_stance, automaton_meaning}
use Rattle.semantics.specs.Print.{from_on, locations_for, place_of, print_edge, print_sending, print_moves, print_quiet, print_station}
use Rattle.semantics.specs.LawfulModels.{NextHere}
use Rattle.faithful.proofs.Twins.{Both, SameMove, Alike}
use Rattle.faithful.proofs.Ticks.{LifeInTicks, Shows, window_same, within_life}
use Rattle.faithful.proofs.Law.{EdgeLaw, PhaseLaw, StationLaw}
use Rattle.faithful.proofs.Locations.{width, drop_some, more_words, busy_location, quiet_at, busy_at}

-- the stance s of the model is the location t
pub record StandsFor (st : Station) (s t : ℕ) : Type 0 where
  pub i : ℕ
  pub j : ℕ
  pub here : i < length st.phases
  pub fewer : j < width (phase_at st.phases i)
  pub model : s ≡ stance_number i j
  pub printed : t ≡ place_of st.phases i + j

pub width_some : (ws : List Word) → 0 < locations_for ws
width_some [] = omega arith
width_some (w ∷ ws) = omega arith

pub width_few : (ws : List Word) → length ws ≤ 4 → locations_for ws ≤ 4
width_few [] h = omega arith
width_few (w ∷ ws) h = omega arith

pub quiet_stands : (st : Station) (i : ℕ) → i < length st.phases → StandsFor st (stance_number i 0) (place_of st.phases i)
quiet_stands st i l = record { i = i; j = 0; here = l; fewer = width_some (words_of (phase_at st.phases i)); model = refl; printed = omega arith }

-- edges as hearing transitions fit alike
pub fits_same : (o : Order) (s : ℕ) (all : List Phase) (life : Option Fraction) → LifeInTicks s life → (n : ℕ) (e : Edge) → EdgeLaw s n e →
    (age clock : Fraction) → Shows s age clock → (p v : ℕ) → edge_fits o life p v age e ≡ transition_fits p v clock (print_edge o s all life e)
fits_same o s all life lf n e law age clock shows p v =
    ap (λ b. word_fits e.port e.lowest e.highest p v && b) (window_same s age clock shows o life lf e.window law.low_fits law.high_fits)

move_past : (o : Order) (s : ℕ) (all : List Phase) (life : Option Fraction) (es : List Edge) (ms : List Transition) → move_among (map (print_edge o s all life) es ++ ms) ≡ move_among ms
move_past o s all life [] ms = refl
move_past o s all life (e ∷ es) ms = move_past o s all life es ms

deaf_moves : (p v : ℕ) (t : Fraction) (here next : ℕ) (b : Option ℕ) (ws : List Word) → first (transition_fits p v t) (λ x. x.goal) (print_moves here next b ws) ≡ None
deaf_moves p v t here next None ws = refl
deaf_moves p v t here next (Some b) [] = refl
deaf_moves p v t here next (Some b) (w ∷ []) = refl
deaf_moves p v t here next (Some b) (w ∷ x ∷ xs) = refl

module _ (o : Order) (L : ℕ) (st : Station) (law : StationLaw L st) where
  pub phase_law : (i : ℕ) → i < length st.phases → PhaseLaw (station_scale st) (length st.phases) (phase_at st.phases i)
  phase_law i l = All-get_or _ st.phases i blank_phase l law.phases_fit

  hears_same : (life : Option Fraction) → LifeInTicks (station_scale st) life → (ms : List Transition) (p v : ℕ) (age clock : Fraction) → Shows (station_scale st) age clock →
      first (transition_fits p v clock) (λ x. x.goal) ms ≡ None →
      (es : List Edge) → AllByRecursion (EdgeLaw (station_scale st) (length st.phases)) es →
      Both (StandsFor st) (first (edge_fits o life p v age) (λ x. stance_number x.goal 0) es)
      (first (transition_fits p v clock) (λ x. x.goal) (map (print_edge o (station_scale st) st.phases life) es ++ ms))
  hears_same life lf ms p v age clock shows none [] laws = subst (Both (StandsFor st) None) (sym none) tt
  hears_same life lf ms p v age clock shows none (e ∷ es) laws =
      let same = fits_same o (station_scale st) st.phases life lf (length st.phases) e laws.0 age clock shows p v in
      let rest = hears_same life lf ms p v age clock shows none es laws.1 in
      subst
      (λ b. Both (StandsFor st) (cond (edge_fits o life p v age e) (Some (stance_number e.goal 0)) (first (edge_fits o life p v age) (λ x. stance_number x.goal 0) es))
      (cond b (Some (place_of st.phases e.goal)) (first (transition_fits p v clock) (λ x. x.goal) (map (print_edge o (station_scale st) st.phases life) es ++ ms))))
      same
      (elim (edge_fits o life p v age e) as
      (λ b. Both (StandsFor st) (cond b (Some (stance_number e.goal 0)) (first (edge_fits o life p v age) (λ x. stance_number x.goal 0) es))
      (cond b (Some (place_of st.phases e.goal)) (first (transition_fits p v clock) (λ x. x.goal) (map (print_edge o (station_scale st) st.phases life) es ++ ms))))
      [ true ↦ quiet_stands st e.goal laws.0.goal_here | false ↦ rest ])

  -- past the lifetime no edge fits
  silent_past : (life : Option Fraction) → LifeInTicks (station_scale st) life → (p v : ℕ) (age clock : Fraction) → Shows (station_scale st) age clock →
      within_bound (life_ticks (station_scale st) life) clock ≡ false →
      (es : List Edge) → first (edge_fits o life p v age) (λ x. stance_number x.goal 0) es ≡ None
  silent_past life lf p v age clock shows past [] = refl
  silent_past life lf p v age clock shows past (e ∷ es) =
      let out : counts o life age ≡ false = go (counts o life age) refl in
      let no-fit : edge_fits o life p v age e ≡ false = and_right (word_fits e.port e.lowest e.highest p v) _ (and_right (inside itself e.window age) _ out) in
      ap (λ b. cond b (Some (stance_number e.goal 0)) (first (edge_fits o life p v age) (λ x. stance_number x.goal 0) es)) no-fit ∙ silent_past life lf p v age clock shows past es
    where
      go : (b : Bool) → counts o life age ≡ b → counts o life age ≡ false
      go true h = absurd (let k = within_life (station_scale st) age clock shows o life lf h in let z : ◌≡◌ {A = ℕ} 0 1 = cc in omega arith)
      go false h = h

  quiet_moves : (i : ℕ) → i < length st.phases → (n : ℕ) → n ≡ place_of st.phases i + 0 → (f : Phase) →
      words_of f ≡ words_of (phase_at st.phases i) → NextHere (length st.phases) f →
      Both (SameMove (StandsFor st)) (first_move i f)
      (move_among (print_moves n (place_of st.phases (next_of f)) (life_ticks (station_scale st) (lifetime_of f)) (words_of f)))
  quiet_moves i l n en (endless edges) is nl = tt
  quiet_moves i l n en (lasting t [] next edges) is nl = (refl, quiet_stands st next nl)
  quiet_moves i l n en (lasting t (w ∷ []) next edges) is nl = (refl, quiet_stands st next nl)
  quiet_moves i l n en (lasting t (w ∷ x ∷ xs) next edges) is nl =
      (refl, record { i = i; j = 1; here = l; fewer = subst (λ ys. 1 < locations_for ys) is (omega arith); model = refl; printed = omega arith })

  quiet_hears : (i n : ℕ) → i < length st.phases → (p v e q : ℕ) → 1 ≤ q →
      Both (StandsFor st) ((model_stance o (station_scale st) st.phases i 0).hears p v e q) ((location_stance (print_quiet o (station_scale st) st.phases i n (phase_at st.phases i))).hears p v e q)
  quiet_hears i n l p v e q some = go (within_bound (life_ticks (station_scale st) life) clock) refl
    where
      life : Option Fraction
      life = lifetime_of (phase_at st.phases i)

      age : Fraction
      age = fraction e (q * station_scale st)

      clock : Fraction
      clock = fraction e q

      shows : Shows (station_scale st) age clock
      shows = record { scale_some = law.some_scale; age_some = one-le-mul some law.some_scale; clock_some = some; equal = omega arith }

      told : List Transition
      told = map (print_edge o (station_scale st) st.phases life) (edges_of (phase_at st.phases i)) ++ print_moves n (place_of st.phases (next_of (phase_at st.phases i))) (life_ticks (station_scale st) life) (words_of (phase_at st.phases i))

      go : (b : Bool) → within_bound (life_ticks (station_scale st) life) clock ≡ b →
          Both (StandsFor st) (first (edge_fits o life p v age) (λ x. stance_number x.goal 0) (edges_of (phase_at st.phases i))) (cond b (first (transition_fits p v clock) (λ x. x.goal) told) None)
      go true h =
          hears_same life (phase_law i l).life_fits _ p v age clock shows
          (deaf_moves p v clock n (place_of st.phases (next_of (phase_at st.phases i))) (life_ticks (station_scale st) life) (words_of (phase_at st.phases i)))
          (edges_of (phase_at st.phases i)) (phase_law i l).edges_fit
      go false h = subst (λ x. Both (StandsFor st) x None) (sym (silent_past life (phase_law i l).life_fits p v age clock shows h (edges_of (phase_at st.phases i)))) tt

  quiet_alike : (i n : ℕ) → i < length st.phases → n ≡ place_of st.phases i + 0 →
      Alike (StandsFor st) (model_stance o (station_scale st) st.phases i 0) (location_stance (print_quiet o (station_scale st) st.phases i n (phase_at st.phases i)))
  quiet_alike i n l en = record {
    phase = refl;
    sent = refl;
    busy = refl;
    lifetime = refl;
    move =
        subst (Both (SameMove (StandsFor st)) (first_move i (phase_at st.phases i)))
        (sym (move_past o (station_scale st) st.phases (lifetime_of (phase_at st.phases i)) (edges_of (phase_at st.phases i)) _))
        (quiet_moves i l n en (phase_at st.phases i) refl (phase_law i l).next_here);
    hears = quiet_hears i n l;
  }

  -- a phase with words has a next one
  pub words_next : (n : ℕ) (f : Phase) → NextHere n f → (words_of f ≡ [] → ⊥) → next_of f < n
  words_next n (endless edges) here some = absurd (some refl)
  words_next n (lasting t words next edges) here some = here

  pub drop_words : (ws : List Word) (j : ℕ) (w : Word) (rest : List Word) → drop j ws ≡ w ∷ rest → ws ≡ [] → ⊥
  drop_words ws zero w rest d e = let z : ◌≡◌ {A = ℕ} 0 1 = cc in omega arith
  drop_words [] (suc j) w rest d e = let z : ◌≡◌ {A = ℕ} 0 1 = cc in omega arith
  drop_words (x ∷ ws) (suc j) w rest d e = let z : ◌≡◌ {A = ℕ} 0 1 = cc in omega arith

  pub drop_width : (ws : List Word) (j : ℕ) (w : Word) (rest : List Word) → drop j ws ≡ w ∷ rest → length rest + suc j ≤ locations_for ws
  drop_width [] j w rest d = absurd (drop_words [] j w rest d refl)
  drop_width (x ∷ ws) j w rest d =
      let m = ap length d in
      let k = length-drop j (x ∷ ws) in
      omega arith

  busy_next : (i : ℕ) → i < length st.phases → (j : ℕ) (w : Word) (rest : List Word) → drop j (words_of (phase_at st.phases i)) ≡ w ∷ rest → next_of (phase_at st.phases i) < length st.phases
  busy_next i l j w rest d =
      words_next (length st.phases) (phase_at st.phases i) (phase_law i l).next_here (drop_words (words_of (phase_at st.phases i)) j w rest d)

  busy_moves : (i : ℕ) → i < length st.phases → (j n : ℕ) → n ≡ place_of st.phases i + suc j → (w : Word) (rest : List Word) → drop (suc j) (words_of (phase_at st.phases i)) ≡ w ∷ rest →
      SameMove (StandsFor st) (move_with i (suc j) (next_of (phase_at st.phases i)) (w ∷ rest))
      (move_to (Some w) (print_sending n (place_of st.phases (next_of (phase_at st.phases i))) (from_on 0) w rest).goal)
  busy_moves i l j n en w [] d = (refl, quiet_stands st (next_of (phase_at st.phases i)) (busy_next i l (suc j) w [] d))
  busy_moves i l j n en w (x ∷ xs) d =
      let wd = drop_width (words_of (phase_at st.phases i)) (suc j) w (x ∷ xs) d in
      (refl, record { i = i; j = suc (suc j); here = l; fewer = omega arith; model = refl; printed = omega arith })

  sends_word : (n next : ℕ) (g : Window ℕ) (w : Word) (rest : List Word) → move_among (print_sending n next g w rest ∷ []) ≡ Some (move_to (Some w) (print_sending n next g w rest).goal)
  sends_word n next g w [] = refl
  sends_word n next g w (x ∷ xs) = refl

  sends_deaf : (p v : ℕ) (t : Fraction) (n next : ℕ) (g : Window ℕ) (w : Word) (rest : List Word) → first (transition_fits p v t) (λ x. x.goal) (print_sending n next g w rest ∷ []) ≡ None
  sends_deaf p v t n next g w [] = refl
  sends_deaf p v t n next g w (x ∷ xs) = refl

  busy_alike : (i : ℕ) → i < length st.phases → (j n : ℕ) → n ≡ place_of st.phases i + suc j → (w : Word) (rest : List Word) → drop (suc j) (words_of (phase_at st.phases i)) ≡ w ∷ rest →
      Alike (StandsFor st) (model_stance o (station_scale st) st.phases i (suc j)) (location_stance (busy_location i (place_of st.phases (next_of (phase_at st.phases i))) n (suc j) w rest))
  busy_alike i l j n en w rest d = record {
    phase = refl;
    sent = refl;
    busy = refl;
    lifetime = refl;
    move =
        subst₂ (λ ys m. Both (SameMove (StandsFor st)) (Some (move_with i (suc j) (next_of (phase_at st.phases i)) ys)) m)
        (sym d) (sym (sends_word n (place_of st.phases (next_of (phase_at st.phases i))) (from_on 0) w rest))
        (busy_moves i l j n en w rest d);
    hears = λ p v e q some.
        subst (λ x. Both (StandsFor st) None x) (sym (sends_deaf p v (fraction e q) n (place_of st.phases (next_of (phase_at st.phases i))) (from_on 0) w rest)) tt;
  }

  pub alike_at : (i j : ℕ) → i < length st.phases → j < width (phase_at st.phases i) → (n : ℕ) → n ≡ place_of st.phases i + j →
      Alike (StandsFor st) (model_stance o (station_scale st) st.phases i j) (location_stance (location_at (print_station o st) n))
  alike_at i zero l m n en = subst (λ x. Alike (StandsFor st) (model_stance o (station_scale st) st.phases i 0) (location_stance x)) (sym (quiet_at o st i l n en)) (quiet_alike i n l en)
  alike_at i (suc j) l m n en =
      let more : suc j < length (words_of (phase_at st.phases i)) = more_words (words_of (phase_at st.phases i)) j m in
      let d = drop_some (words_of (phase_at st.phases i)) (suc j) more in
      subst (λ x. Alike (StandsFor st) (model_stance o (station_scale st) st.phases i (suc j)) (location_stance x)) (sym (busy_at o st i l j n d.0 d.1 m d.2 en))
      (busy_alike i l j n en d.0 d.1 d.2)

  pub stands_numbers : (s t : ℕ) (stands : StandsFor st s t) → (stands.i ≡ phase_of s) × (stands.j ≡ sent_of s)
  stands_numbers s t stands =
      let few = width_few (words_of (phase_at st.phases stands.i)) (phase_law stands.i stands.here).few_words in
      let less : stands.j < 4 = omega arith in
      (omega arith, omega arith)

  pub meaning_alike : (s t : ℕ) → StandsFor st s t → Alike (StandsFor st) ((station_meaning o st).stance s) ((automaton_meaning (print_station o st)).stance t)
  meaning_alike s t stands =
      let numbers = stands_numbers s t stands in
      subst₂ (λ a b. Alike (StandsFor st) (model_stance o (station_scale st) st.phases a b) (location_stance (location_at (print_station o st) t))) numbers.0 numbers.1
      (alike_at stands.i stands.j stands.here stands.fewer t stands.printed)
