-- A printed automaton goes as its model's station goes, and the other way round.
use Rattle.std.proofs.Common.{◌≡◌, ℕ, zero, suc, ◌+◌, ◌*◌, ◌/◌, ◌<◌, ◌≤◌, Bool, true, false, ◌&&◌, eqb, ltb, ◌⊎◌, List, [], ◌∷◌, ◌++◌, map, length, drop, Some, None, Option, sym, refl, ap, ◌∙◌, subst, inl, inr, arith}
use Prim.Native.Nat.{◌∣◌}
use native.Mathlib.Nat.{one-le-mul, div-mul_cancel}
use Rattle.std.specs.List.{AllByRecursion}
use Rattle.std.proofs.lemmas.Bool.{le-leb, lt-ltb, ne_eqb, eqb-true}
use Rattle.semantics.specs.Times.{Fraction, Proper, Order, inside, whole, plus, over, zero_time}
use Rattle.semantics.specs.Trees.{Word, Edge, Phase, endless, lasting, lifetime_of, words_of, edges_of, next_of, phase_at, Station, Transition, location_at}
use Rattle.semantics.specs.Scales.{ticks, life_ticks, station_scale}
use Rattle.semantics.specs.Fits.{edge_fits, transition_fits, within_bound}
use Rattle.semantics.specs.Runs.{Rules}
use Rattle.semantics.specs.ModelRules.{Any, ModelState, fresh, lasts, is_over, SendsNext, Leaves, model_rules}
use Rattle.semantics.specs.AutomatonRules.{AutomatonState, at_bound, MovesWith, through, automaton_rules}
use Rattle.semantics.specs.Print.{from_on, place_of, print_edge, print_sending, print_move, print_moves, print_quiet, print_station}
use Rattle.semantics.specs.LawfulModels.{NextHere}
use Rattle.semantics.proofs.Options.{some_not_none}
use Rattle.semantics.proofs.Simulation.{Follows}
use Rattle.faithful.proofs.Ticks.{LifeInTicks, Shows, at_most_same, at_same}
use Rattle.faithful.proofs.Law.{EdgeLaw, PhaseLaw, StationLaw}
use Rattle.faithful.proofs.Locations.{width, drop_some, more_words, busy_location, quiet_at, busy_at}
use Rattle.faithful.proofs.Printed.{fits_same, drop_words, drop_width, phase_law, width_some}

-- the clock goes on showing the age over a delay
later_equal : (cu cl au al du dl f s : ℕ) → cu * al ≡ au * s * cl →
    (cu * (dl * f) + du * cl) * (al * (dl * (f * s))) ≡ (au * (dl * (f * s)) + du * al) * s * (cl * (dl * f))
later_equal cu cl au al du dl f s e = let m = ap (λ x. x * (dl * f * dl * f * s)) e in omega arith

pub shows_later : (s L : ℕ) (age clock d : Fraction) → 1 ≤ L → s ∣ L → 1 ≤ L / s → 1 ≤ d.denominator → Shows s age clock → Shows s (plus age (over d L)) (plus clock (over d (L / s)))
shows_later s L age clock d some divides factor good shows = record {
  scale_some = shows.scale_some;
  age_some = one-le-mul shows.age_some (one-le-mul good some);
  clock_some = one-le-mul shows.clock_some (one-le-mul good factor);
  equal =
      subst (λ k. (clock.numerator * (d.denominator * (L / s)) + d.numerator * clock.denominator) * (age.denominator * (d.denominator * k)) ≡ (age.numerator * (d.denominator * k) + d.numerator * age.denominator) * s * (clock.denominator * (d.denominator * (L / s))))
      (div-mul_cancel s divides)
      (later_equal clock.numerator clock.denominator age.numerator age.denominator d.numerator d.denominator (L / s) s shows.equal);
}

-- the place x of the model's station and the site y of its automaton
pub record Matches (st : Station) (x : ModelState) (y : AutomatonState) : Type 0 where
  pub here : x.phase < length st.phases
  pub fewer : x.sent < width (phase_at st.phases x.phase)
  pub location : y.location ≡ place_of st.phases x.phase + x.sent
  pub shows : Shows (station_scale st) x.age y.clock

any_skip : {A B : Type 0} (Q : B → Type 0) (f : A → B) (es : List A) (ms : List B) → Any Q ms → Any Q (map f es ++ ms)
any_skip Q f [] ms h = h
any_skip Q f (e ∷ es) ms h = inr (any_skip Q f es ms h)

any_back : {A B : Type 0} (Q : B → Type 0) (f : A → B) → ((e : A) → Q (f e) → ⊥) → (es : List A) (ms : List B) → Any Q (map f es ++ ms) → Any Q ms
any_back Q f out [] ms h = h
any_back Q f out (e ∷ es) ms (inl h) = absurd (out e h)
any_back Q f out (e ∷ es) ms (inr h) = any_back Q f out es ms h

pub moves_deaf : (p v : ℕ) (t : Fraction) (here next : ℕ) (b : Option ℕ) (ws : List Word) → AllByRecursion (λ x. transition_fits p v t x ≡ false) (print_moves here next b ws)
moves_deaf p v t here next None ws = tt
moves_deaf p v t here next (Some b) [] = (refl, tt)
moves_deaf p v t here next (Some b) (w ∷ []) = (refl, tt)
moves_deaf p v t here next (Some b) (w ∷ x ∷ xs) = (refl, tt)

pub none_fits : {A : Type 0} (fits : A → Bool) (Q : A → Type 0) (ms : List A) → AllByRecursion (λ x. fits x ≡ false) ms → Any (λ x. (fits x ≡ true) × Q x) ms → ⊥
none_fits fits Q [] e h = h
none_fits fits Q (x ∷ xs) e (inl h) = let a = e.0 in let b = h.0 in let z : ◌≡◌ {A = ℕ} 0 1 = cc in omega arith
none_fits fits Q (x ∷ xs) e (inr h) = none_fits fits Q xs e.1 h

module _ (o : Order) (L : ℕ) (st : Station) (some : 1 ≤ L) (factor : 1 ≤ L / station_scale st) (law : StationLaw L st) where
  shows_zero : Shows (station_scale st) zero_time zero_time
  shows_zero = record { scale_some = law.some_scale; age_some = omega arith; clock_some = omega arith; equal = omega arith }

  fresh_matches : (i n : ℕ) → i < length st.phases → n ≡ place_of st.phases i → Matches st (fresh i) (record { location = n; clock = zero_time })
  fresh_matches i n l e = record { here = l; fewer = width_some (words_of (phase_at st.phases i)); location = omega arith; shows = shows_zero }

  -- the location that a site of the automaton is at
  pub data View (x : ModelState) (y : AutomatonState) : Type 0 where
    at_rest : x.sent ≡ 0 → location_at (print_station o st) y.location ≡ print_quiet o (station_scale st) st.phases x.phase y.location (phase_at st.phases x.phase) → View x y
    at_work : (j : ℕ) (w : Word) (rest : List Word) → x.sent ≡ suc j → drop x.sent (words_of (phase_at st.phases x.phase)) ≡ w ∷ rest →
        location_at (print_station o st) y.location ≡ busy_location x.phase (place_of st.phases (next_of (phase_at st.phases x.phase))) y.location x.sent w rest → View x y

  view : (x : ModelState) (y : AutomatonState) → Matches st x y → View x y
  view x y m = go x.sent refl
    where
      go : (k : ℕ) → x.sent ≡ k → View x y
      go zero e = at_rest e (quiet_at o st x.phase m.here y.location (m.location ∙ ap (λ n. place_of st.phases x.phase + n) e))
      go (suc j) e =
          let wide : suc j < width (phase_at st.phases x.phase) = subst (λ n. n < width (phase_at st.phases x.phase)) e m.fewer in
          let d = drop_some (words_of (phase_at st.phases x.phase)) (suc j) (more_words (words_of (phase_at st.phases x.phase)) j wide) in
          at_work j d.0 d.1 e (ap (λ n. drop n (words_of (phase_at st.phases x.phase))) e ∙ d.2)
          (busy_at o st x.phase m.here j y.location d.0 d.1 wide d.2 (m.location ∙ ap (λ n. place_of st.phases x.phase + n) e) ∙
          ap (λ n. busy_location x.phase (place_of st.phases (next_of (phase_at st.phases x.phase))) y.location n d.0 d.1) (sym e))

  abbrev M : Rules ModelState
  M = model_rules o L st.phases

  abbrev P : Rules AutomatonState
  P = automaton_rules (L / station_scale st) (print_station o st)

  busy_suits : (x : ModelState) (y : AutomatonState) → Matches st x y → M.busy x ≡ P.busy y
  busy_suits x y m = go (view x y m)
    where
      go : View x y → M.busy x ≡ P.busy y
      go (at_rest e h) = ap (ltb 0) e ∙ sym (ap (λ l. l.committed) h)
      go (at_work j w rest e d h) = lt-ltb 0 x.sent (omega arith) ∙ sym (ap (λ l. l.committed) h)

  phase_suits : (x : ModelState) (y : AutomatonState) → Matches st x y → M.phase x ≡ P.phase y
  phase_suits x y m = go (view x y m)
    where
      go : View x y → M.phase x ≡ P.phase y
      go (at_rest e h) = sym (ap (λ l. l.phase) h)
      go (at_work j w rest e d h) = sym (ap (λ l. l.phase) h)

  pub over_same : (life : Option Fraction) → LifeInTicks (station_scale st) life → (age clock : Fraction) → Shows (station_scale st) age clock → is_over life age ≡ at_bound (life_ticks (station_scale st) life) clock
  over_same None lf age clock shows = refl
  over_same (Some l) lf age clock shows = at_same (station_scale st) age clock shows l lf

  pub lasts_same : (life : Option Fraction) → LifeInTicks (station_scale st) life → (age clock : Fraction) → Shows (station_scale st) age clock → lasts life age ≡ within_bound (life_ticks (station_scale st) life) clock
  lasts_same None lf age clock shows = refl
  lasts_same (Some l) lf age clock shows = at_most_same (station_scale st) age clock shows l lf

  abbrev law_at : (x : ModelState) (y : AutomatonState) → Matches st x y → PhaseLaw (station_scale st) (length st.phases) (phase_at st.phases x.phase)
  law_at x y m = phase_law o L st law x.phase m.here

  due_suits : (x : ModelState) (y : AutomatonState) → Matches st x y → M.due x ≡ P.due y
  due_suits x y m = go (view x y m)
    where
      go : View x y → M.due x ≡ P.due y
      go (at_rest e h) =
          ap (λ n. eqb n 0 && is_over (lifetime_of (phase_at st.phases x.phase)) x.age) e ∙
          over_same (lifetime_of (phase_at st.phases x.phase)) (law_at x y m).life_fits x.age y.clock m.shows ∙
          sym (ap (λ l. at_bound l.bound y.clock) h)
      go (at_work j w rest e d h) =
          ap (λ b. b && is_over (lifetime_of (phase_at st.phases x.phase)) x.age) (ne_eqb x.sent 0 (λ z. omega arith)) ∙
          sym (ap (λ l. at_bound l.bound y.clock) h)

  later_suits : (d : Fraction) (x : ModelState) (y : AutomatonState) → 1 ≤ d.denominator → Matches st x y → Matches st (M.later d x) (P.later d y)
  later_suits d x y good m = record {
    here = m.here;
    fewer = m.fewer;
    location = m.location;
    shows = shows_later (station_scale st) L x.age y.clock d some law.divides factor good m.shows;
  }

  wait_suits : (d : Fraction) (x : ModelState) (y : AutomatonState) → 1 ≤ d.denominator → M.busy x ≡ false → Matches st x y → M.may_wait d x ≡ P.may_wait d y
  wait_suits d x y good quiet m = go (view x y m)
    where
      go : View x y → M.may_wait d x ≡ P.may_wait d y
      go (at_rest e h) =
          lasts_same (lifetime_of (phase_at st.phases x.phase)) (law_at x y m).life_fits _ _ (later_suits d x y good m).shows ∙
          sym (ap (λ l. within_bound l.bound (plus y.clock (over d (L / station_scale st)))) h)
      go (at_work j w rest e f h) = absurd (let b = lt-ltb 0 x.sent (omega arith) in let z : ◌≡◌ {A = ℕ} 0 1 = cc in omega arith)

  hears_forward : (life : Option Fraction) → LifeInTicks (station_scale st) life → (p v : ℕ) (x x' : ModelState) (y : AutomatonState) → Shows (station_scale st) x.age y.clock → (ms : List Transition) →
      (es : List Edge) → AllByRecursion (EdgeLaw (station_scale st) (length st.phases)) es →
      Any (λ e. (edge_fits o life p v x.age e ≡ true) × (x' ≡ fresh e.goal)) es →
      (y' : AutomatonState) × (Any (λ t. (transition_fits p v y.clock t ≡ true) × (y' ≡ through t y)) (map (print_edge o (station_scale st) st.phases life) es ++ ms) × Matches st x' y')
  hears_forward life lf p v x x' y shows ms [] laws h = absurd h
  hears_forward life lf p v x x' y shows ms (e ∷ es) laws (inl h) = (
    through (print_edge o (station_scale st) st.phases life e) y,
    (
      inl (sym (fits_same o (station_scale st) st.phases life lf (length st.phases) e laws.0 x.age y.clock shows p v) ∙ h.0, refl),
      subst (λ z. Matches st z (record { location = place_of st.phases e.goal; clock = zero_time })) (sym h.1) (fresh_matches e.goal _ laws.0.goal_here refl),
    ),
  )
  hears_forward life lf p v x x' y shows ms (e ∷ es) laws (inr h) =
      let r = hears_forward life lf p v x x' y shows ms es laws.1 h in
      (r.0, (inr r.1.0, r.1.1))

  hears_back : (life : Option Fraction) → LifeInTicks (station_scale st) life → (p v : ℕ) (x : ModelState) (y y' : AutomatonState) → Shows (station_scale st) x.age y.clock → (ms : List Transition) →
      AllByRecursion (λ t. transition_fits p v y.clock t ≡ false) ms →
      (es : List Edge) → AllByRecursion (EdgeLaw (station_scale st) (length st.phases)) es →
      Any (λ t. (transition_fits p v y.clock t ≡ true) × (y' ≡ through t y)) (map (print_edge o (station_scale st) st.phases life) es ++ ms) →
      (x' : ModelState) × (Any (λ e. (edge_fits o life p v x.age e ≡ true) × (x' ≡ fresh e.goal)) es × Matches st x' y')
  hears_back life lf p v x y y' shows ms deaf [] laws h = absurd (none_fits (transition_fits p v y.clock) (λ t. y' ≡ through t y) ms deaf h)
  hears_back life lf p v x y y' shows ms deaf (e ∷ es) laws (inl h) = (
    fresh e.goal,
    (
      inl (fits_same o (station_scale st) st.phases life lf (length st.phases) e laws.0 x.age y.clock shows p v ∙ h.0, refl),
      subst (λ z. Matches st (fresh e.goal) z) (sym h.1) (fresh_matches e.goal _ laws.0.goal_here refl),
    ),
  )
  hears_back life lf p v x y y' shows ms deaf (e ∷ es) laws (inr h) =
      let r = hears_back life lf p v x y y' shows ms deaf es laws.1 h in
      (r.0, (inr r.1.0, r.1.1))

  deaf_forward : (life : Option Fraction) → LifeInTicks (station_scale st) life → (p v : ℕ) (age clock : Fraction) → Shows (station_scale st) age clock → (ms : List Transition) →
      AllByRecursion (λ t. transition_fits p v clock t ≡ false) ms → (es : List Edge) → AllByRecursion (EdgeLaw (station_scale st) (length st.phases)) es →
      AllByRecursion (λ e. edge_fits o life p v age e ≡ false) es → AllByRecursion (λ t. transition_fits p v clock t ≡ false) (map (print_edge o (station_scale st) st.phases life) es ++ ms)
  deaf_forward life lf p v age clock shows ms deaf [] laws h = deaf
  deaf_forward life lf p v age clock shows ms deaf (e ∷ es) laws h = (
    sym (fits_same o (station_scale st) st.phases life lf (length st.phases) e laws.0 age clock shows p v) ∙ h.0,
    deaf_forward life lf p v age clock shows ms deaf es laws.1 h.1,
  )

  deaf_back : (life : Option Fraction) → LifeInTicks (station_scale st) life → (p v : ℕ) (age clock : Fraction) → Shows (station_scale st) age clock → (ms : List Transition) →
      (es : List Edge) → AllByRecursion (EdgeLaw (station_scale st) (length st.phases)) es →
      AllByRecursion (λ t. transition_fits p v clock t ≡ false) (map (print_edge o (station_scale st) st.phases life) es ++ ms) → AllByRecursion (λ e. edge_fits o life p v age e ≡ false) es
  deaf_back life lf p v age clock shows ms [] laws h = tt
  deaf_back life lf p v age clock shows ms (e ∷ es) laws h = (
    fits_same o (station_scale st) st.phases life lf (length st.phases) e laws.0 age clock shows p v ∙ h.0,
    deaf_back life lf p v age clock shows ms es laws.1 h.1,
  )

  -- the move, by the words still to be sent
  abbrev Takes : AutomatonState → AutomatonState → Option Word → Transition → Type 0
  Takes y y' w t = MovesWith t.label w × (inside whole t.guard y.clock ≡ true) × (y' ≡ through t y)

  leave_forward : (next b : ℕ) (x x' : ModelState) (y : AutomatonState) → Matches st x y → (ws : List Word) → drop x.sent (words_of (phase_at st.phases x.phase)) ≡ ws →
      next < length st.phases → inside whole (from_on b) y.clock ≡ true → (w : Option Word) → SendsNext x next ws w x' →
      (y' : AutomatonState) × (Any (Takes y y' w) (print_move y.location (place_of st.phases next) (from_on b) ws ∷ []) × Matches st x' y')
  leave_forward next b x x' y m [] d l g w h = (
    record { location = place_of st.phases next; clock = zero_time },
    (inl (h.0, g, refl), subst (λ z. Matches st z (record { location = place_of st.phases next; clock = zero_time })) (sym h.1) (fresh_matches next _ l refl)),
  )
  leave_forward next b x x' y m (a ∷ []) d l g w h = (
    record { location = place_of st.phases next; clock = zero_time },
    (inl (h.0, g, refl), subst (λ z. Matches st z (record { location = place_of st.phases next; clock = zero_time })) (sym h.1) (fresh_matches next _ l refl)),
  )
  leave_forward next b x x' y m (a ∷ c ∷ rest) d l g w h =
      let wd = drop_width o L st law (words_of (phase_at st.phases x.phase)) x.sent a (c ∷ rest) d in
      let at = m.location in (
        record { location = suc y.location; clock = y.clock },
        (
          inl (h.0, g, refl),
          subst (λ z. Matches st z (record { location = suc y.location; clock = y.clock })) (sym h.1)
              (record { here = m.here; fewer = omega arith; location = omega arith; shows = m.shows }),
        ),
      )

  leave_back : (next b : ℕ) (x : ModelState) (y y' : AutomatonState) → Matches st x y → (ws : List Word) → drop x.sent (words_of (phase_at st.phases x.phase)) ≡ ws →
      next < length st.phases → (w : Option Word) → Any (Takes y y' w) (print_move y.location (place_of st.phases next) (from_on b) ws ∷ []) →
      (x' : ModelState) × (SendsNext x next ws w x' × Matches st x' y')
  leave_back next b x y y' m [] d l w (inl h) = (fresh next, ((h.0, refl), subst (Matches st (fresh next)) (sym h.2) (fresh_matches next _ l refl)))
  leave_back next b x y y' m [] d l w (inr h) = absurd h
  leave_back next b x y y' m (a ∷ []) d l w (inl h) = (fresh next, ((h.0, refl), subst (Matches st (fresh next)) (sym h.2) (fresh_matches next _ l refl)))
  leave_back next b x y y' m (a ∷ []) d l w (inr h) = absurd h
  leave_back next b x y y' m (a ∷ c ∷ rest) d l w (inl h) =
      let wd = drop_width o L st law (words_of (phase_at st.phases x.phase)) x.sent a (c ∷ rest) d in
      let at = m.location in
      let more : ModelState = record { phase = x.phase; sent = suc x.sent; age = x.age } in (
        more,
        ((h.0, refl), subst (Matches st more) (sym h.2) (record { here = m.here; fewer = omega arith; location = omega arith; shows = m.shows })),
      )
  leave_back next b x y y' m (a ∷ c ∷ rest) d l w (inr h) = absurd h

  abbrev moves_at : ModelState → AutomatonState → List Transition
  moves_at x y = print_moves y.location (place_of st.phases (next_of (phase_at st.phases x.phase))) (life_ticks (station_scale st) (lifetime_of (phase_at st.phases x.phase))) (words_of (phase_at st.phases x.phase))

  hears_suits : (x x' : ModelState) (y : AutomatonState) (p v : ℕ) → Matches st x y → M.Hears x p v x' → (y' : AutomatonState) × (P.Hears y p v y' × Matches st x' y')
  hears_suits x x' y p v m h = go (view x y m)
    where
      go : View x y → (y' : AutomatonState) × (P.Hears y p v y' × Matches st x' y')
      go (at_rest e at) =
          let r = hears_forward (lifetime_of (phase_at st.phases x.phase)) (law_at x y m).life_fits p v x x' y m.shows (moves_at x y) (edges_of (phase_at st.phases x.phase)) (law_at x y m).edges_fit h.1 in
          (r.0, (subst (λ l. Any (λ t. (transition_fits p v y.clock t ≡ true) × (r.0 ≡ through t y)) l.transitions) (sym at) r.1.0, r.1.1))
      go (at_work j w rest e d at) = absurd (let a = h.0 in omega arith)

  hears_suits_back : (y y' : AutomatonState) (x : ModelState) (p v : ℕ) → Matches st x y → P.Hears y p v y' → (x' : ModelState) × (M.Hears x p v x' × Matches st x' y')
  hears_suits_back y y' x p v m h = go (view x y m)
    where
      go : View x y → (x' : ModelState) × (M.Hears x p v x' × Matches st x' y')
      go (at_rest e at) =
          let h' = subst (λ l. Any (λ t. (transition_fits p v y.clock t ≡ true) × (y' ≡ through t y)) l.transitions) at h in
          let r = hears_back (lifetime_of (phase_at st.phases x.phase)) (law_at x y m).life_fits p v x y y' m.shows (moves_at x y) (moves_deaf p v y.clock y.location (place_of st.phases (next_of (phase_at st.phases x.phase))) (life_ticks (station_scale st) (lifetime_of (phase_at st.phases x.phase))) (words_of (phase_at st.phases x.phase))) (edges_of (phase_at st.phases x.phase)) (law_at x y m).edges_fit h' in
          (r.0, ((e, r.1.0), r.1.1))
      go (at_work j w rest e d at) =
          let h' = subst (λ l. Any (λ t. (transition_fits p v y.clock t ≡ true) × (y' ≡ through t y)) l.transitions) at h in
          absurd (none_fits (transition_fits p v y.clock) (λ t. y' ≡ through t y) (print_sending y.location (place_of st.phases (next_of (phase_at st.phases x.phase))) (from_on 0) w rest ∷ []) (moves_deaf p v y.clock y.location (place_of st.phases (next_of (phase_at st.phases x.phase))) (Some 0) (w ∷ rest)) h')

  deaf_suits : (x : ModelState) (y : AutomatonState) (p v : ℕ) → Matches st x y → M.Deaf x p v → P.Deaf y p v
  deaf_suits x y p v m h = go (view x y m) h
    where
      go : View x y → M.Deaf x p v → P.Deaf y p v
      go (at_rest e at) (inl b) = absurd (omega arith)
      go (at_rest e at) (inr q) =
          subst (λ l. AllByRecursion (λ t. transition_fits p v y.clock t ≡ false) l.transitions) (sym at)
          (deaf_forward (lifetime_of (phase_at st.phases x.phase)) (law_at x y m).life_fits p v x.age y.clock m.shows (moves_at x y) (moves_deaf p v y.clock y.location (place_of st.phases (next_of (phase_at st.phases x.phase))) (life_ticks (station_scale st) (lifetime_of (phase_at st.phases x.phase))) (words_of (phase_at st.phases x.phase))) (edges_of (phase_at st.phases x.phase)) (law_at x y m).edges_fit q)
      go (at_work j w rest e d at) q =
          subst (λ l. AllByRecursion (λ t. transition_fits p v y.clock t ≡ false) l.transitions) (sym at)
          (moves_deaf p v y.clock y.location (place_of st.phases (next_of (phase_at st.phases x.phase))) (Some 0) (w ∷ rest))

  deaf_suits_back : (y : AutomatonState) (x : ModelState) (p v : ℕ) → Matches st x y → P.Deaf y p v → M.Deaf x p v
  deaf_suits_back y x p v m h = go (view x y m)
    where
      go : View x y → M.Deaf x p v
      go (at_rest e at) =
          inr (deaf_back (lifetime_of (phase_at st.phases x.phase)) (law_at x y m).life_fits p v x.age y.clock m.shows (moves_at x y) (edges_of (phase_at st.phases x.phase)) (law_at x y m).edges_fit
          (subst (λ l. AllByRecursion (λ t. transition_fits p v y.clock t ≡ false) l.transitions) at h))
      go (at_work j w rest e d at) = inl (omega arith)

  bound_reached : (life : Option Fraction) (t clock : Fraction) → life ≡ Some t → at_bound (life_ticks (station_scale st) life) clock ≡ true →
      inside whole (from_on (ticks (station_scale st) t)) clock ≡ true
  bound_reached life t clock e h =
      let f = eqb-true _ _ (sym (ap (λ l. at_bound (life_ticks (station_scale st) l) clock) e) ∙ h) in
      ap (λ b. b && true) (le-leb (ticks (station_scale st) t * clock.denominator) (clock.numerator * 1) (omega arith))

  -- only a phase that lasts is left
  leaves_parts : (n : ℕ) (f : Phase) (x x' : ModelState) (w : Option Word) → NextHere n f → Leaves f x w x' →
      (t : Fraction) × (lifetime_of f ≡ Some t) × (next_of f < n) × SendsNext x (next_of f) (drop x.sent (words_of f)) w x'
  leaves_parts n (endless edges) x x' w here h = absurd h
  leaves_parts n (lasting t words next edges) x x' w here h = (t, refl, here, h)

  leaves_from : (f : Phase) (t : Fraction) (x x' : ModelState) (w : Option Word) → lifetime_of f ≡ Some t →
      SendsNext x (next_of f) (drop x.sent (words_of f)) w x' → Leaves f x w x'
  leaves_from (endless edges) t x x' w e h = absurd (some_not_none t (sym e))
  leaves_from (lasting life words next edges) t x x' w e h = h

  next_lasting : (n : ℕ) (f : Phase) (t : Fraction) → lifetime_of f ≡ Some t → NextHere n f → next_of f < n
  next_lasting n (endless edges) t e here = absurd (some_not_none t (sym e))
  next_lasting n (lasting life words next edges) t e here = here

  words_last : (f : Phase) → (words_of f ≡ [] → ⊥) → (t : Fraction) × (lifetime_of f ≡ Some t)
  words_last (endless edges) some = absurd (some refl)
  words_last (lasting life words next edges) some = (life, refl)

  from_zero : (clock : Fraction) → inside whole (from_on 0) clock ≡ true
  from_zero clock = ap (λ b. b && true) (le-leb (0 * clock.denominator) (clock.numerator * 1) (omega arith))

  moves_suits : (x x' : ModelState) (y : AutomatonState) (w : Option Word) → (M.busy x ≡ true) ⊎ (M.due x ≡ true) → Matches st x y → M.Moves x w x' → (y' : AutomatonState) × (P.Moves y w y' × Matches st x' y')
  moves_suits x x' y w ready m h = go (view x y m) ready
    where
      phase : Phase
      phase = phase_at st.phases x.phase

      parts : (t : Fraction) × (lifetime_of phase ≡ Some t) × (next_of phase < length st.phases) × SendsNext x (next_of phase) (drop x.sent (words_of phase)) w x'
      parts = leaves_parts (length st.phases) phase x x' w (law_at x y m).next_here h

      go : View x y → (M.busy x ≡ true) ⊎ (M.due x ≡ true) → (y' : AutomatonState) × (P.Moves y w y' × Matches st x' y')
      go (at_rest e at) (inl b) = absurd (let c = ap (ltb 0) e in let z : ◌≡◌ {A = ℕ} 0 1 = cc in omega arith)
      go (at_rest e at) (inr due) =
          let reached : at_bound (life_ticks (station_scale st) (lifetime_of phase)) y.clock ≡ true = sym (ap (λ l. at_bound l.bound y.clock) at) ∙ sym (due_suits x y m) ∙ due in
          let d : drop x.sent (words_of phase) ≡ words_of phase = ap (λ n. drop n (words_of phase)) e in
          let r = leave_forward (next_of phase) (ticks (station_scale st) parts.0) x x' y m (words_of phase) d parts.2
          (bound_reached (lifetime_of phase) parts.0 y.clock parts.1 reached) w
          (subst (λ ws. SendsNext x (next_of phase) ws w x') d parts.3) in
          let found = subst (λ lf. Any (Takes y r.0 w) (print_moves y.location (place_of st.phases (next_of phase)) (life_ticks (station_scale st) lf) (words_of phase))) (sym parts.1) r.1.0 in (
            r.0,
            (
              subst (λ l. Any (Takes y r.0 w) l.transitions) (sym at) (any_skip (Takes y r.0 w) (print_edge o (station_scale st) st.phases (lifetime_of phase)) (edges_of phase) _ found),
              r.1.1,
            ),
          )
      go (at_work j a rest e d at) q =
          let r = leave_forward (next_of phase) 0 x x' y m (a ∷ rest) d parts.2 (from_zero y.clock) w (subst (λ ws. SendsNext x (next_of phase) ws w x') d parts.3) in
          (r.0, (subst (λ l. Any (Takes y r.0 w) l.transitions) (sym at) r.1.0, r.1.1))

  moves_suits_back : (y y' : AutomatonState) (x : ModelState) (w : Option Word) → Matches st x y → P.Moves y w y' → (x' : ModelState) × (M.Moves x w x' × Matches st x' y')
  moves_suits_back y y' x w m h = go (view x y m)
    where
      phase : Phase
      phase = phase_at st.phases x.phase

      back_rest : (life : Option Fraction) → lifetime_of phase ≡ life → drop x.sent (words_of phase) ≡ words_of phase →
          Any (Takes y y' w) (print_moves y.location (place_of st.phases (next_of phase)) (life_ticks (station_scale st) life) (words_of phase)) →
          (x' : ModelState) × (M.Moves x w x' × Matches st x' y')
      back_rest None e d k = absurd k
      back_rest (Some t) e d k =
          let r = leave_back (next_of phase) (ticks (station_scale st) t) x y y' m (words_of phase) d (next_lasting (length st.phases) phase t e (law_at x y m).next_here) w k in
          (r.0, (leaves_from phase t x r.0 w e (subst (λ ws. SendsNext x (next_of phase) ws w r.0) (sym d) r.1.0), r.1.1))

      go : View x y → (x' : ModelState) × (M.Moves x w x' × Matches st x' y')
      go (at_rest e at) =
          back_rest (lifetime_of phase) refl (ap (λ n. drop n (words_of phase)) e)
          (any_back (Takes y y' w) (print_edge o (station_scale st) st.phases (lifetime_of phase)) (λ a k. k.0) (edges_of phase) _
          (subst (λ l. Any (Takes y y' w) l.transitions) at h))
      go (at_work j a rest e d at) =
          let t = words_last phase (drop_words o L st law (words_of phase) x.sent a rest d) in
          let r = leave_back (next_of phase) 0 x y y' m (a ∷ rest) d (next_lasting (length st.phases) phase t.0 t.1 (law_at x y m).next_here) w
          (subst (λ l. Any (Takes y y' w) l.transitions) at h) in
          (r.0, (leaves_from phase t.0 x r.0 w t.1 (subst (λ ws. SendsNext x (next_of phase) ws w r.0) (sym d) r.1.0), r.1.1))

  pub automaton_follows : Follows Proper M P (Matches st)
  automaton_follows = record {
    busy = busy_suits;
    due = due_suits;
    phase = phase_suits;
    may_wait = wait_suits;
    later = λ d x y good may m. later_suits d x y good m;
    hears = hears_suits;
    deaf = deaf_suits;
    moves = moves_suits;
  }

  pub model_follows : Follows Proper P M (λ y x. Matches st x y)
  model_follows = record {
    busy = λ y x m. sym (busy_suits x y m);
    due = λ y x m. sym (due_suits x y m);
    phase = λ y x m. sym (phase_suits x y m);
    may_wait = λ d y x good quiet m. sym (wait_suits d x y good (busy_suits x y m ∙ quiet) m);
    later = λ d y x good may m. later_suits d x y good m;
    hears = hears_suits_back;
    deaf = deaf_suits_back;
    moves = λ y y' x w ready m h. moves_suits_back y y' x w m h;
  }
