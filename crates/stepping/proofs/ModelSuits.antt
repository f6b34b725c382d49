-- A model station's meaning, geared, goes as the station goes by the model's rules, and the other way round.
use Rattle.std.proofs.Common.{◌≡◌, ℕ, zero, suc, ◌+◌, ◌*◌, ◌<◌, ◌≤◌, Bool, true, false, cond, not, ◌&&◌, eqb, ltb, ◌⊎◌, List, [], ◌∷◌, length, get_or, drop, Some, None, Option, sym, refl, ap, ◌∙◌, subst, ap₂, inl, inr, arith, length-drop}
use Prim.Native.Nat.{◌∣◌}
use native.Mathlib.Nat.{one-le-mul}
use Rattle.std.specs.List.{AllByRecursion}
use Rattle.std.proofs.ByRecursion.{All-get_or, All-weaker}
use Rattle.std.proofs.lemmas.Bool.{lt-ltb, ne_eqb}
use Rattle.records.specs.Fits.{HighFits}
use Rattle.semantics.specs.Times.{Fraction, fraction, Proper, Order, HighEnd, Closed, Open, Absent, plus, over, zero_time}
use Rattle.semantics.specs.Trees.{Word, Edge, Phase, endless, lasting, lifetime_of, words_of, edges_of, next_of, phase_at, blank_phase, Station}
use Rattle.semantics.specs.Scales.{station_scale, phase_denominators, life_denominators}
use Rattle.semantics.specs.Fits.{edge_fits, first, within_bound}
use Rattle.semantics.specs.Machine.{move_to, Stance, gear, gear_stance, factor}
use Rattle.semantics.specs.declared.state.Move.{Move}
use Rattle.semantics.specs.declared.state.StationState.{StationState}
use Rattle.semantics.specs.Meanings.{stance_number, phase_of, sent_of, move_with, first_move, model_stance, station_meaning}
use Rattle.semantics.specs.Net.{in_stance}
use Rattle.semantics.specs.Runs.{Rules}
use Rattle.semantics.specs.Limits.{AtMostOne}
use Rattle.semantics.specs.LawfulModels.{SmallTime, SmallLife, LawfulEdge, NextHere, LawfulPhase, LawfulStation}
use Rattle.semantics.specs.AutomatonRules.{at_bound}
use Rattle.semantics.specs.ModelRules.{ModelState, fresh, lasts, is_over, SendsNext, Leaves, model_rules}
use Rattle.semantics.specs.OneTime.{AreOneTime, OneLife, OneEnd, OneEdge}
use Rattle.semantics.proofs.OneTime.{one_time}
use Rattle.semantics.proofs.Options.{some_not_none, true_not_false, inner}
use Rattle.semantics.proofs.Lcm.{least_common}
use Rattle.semantics.proofs.Sound.{stance_numbers}
use Rattle.stepping.specs.StationRules.{station_rules, parts_in}
use Rattle.semantics.proofs.Simulation.{Follows}
use Rattle.stepping.proofs.Bridge.{InParts}
use Rattle.stepping.proofs.Settled.{Settled}
use Rattle.stepping.proofs.Firsts.{any_at, first_same, first_found, first_none, none_first, none_fits, only_first}
use Rattle.stepping.proofs.Scaled.{all_left, all_joined, InTicks, ends_alike, lasts_alike, later_one}

-- written times are one with themselves
itself_one : (t : Fraction) → SmallTime t → AreOneTime t t
itself_one t h = record { left = h.proper; right = h.proper; equal = refl }

life_one : (l : Option Fraction) → SmallLife l → OneLife l l
life_one None h = tt
life_one (Some t) h = itself_one t h

end_one : (h : HighEnd Fraction) → HighFits SmallTime h → OneEnd h h
end_one (Closed t) h = itself_one t h
end_one (Open t) h = itself_one t h
end_one Absent h = tt

edge_one : (n : ℕ) (e : Edge) → LawfulEdge n e → OneEdge e e
edge_one n e h = record {
  ports = refl;
  lowests = refl;
  highests = refl;
  windows = record { lows = itself_one _ h.low_fits; opens = refl; highs = end_one _ h.high_fits };
}

stance_busy : (o : Order) (scale : ℕ) (phases : List Phase) (i j : ℕ) → (model_stance o scale phases i j).busy ≡ ltb 0 j
stance_busy o scale phases i zero = refl
stance_busy o scale phases i (suc j) = sym (lt-ltb 0 (suc j) (omega arith))

pub stance_phase : (o : Order) (scale : ℕ) (phases : List Phase) (i j : ℕ) → (model_stance o scale phases i j).phase ≡ suc i
stance_phase o scale phases i zero = refl
stance_phase o scale phases i (suc j) = refl

pub stance_sent : (o : Order) (scale : ℕ) (phases : List Phase) (i j : ℕ) → (model_stance o scale phases i j).sent ≡ j
stance_sent o scale phases i zero = refl
stance_sent o scale phases i (suc j) = refl

-- a phase that is left: it lasts a time, and its next phase is there
record Ending (n : ℕ) (f : Phase) : Type 0 where
  life : Fraction
  lasts_so : lifetime_of f ≡ Some life
  next_in : next_of f < n

ending : (n j : ℕ) (age : Fraction) (f : Phase) → NextHere n f → (0 < j → j < length (words_of f)) →
    (ltb 0 j ≡ true) ⊎ ((eqb j 0 && is_over (lifetime_of f) age) ≡ true) → Ending n f
ending n j age (lasting life words next edges) here more r = record { life = life; lasts_so = refl; next_in = here }
ending n zero age (endless edges) here more (inl b) = absurd (true_not_false (sym b))
ending n zero age (endless edges) here more (inr b) = absurd (true_not_false (sym b))
ending n (suc j) age (endless edges) here more r = absurd (let z = more (omega arith) in omega arith)

first_moves : (i : ℕ) (f : Phase) (l : Fraction) → lifetime_of f ≡ Some l → first_move i f ≡ Some (move_with i 0 (next_of f) (words_of f))
first_moves i (endless edges) l e = absurd (some_not_none l (sym e))
first_moves i (lasting life words next edges) l e = refl

leaves_so : (f : Phase) (x : ModelState) (w : Option Word) (y : ModelState) → Leaves f x w y → SendsNext x (next_of f) (drop x.sent (words_of f)) w y
leaves_so (endless edges) x w y h = absurd h
leaves_so (lasting life words next edges) x w y h = h

may_leave : (f : Phase) (x : ModelState) (w : Option Word) (y : ModelState) (l : Fraction) → lifetime_of f ≡ Some l →
    SendsNext x (next_of f) (drop x.sent (words_of f)) w y → Leaves f x w y
may_leave (endless edges) x w y l e h = absurd (some_not_none l (sym e))
may_leave (lasting life words next edges) x w y l e h = h

sends_only : (x : ModelState) (next : ℕ) (ws : List Word) (w v : Option Word) (a b : ModelState) → SendsNext x next ws w a → SendsNext x next ws v b → (w ≡ v) × (a ≡ b)
sends_only x next [] w v a b h k = (h.0 ∙ sym k.0, h.1 ∙ sym k.1)
sends_only x next (c ∷ []) w v a b h k = (h.0 ∙ sym k.0, h.1 ∙ sym k.1)
sends_only x next (c ∷ d ∷ ws) w v a b h k = (h.0 ∙ sym k.0, h.1 ∙ sym k.1)

-- the net's state of a station, and the state by the model's rules
pub record SitsAt (L : ℕ) (st : Station) (q : ℕ) (x : StationState) (y : ModelState) : Type 0 where
  pub here : y.phase < length st.phases
  pub fewer : 0 < y.sent → y.sent < length (words_of (phase_at st.phases y.phase))
  pub stance : x.stance ≡ stance_number y.phase y.sent
  pub age : AreOneTime y.age (fraction x.elapsed (q * L))

-- nothing is left to choose in a phase that is there
pub record InPlace (st : Station) (y : ModelState) : Type 0 where
  pub here : y.phase < length st.phases
  pub proper : Proper y.age

module _ (o : Order) (L : ℕ) (st : Station) (law : LawfulStation o st) (scaled : 1 ≤ L)
    (exact : factor L (station_meaning o st) * station_scale st ≡ L) (geared : 1 ≤ factor L (station_meaning o st)) (q : ℕ) (few : 1 ≤ q) where
  abbrev f : ℕ
  f = factor L (station_meaning o st)

  abbrev s : ℕ
  s = station_scale st

  abbrev A : Rules StationState
  A = station_rules q (gear f (station_meaning o st))

  abbrev M : Rules ModelState
  M = model_rules o L st.phases

  abbrev Sits : StationState → ModelState → Type 0
  Sits = SitsAt L st q

  abbrev at : ℕ → Phase
  at i = phase_at st.phases i

  phase_law : (i : ℕ) → i < length st.phases → LawfulPhase o (length st.phases) (at i)
  phase_law i l = All-get_or (LawfulPhase o (length st.phases)) st.phases i blank_phase l law.phases_fit

  life_in_ticks : (l : Option Fraction) → SmallLife l → AllByRecursion (λ d. 1 ≤ d → d ∣ s) (life_denominators l) → InTicks s l
  life_in_ticks None h k = tt
  life_in_ticks (Some t) h k = (h.proper, k.0 h.proper)

  in_ticks : (i : ℕ) → i < length st.phases → InTicks s (lifetime_of (at i))
  in_ticks i l =
      life_in_ticks (lifetime_of (at i)) (phase_law i l).life_fits
      (all_left _ (life_denominators (lifetime_of (at i))) _
      (All-get_or (λ x. AllByRecursion (λ d. 1 ≤ d → d ∣ s) (phase_denominators x)) st.phases i blank_phase l
      (all_joined (λ d. 1 ≤ d → d ∣ s) phase_denominators st.phases (least_common _).common)))

  abbrev stance_of : ℕ → Stance
  stance_of k = (gear f (station_meaning o st)).stance k

  abbrev told : ℕ → ℕ → Stance
  told i j = gear_stance f (model_stance o s st.phases i j)

  at_number : (i j k : ℕ) → j < 4 → k ≡ stance_number i j → stance_of k ≡ told i j
  at_number i j k l e =
      ap₂ told (ap phase_of e ∙ stance_numbers.phase_back i j l) (ap sent_of e ∙ stance_numbers.sent_back i j l)

  sent_few : (x : StationState) (y : ModelState) → Sits x y → y.sent < 4
  sent_few x y m = go y.sent m.fewer
    where
      go : (j : ℕ) → (0 < j → j < length (words_of (at y.phase))) → j < 4
      go zero h = omega arith
      go (suc j) h = let a = h (omega arith) in let b = (phase_law y.phase m.here).few_words in omega arith

  pub at_stance : (x : StationState) (y : ModelState) → Sits x y → stance_of x.stance ≡ told y.phase y.sent
  at_stance x y m = at_number y.phase y.sent x.stance (sent_few x y m) m.stance

  pub fresh_sits : (x : StationState) (i : ℕ) → i < length st.phases → x.stance ≡ stance_number i 0 → x.elapsed ≡ 0 → Sits x (fresh i)
  fresh_sits x i l k e = record {
    here = l;
    fewer = λ z. absurd (omega arith);
    stance = k;
    age = record { left = omega arith; right = one-le-mul few scaled; equal = omega arith };
  }

  busy_suits : (x : StationState) (y : ModelState) → Sits x y → A.busy x ≡ M.busy y
  busy_suits x y m = ap (λ z. z.busy) (at_stance x y m) ∙ stance_busy o s st.phases y.phase y.sent

  phase_suits : (x : StationState) (y : ModelState) → Sits x y → A.phase x ≡ M.phase y
  phase_suits x y m = ap (λ z. z.phase) (at_stance x y m) ∙ stance_phase o s st.phases y.phase y.sent

  due_core : (i j e : ℕ) (age : Fraction) → i < length st.phases → AreOneTime age (fraction e (q * L)) →
      (not (told i j).busy && at_bound (told i j).lifetime (fraction e q)) ≡ (eqb j 0 && is_over (lifetime_of (at i)) age)
  due_core i zero e age l one = ends_alike s f L q e age exact scaled few one (lifetime_of (at i)) (in_ticks i l)
  due_core i (suc j) e age l one = sym (ap (λ b. b && is_over (lifetime_of (at i)) age) (ne_eqb (suc j) 0 (λ z. absurd (omega arith))))

  due_suits : (x : StationState) (y : ModelState) → Sits x y → A.due x ≡ M.due y
  due_suits x y m =
      ap (λ z. not z.busy && at_bound z.lifetime (fraction x.elapsed q)) (at_stance x y m)
      ∙ due_core y.phase y.sent x.elapsed y.age m.here m.age

  later_suits : (d : Fraction) (x : StationState) (y : ModelState) → d.denominator ≡ q → Sits x y → Sits (A.later d x) (M.later d y)
  later_suits d x y e m = record { here = m.here; fewer = m.fewer; stance = m.stance; age = later_one q L x.elapsed y.age d few scaled e m.age }

  wait_core : (i j e : ℕ) (age : Fraction) → i < length st.phases → (told i j).busy ≡ false → AreOneTime age (fraction e (q * L)) →
      within_bound (told i j).lifetime (fraction e q) ≡ lasts (lifetime_of (at i)) age
  wait_core i zero e age l quiet one = lasts_alike s f L q e age exact scaled few one (lifetime_of (at i)) (in_ticks i l)
  wait_core i (suc j) e age l quiet one = absurd (true_not_false quiet)

  wait_suits : (d : Fraction) (x : StationState) (y : ModelState) → d.denominator ≡ q → A.busy x ≡ false → Sits x y → A.may_wait d x ≡ M.may_wait d y
  wait_suits d x y e quiet m =
      ap (λ z. within_bound z.lifetime (fraction (x.elapsed + parts_in d q) q)) (at_stance x y m)
      ∙ wait_core y.phase y.sent (x.elapsed + parts_in d q) (plus y.age (over d L)) m.here
      (sym (ap (λ z. z.busy) (at_stance x y m)) ∙ quiet) (later_suits d x y e m).age

  -- what a quiet station hears
  abbrev home_hears : ℕ → ℕ → ℕ → Fraction → Option ℕ
  home_hears i p v age = first (edge_fits o (lifetime_of (at i)) p v age) (λ e. stance_number e.goal 0) (edges_of (at i))

  asked_one : (e : ℕ) (age : Fraction) → AreOneTime age (fraction e (q * L)) → AreOneTime (fraction e (q * f * s)) age
  asked_one e age one =
      let same : q * L ≡ q * f * s = ap (λ x. q * x) (sym exact) ∙ omega arith in
      record {
        left = subst (λ k. 1 ≤ k) same one.right;
        right = one.left;
        equal = sym (subst (λ k. age.numerator * k ≡ e * age.denominator) same one.equal);
      }

  hears_home : (i p v e : ℕ) (age : Fraction) → i < length st.phases → AreOneTime age (fraction e (q * L)) → (told i 0).hears p v e q ≡ home_hears i p v age
  hears_home i p v e age l one =
      first_same _ _ (λ x. stance_number x.goal 0) (edges_of (at i))
      (All-weaker (LawfulEdge (length st.phases)) _
      (λ x k. one_time.edge_same o (lifetime_of (at i)) (lifetime_of (at i)) p v _ _ x x (life_one _ (phase_law i l).life_fits) (asked_one e age one) (edge_one _ x k))
      (edges_of (at i)) (phase_law i l).edges_fit)

  blank_edge : Edge
  blank_edge = record { goal = 0; port = 0; lowest = 0; highest = 0; window = record { low = zero_time; low_open = false; high = Absent } }

  -- the state's own hearing, by the words sent
  hears_quiet : (x : StationState) (y : ModelState) (p v : ℕ) → Sits x y → y.sent ≡ 0 → (stance_of x.stance).hears p v x.elapsed q ≡ home_hears y.phase p v y.age
  hears_quiet x y p v m e =
      ap (λ z. z.hears p v x.elapsed q) (at_stance x y m ∙ ap (told y.phase) e) ∙ hears_home y.phase p v x.elapsed y.age m.here m.age

  hears_busy : (x : StationState) (y : ModelState) (p v j : ℕ) → Sits x y → y.sent ≡ suc j → (stance_of x.stance).hears p v x.elapsed q ≡ None
  hears_busy x y p v j m e = ap (λ z. z.hears p v x.elapsed q) (at_stance x y m ∙ ap (told y.phase) e)

  goal_here : (y : ModelState) (k : ℕ) → y.phase < length st.phases → k < length (edges_of (at y.phase)) → (get_or (edges_of (at y.phase)) k blank_edge).goal < length st.phases
  goal_here y k l h = (All-get_or (LawfulEdge (length st.phases)) (edges_of (at y.phase)) k blank_edge h (phase_law y.phase l).edges_fit).goal_here

  hears_suits : (x x' : StationState) (y : ModelState) (p v : ℕ) → Sits x y → A.Hears x p v x' → (y' : ModelState) × (M.Hears y p v y' × Sits x' y')
  hears_suits x x' y p v m h = go y.sent refl
    where
      go : (j : ℕ) → y.sent ≡ j → (y' : ModelState) × (M.Hears y p v y' × Sits x' y')
      go zero e =
          let r = first_found (edge_fits o (lifetime_of (at y.phase)) p v y.age) (λ k. stance_number k.goal 0) blank_edge (edges_of (at y.phase)) x'.stance (sym (hears_quiet x y p v m e) ∙ h.0) in
          let k = get_or (edges_of (at y.phase)) r.place blank_edge in (
            fresh k.goal,
            (
              (e, any_at _ blank_edge (edges_of (at y.phase)) r.place r.within (r.fit, refl)),
              fresh_sits x' k.goal (goal_here y r.place m.here r.within) r.goes h.1,
            ),
          )
      go (suc j) e = absurd (some_not_none _ (sym h.0 ∙ hears_busy x y p v j m e))

  hears_back : (y y' : ModelState) (x : StationState) (p v : ℕ) → Sits x y → M.Hears y p v y' → (x' : StationState) × (A.Hears x p v x' × Sits x' y')
  hears_back y y' x p v m h =
      let edges = edges_of (at y.phase) in
      let apart = (phase_law y.phase m.here).edges_apart p v y.age m.age.left in
      let r = only_first (edge_fits o (lifetime_of (at y.phase)) p v y.age) (λ k. stance_number k.goal 0) blank_edge (λ k. y' ≡ fresh k.goal) edges apart h.1 in
      let k = get_or edges r.place blank_edge in
      let x' : StationState = in_stance (stance_number k.goal 0) 0 in (
        x',
        (
          (hears_quiet x y p v m h.0 ∙ r.is_first, refl),
          subst (Sits x') (sym r.holds) (fresh_sits x' k.goal (goal_here y r.place m.here r.within) refl refl),
        ),
      )

  deaf_suits : (x : StationState) (y : ModelState) (p v : ℕ) → Sits x y → A.Deaf x p v → M.Deaf y p v
  deaf_suits x y p v m h = go y.sent refl
    where
      go : (j : ℕ) → y.sent ≡ j → M.Deaf y p v
      go zero e = inr (first_none (edge_fits o (lifetime_of (at y.phase)) p v y.age) (λ k. stance_number k.goal 0) blank_edge (edges_of (at y.phase)) (sym (hears_quiet x y p v m e) ∙ h))
      go (suc j) e = inl (omega arith)

  deaf_back : (y : ModelState) (x : StationState) (p v : ℕ) → Sits x y → M.Deaf y p v → A.Deaf x p v
  deaf_back y x p v m h = go y.sent refl h
    where
      go : (j : ℕ) → y.sent ≡ j → M.Deaf y p v → A.Deaf x p v
      go zero e (inl b) = absurd (omega arith)
      go zero e (inr a) = hears_quiet x y p v m e ∙ none_first (edge_fits o (lifetime_of (at y.phase)) p v y.age) (λ k. stance_number k.goal 0) blank_edge (edges_of (at y.phase)) a
      go (suc j) e k = hears_busy x y p v j m e

  -- the move of a station that is busy or due
  abbrev Ready : ModelState → Type 0
  Ready y = (M.busy y ≡ true) ⊎ (M.due y ≡ true)

  abbrev rest_of : ModelState → List Word
  rest_of y = drop y.sent (words_of (at y.phase))

  abbrev move_of : ModelState → Move
  move_of y = move_with y.phase y.sent (next_of (at y.phase)) (rest_of y)

  ends : (x : StationState) (y : ModelState) → Sits x y → Ready y → Ending (length st.phases) (at y.phase)
  ends x y m r = ending (length st.phases) y.sent y.age (at y.phase) (phase_law y.phase m.here).next_here m.fewer r

  move_core : (i j : ℕ) (l : Fraction) → lifetime_of (at i) ≡ Some l → (told i j).move ≡ Some (move_with i j (next_of (at i)) (drop j (words_of (at i))))
  move_core i zero l e = first_moves i (at i) l e
  move_core i (suc j) l e = refl

  move_is : (x : StationState) (y : ModelState) → Sits x y → Ready y → (stance_of x.stance).move ≡ Some (move_of y)
  move_is x y m r = ap (λ z. z.move) (at_stance x y m) ∙ move_core y.phase y.sent (ends x y m r).life (ends x y m r).lasts_so

  -- where a move leads, by the words still to be sent
  record Led (y : ModelState) (next : ℕ) (ws : List Word) (k : Move) : Type 0 where
    place : ModelState
    sends : SendsNext y next ws k.word place
    sits : (x x' : StationState) → Sits x y → x'.stance ≡ k.follows → x'.elapsed ≡ cond (stance_of x'.stance).busy x.elapsed 0 → Sits x' place

  busy_number : (k i j : ℕ) → j < 4 → k ≡ stance_number i j → (stance_of k).busy ≡ ltb 0 j
  busy_number k i j l e = ap (λ z. z.busy) (at_number i j k l e) ∙ stance_busy o s st.phases i j

  land_home : (x x' : StationState) (next : ℕ) → next < length st.phases → x'.stance ≡ stance_number next 0 → x'.elapsed ≡ cond (stance_of x'.stance).busy x.elapsed 0 → Sits x' (fresh next)
  land_home x x' next l k e = fresh_sits x' next l k (e ∙ ap (λ b. cond b x.elapsed 0) (busy_number x'.stance next 0 (omega arith) k))

  drop_more : (ws : List Word) (j : ℕ) (a c : Word) (rest : List Word) → drop j ws ≡ a ∷ c ∷ rest → suc j < length ws
  drop_more ws j a c rest e = let k = length-drop j ws in let h = ap length e in omega arith

  led : (y : ModelState) (next : ℕ) → next < length st.phases → (ws : List Word) → rest_of y ≡ ws → Led y next ws (move_with y.phase y.sent next ws)
  led y next nl [] d = record { place = fresh next; sends = (refl, refl); sits = λ x x' m k e. land_home x x' next nl k e }
  led y next nl (a ∷ []) d = record { place = fresh next; sends = (refl, refl); sits = λ x x' m k e. land_home x x' next nl k e }
  led y next nl (a ∷ c ∷ rest) d = record {
    place = record { phase = y.phase; sent = suc y.sent; age = y.age };
    sends = (refl, refl);
    sits = λ x x' m k e.
        let more = drop_more (words_of (at y.phase)) y.sent a c rest d in
        let four = (phase_law y.phase m.here).few_words in
        let kept : x'.elapsed ≡ x.elapsed = e ∙ ap (λ b. cond b x.elapsed 0) (busy_number x'.stance y.phase (suc y.sent) (omega arith) k ∙ lt-ltb 0 (suc y.sent) (omega arith)) in
        record { here = m.here; fewer = λ z. more; stance = k; age = subst (λ n. AreOneTime y.age (fraction n (q * L))) (sym kept) m.age };
  }

  led_at : (x : StationState) (y : ModelState) → Sits x y → Ready y → Led y (next_of (at y.phase)) (rest_of y) (move_of y)
  led_at x y m r = led y (next_of (at y.phase)) (ends x y m r).next_in (rest_of y) refl

  ready_too : (x : StationState) (y : ModelState) → Sits x y → (A.busy x ≡ true) ⊎ (A.due x ≡ true) → Ready y
  ready_too x y m (inl b) = inl (sym (busy_suits x y m) ∙ b)
  ready_too x y m (inr b) = inr (sym (due_suits x y m) ∙ b)

  leave : (x : StationState) (y : ModelState) → Sits x y → Ready y → (w : Option Word) (z : ModelState) → SendsNext y (next_of (at y.phase)) (rest_of y) w z → M.Moves y w z
  leave x y m r w z h = may_leave (at y.phase) y w z (ends x y m r).life (ends x y m r).lasts_so h

  moves_suits : (x x' : StationState) (y : ModelState) (w : Option Word) → (A.busy x ≡ true) ⊎ (A.due x ≡ true) → Sits x y → A.Moves x w x' → (y' : ModelState) × (M.Moves y w y' × Sits x' y')
  moves_suits x x' y w r m h =
      let ready = ready_too x y m r in
      let t = led_at x y m ready in
      let same : move_to w x'.stance ≡ move_of y = inner (sym h.0 ∙ move_is x y m ready) in (
        t.place,
        (
          leave x y m ready w t.place
              (subst (λ u. SendsNext y (next_of (at y.phase)) (rest_of y) u t.place) (sym (ap (λ k. k.word) same)) t.sends),
          t.sits x x' m (ap (λ k. k.follows) same) h.1,
        ),
      )

  moves_back : (y y' : ModelState) (x : StationState) (w : Option Word) → Ready y → Sits x y → M.Moves y w y' → (x' : StationState) × (A.Moves x w x' × Sits x' y')
  moves_back y y' x w ready m h =
      let t = led_at x y m ready in
      let x' : StationState = in_stance (move_of y).follows (cond (stance_of (move_of y).follows).busy x.elapsed 0) in
      let same = sends_only y (next_of (at y.phase)) (rest_of y) w (move_of y).word y' t.place (leaves_so (at y.phase) y w y' h) t.sends in (
        x',
        (
          (move_is x y m ready ∙ ap (λ u. Some (move_to u (move_of y).follows)) (sym same.0), refl),
          subst (Sits x') (sym same.1) (t.sits x x' m refl refl),
        ),
      )

  pub model_forth : Follows (InParts q) A M Sits
  model_forth = record {
    busy = busy_suits;
    due = due_suits;
    phase = phase_suits;
    may_wait = wait_suits;
    later = λ d x y g may m. later_suits d x y g m;
    hears = hears_suits;
    deaf = deaf_suits;
    moves = moves_suits;
  }

  pub model_back : Follows (InParts q) M A (λ y x. Sits x y)
  model_back = record {
    busy = λ y x m. sym (busy_suits x y m);
    due = λ y x m. sym (due_suits x y m);
    phase = λ y x m. sym (phase_suits x y m);
    may_wait = λ d y x g quiet m. sym (wait_suits d x y g (busy_suits x y m ∙ quiet) m);
    later = λ d y x g may m. later_suits d x y g m;
    hears = hears_back;
    deaf = deaf_back;
    moves = moves_back;
  }

  fresh_in_place : (i : ℕ) → i < length st.phases → InPlace st (fresh i)
  fresh_in_place i l = record { here = l; proper = omega arith }

  sends_in_place : (x : ModelState) (next : ℕ) (ws : List Word) (w : Option Word) (y : ModelState) → next < length st.phases → InPlace st x → SendsNext x next ws w y → InPlace st y
  sends_in_place x next [] w y l g h = subst (InPlace st) (sym h.1) (fresh_in_place next l)
  sends_in_place x next (a ∷ []) w y l g h = subst (InPlace st) (sym h.1) (fresh_in_place next l)
  sends_in_place x next (a ∷ b ∷ ws) w y l g h = subst (InPlace st) (sym h.1) (record { here = g.here; proper = g.proper })

  leaves_in_place : (k : Phase) (x : ModelState) (w : Option Word) (y : ModelState) → NextHere (length st.phases) k → InPlace st x → Leaves k x w y → InPlace st y
  leaves_in_place (endless edges) x w y l g h = absurd h
  leaves_in_place (lasting life words next edges) x w y l g h = sends_in_place x next (drop x.sent words) w y l g h

  abbrev fits : ModelState → ℕ → ℕ → Edge → Bool
  fits x p v = edge_fits o (lifetime_of (at x.phase)) p v x.age

  abbrev Goes : ModelState → Edge → Type 0
  Goes y k = y ≡ fresh k.goal

  apart_at : (x : ModelState) (p v : ℕ) → InPlace st x → AtMostOne (fits x p v) (edges_of (at x.phase))
  apart_at x p v g = (phase_law x.phase g.here).edges_apart p v x.age g.proper

  deaf_never : (x y : ModelState) (p v : ℕ) → M.Hears x p v y → M.Deaf x p v → ⊥
  deaf_never x y p v h (inl z) = let e = h.0 in omega arith
  deaf_never x y p v h (inr z) = none_fits (fits x p v) (Goes y) (edges_of (at x.phase)) z h.1

  pub model_settled : Settled M (InPlace st)
  model_settled = record {
    later = λ d x p may g. record { here = g.here; proper = one-le-mul g.proper (one-le-mul p scaled) };
    hears_good = λ x y p v g h.
        let r = only_first (fits x p v) (λ k. k.goal) blank_edge (Goes y) (edges_of (at x.phase)) (apart_at x p v g) h.1 in
        subst (InPlace st) (sym r.holds) (fresh_in_place _ (goal_here x r.place g.here r.within));
    hears_one = λ x y z p v g h k.
        let r = only_first (fits x p v) (λ k. k.goal) blank_edge (Goes y) (edges_of (at x.phase)) (apart_at x p v g) h.1 in
        let t = only_first (fits x p v) (λ k. k.goal) blank_edge (Goes z) (edges_of (at x.phase)) (apart_at x p v g) k.1 in
        r.holds ∙ (ap fresh (inner (sym r.is_first ∙ t.is_first)) ∙ sym t.holds);
    not_both = λ x y p v g h k. deaf_never x y p v h k;
    moves_good = λ x y w r g h. leaves_in_place (at x.phase) x w y (phase_law x.phase g.here).next_here g h;
    moves_one = λ x y z w u r g h k. sends_only x (next_of (at x.phase)) (drop x.sent (words_of (at x.phase))) w u y z (leaves_so (at x.phase) x w y h) (leaves_so (at x.phase) x u z k);
  }
