-- An automaton's meaning, geared, goes as the automaton goes by its rules, and the other way round.
use Rattle.std.proofs.Common.{◌≡◌, ℕ, ◌+◌, ◌*◌, ◌<◌, ◌≤◌, Bool, true, false, cond, not, ◌&&◌, eqb, leb, ◌⊎◌, List, [], ◌∷◌, ◌++◌, length, get_or, Some, None, Option, sym, refl, ap, ◌∙◌, subst, inl, inr, arith}
use native.Mathlib.Nat.{one-le-mul}
use Rattle.std.specs.Option.{option_map}
use Rattle.std.specs.List.{AllByRecursion}
use Rattle.std.proofs.ByRecursion.{All-get_or, All-weaker}
use Rattle.std.proofs.lemmas.Bool.{and_parts, le-leb, eqb-true}
use Rattle.semantics.specs.Times.{Fraction, fraction, Proper, same_time, plus, over, whole, zero_time, inside}
use Rattle.semantics.specs.Trees.{Word, Label, Silent, Hears, Sends, Transition, location_at, blank_location, Automaton}
use Rattle.semantics.specs.Fits.{label_fits, transition_fits, within_bound, first}
use Rattle.semantics.specs.Print.{from_on}
use Rattle.semantics.specs.Machine.{move_to, gear, factor}
use Rattle.semantics.specs.declared.state.Move.{Move}
use Rattle.semantics.specs.declared.state.StationState.{StationState}
use Rattle.semantics.specs.Meanings.{label_move, move_among, location_stance, automaton_meaning}
use Rattle.semantics.specs.Net.{in_stance}
use Rattle.semantics.specs.Runs.{Rules}
use Rattle.semantics.specs.LawfulAutomata.{is_move, HearsOnly, LawfulMoves, LawfulTransition, LawfulLocation, LawfulAutomaton}
use Rattle.semantics.specs.ModelRules.{Any}
use Rattle.semantics.specs.AutomatonRules.{AutomatonState, at_bound, MovesWith, through, automaton_rules}
use Rattle.semantics.specs.OneTime.{AreOneTime}
use Rattle.semantics.proofs.OneTime.{one_time}
use Rattle.semantics.proofs.Options.{true_not_false, inner}
use Rattle.stepping.specs.StationRules.{station_rules, parts_in}
use Rattle.semantics.proofs.Simulation.{Follows}
use Rattle.stepping.proofs.Bridge.{InParts}
use Rattle.stepping.proofs.Settled.{Settled}
use Rattle.stepping.proofs.Firsts.{any_at, first_same, first_found, first_none, none_first, none_fits, only_first}
use Rattle.stepping.proofs.Scaled.{later_one}

gear_bound : (f e q : ℕ) (b : Option ℕ) → at_bound (option_map (λ x. x * f) b) (fraction e q) ≡ at_bound b (fraction e (q * f))
gear_bound f e q None = refl
gear_bound f e q (Some b) = let same : b * f * q ≡ b * (q * f) = omega arith in ap (λ k. eqb (e * 1) k) same

gear_within : (f e q : ℕ) (b : Option ℕ) → within_bound (option_map (λ x. x * f) b) (fraction e q) ≡ within_bound b (fraction e (q * f))
gear_within f e q None = refl
gear_within f e q (Some b) = let same : b * f * q ≡ b * (q * f) = omega arith in ap (λ k. leb (e * 1) k) same

pub zero_within : (b : Option ℕ) → within_bound b zero_time ≡ true
zero_within None = refl
zero_within (Some b) = le-leb (0 * 1) (b * 1) (omega arith)

-- what fits, hears
fits_hears : (p v : ℕ) (l : Label) → label_fits l p v ≡ true → is_move l ≡ false
fits_hears p v Silent h = absurd (true_not_false (sym h))
fits_hears p v (Hears port lowest highest) h = refl
fits_hears p v (Sends port value) h = absurd (true_not_false (sym h))

-- the one move, behind transitions that hear
any_last : (Q : Transition → Type 0) (hs : List Transition) (t : Transition) → Q t → Any Q (hs ++ (t ∷ []))
any_last Q [] t h = inl h
any_last Q (x ∷ hs) t h = inr (any_last Q hs t h)

last_any : (Q : Transition → Type 0) → ((t : Transition) → is_move t.label ≡ false → Q t → ⊥) → (hs : List Transition) (t : Transition) → HearsOnly hs → Any Q (hs ++ (t ∷ [])) → Q t
last_any Q deaf [] t hears (inl h) = h
last_any Q deaf [] t hears (inr h) = absurd h
last_any Q deaf (x ∷ hs) t hears (inl h) = absurd (deaf x hears.0 h)
last_any Q deaf (x ∷ hs) t hears (inr h) = last_any Q deaf hs t hears.1 h

move_rest : (l : Label) (goal : ℕ) (rest : Option Move) → is_move l ≡ false → label_move l goal rest ≡ rest
move_rest Silent goal rest e = absurd (true_not_false e)
move_rest (Hears port lowest highest) goal rest e = refl
move_rest (Sends port value) goal rest e = absurd (true_not_false e)

behind_hearing : (hs ts : List Transition) → HearsOnly hs → move_among (hs ++ ts) ≡ move_among ts
behind_hearing [] ts h = refl
behind_hearing (t ∷ hs) ts h = move_rest t.label t.goal _ h.0 ∙ behind_hearing hs ts h.1

-- what a move sends
sends_with : (l : Label) (goal : ℕ) → is_move l ≡ true → (w : Option Word) × (MovesWith l w × (label_move l goal None ≡ Some (move_to w goal)))
sends_with Silent goal e = (None, (refl, refl))
sends_with (Hears port lowest highest) goal e = absurd (true_not_false (sym e))
sends_with (Sends port value) goal e = (Some (record { port = port; value = value }), (refl, refl))

pub with_only : (l : Label) (w u : Option Word) → MovesWith l w → MovesWith l u → w ≡ u
with_only Silent w u a b = a ∙ sym b
with_only (Hears port lowest highest) w u a b = absurd a
with_only (Sends port value) w u a b = a ∙ sym b

hearing_sends : (l : Label) (w : Option Word) → is_move l ≡ false → MovesWith l w → ⊥
hearing_sends Silent w e h = true_not_false e
hearing_sends (Hears port lowest highest) w e h = h
hearing_sends (Sends port value) w e h = true_not_false e

-- the net's state of a station, and the state by the automaton rules
pub record Sited (f : ℕ) (a : Automaton) (q : ℕ) (x : StationState) (y : AutomatonState) : Type 0 where
  pub location : y.location ≡ x.stance
  pub here : y.location < length a.locations
  pub clock : AreOneTime y.clock (fraction x.elapsed (q * f))
  pub within : within_bound (location_at a y.location).bound y.clock ≡ true

-- nothing is left to choose in a location that is there, with the clock up to its bound
pub record InPlace (a : Automaton) (y : AutomatonState) : Type 0 where
  pub here : y.location < length a.locations
  pub proper : Proper y.clock
  pub within : within_bound (location_at a y.location).bound y.clock ≡ true

module _ (L : ℕ) (a : Automaton) (law : LawfulAutomaton a) (geared : 1 ≤ factor L (automaton_meaning a)) (q : ℕ) (few : 1 ≤ q) where
  abbrev f : ℕ
  f = factor L (automaton_meaning a)

  abbrev A : Rules StationState
  A = station_rules q (gear f (automaton_meaning a))

  abbrev P : Rules AutomatonState
  P = automaton_rules f a

  abbrev S : StationState → AutomatonState → Type 0
  S = Sited f a q

  location_law : (n : ℕ) → n < length a.locations → LawfulLocation a (location_at a n)
  location_law n l = All-get_or (LawfulLocation a) a.locations n blank_location l law.locations_fit

  -- the location of the state
  at : (x : StationState) (y : AutomatonState) → S x y → location_at a x.stance ≡ location_at a y.location
  at x y m = ap (location_at a) (sym m.location)

  busy_suits : (x : StationState) (y : AutomatonState) → S x y → A.busy x ≡ P.busy y
  busy_suits x y m = ap (λ l. l.committed) (at x y m)

  phase_suits : (x : StationState) (y : AutomatonState) → S x y → A.phase x ≡ P.phase y
  phase_suits x y m = ap (λ l. l.phase) (at x y m)

  due_core : (c : Bool) (b : Option ℕ) (k : Bool) → (c ≡ true → b ≡ None) → (t : Fraction) → k ≡ at_bound b t → (not c && k) ≡ at_bound b t
  due_core true b k none t e = sym (ap (λ z. at_bound z t) (none refl))
  due_core false b k none t e = e

  due_suits : (x : StationState) (y : AutomatonState) → S x y → A.due x ≡ P.due y
  due_suits x y m =
      ap (λ l. not l.committed && at_bound (option_map (λ z. z * f) l.bound) (fraction x.elapsed q)) (at x y m)
      ∙ due_core (location_at a y.location).committed (location_at a y.location).bound _ (location_law y.location m.here).not_both y.clock
      (gear_bound f x.elapsed q (location_at a y.location).bound ∙ sym (one_time.at_bound_same (location_at a y.location).bound y.clock _ m.clock))

  later_clock : (d : Fraction) (x : StationState) (y : AutomatonState) → d.denominator ≡ q → S x y → AreOneTime (plus y.clock (over d f)) (fraction (x.elapsed + parts_in d q) (q * f))
  later_clock d x y e m = later_one q f x.elapsed y.clock d few geared e m.clock

  wait_suits : (d : Fraction) (x : StationState) (y : AutomatonState) → d.denominator ≡ q → S x y → A.may_wait d x ≡ P.may_wait d y
  wait_suits d x y e m =
      ap (λ l. within_bound (option_map (λ z. z * f) l.bound) (fraction (x.elapsed + parts_in d q) q)) (at x y m)
      ∙ (gear_within f (x.elapsed + parts_in d q) q (location_at a y.location).bound
      ∙ sym (one_time.bound_same (location_at a y.location).bound (plus y.clock (over d f)) _ (later_clock d x y e m)))

  later_suits : (d : Fraction) (x : StationState) (y : AutomatonState) → d.denominator ≡ q → S x y → P.may_wait d y ≡ true → S (A.later d x) (P.later d y)
  later_suits d x y e m may = record { location = m.location; here = m.here; clock = later_clock d x y e m; within = may }

  abbrev ts_at : AutomatonState → List Transition
  ts_at y = (location_at a y.location).transitions

  all_true : {X : Type 0} (R : X → Type 0) → ((x : X) → R x) → (xs : List X) → AllByRecursion R xs
  all_true R h [] = tt
  all_true R h (x ∷ xs) = (h x, all_true R h xs)

  hears_at : (x : StationState) (y : AutomatonState) (p v : ℕ) → S x y →
      ((gear f (automaton_meaning a)).stance x.stance).hears p v x.elapsed q ≡ first (transition_fits p v y.clock) (λ t. t.goal) (ts_at y)
  hears_at x y p v m =
      let l = location_at a y.location in
      let clock = fraction x.elapsed (q * f) in
      let inn : within_bound l.bound clock ≡ true = sym (one_time.bound_same l.bound y.clock clock m.clock) ∙ m.within in
      ap (λ z. (location_stance z).hears p v x.elapsed (q * f)) (at x y m)
      ∙ (ap (λ b. cond b (first (transition_fits p v clock) (λ t. t.goal) l.transitions) None) inn
      ∙ sym (first_same _ _ (λ t. t.goal) l.transitions (all_true _ (λ t. one_time.transition_same p v y.clock clock t m.clock) l.transitions)))

  blank_transition : Transition
  blank_transition = record { goal = 0; label = Silent; resets = true; guard = from_on 0 }

  -- a state just entered
  entered : (x : StationState) (t : Transition) (y : AutomatonState) → t.goal < length a.locations → t.resets ≡ true → x.stance ≡ t.goal → x.elapsed ≡ 0 → S x (through t y)
  entered x t y l r s e =
      let z : through t y ≡ record { location = t.goal; clock = zero_time } = ap (λ b. record { location = t.goal; clock = cond b zero_time y.clock }) r in
      subst (S x) (sym z)
      (record {
        location = sym s;
        here = l;
        clock = record { left = omega arith; right = one-le-mul few geared; equal = omega arith };
        within = zero_within (location_at a t.goal).bound;
      })

  -- what a transition that fits has
  record Fitting (t : Transition) : Type 0 where
    goal_here : t.goal < length a.locations
    restarts : t.resets ≡ true

  fitting : (y : AutomatonState) → y.location < length a.locations → (p v k : ℕ) → k < length (ts_at y) →
      transition_fits p v y.clock (get_or (ts_at y) k blank_transition) ≡ true → Fitting (get_or (ts_at y) k blank_transition)
  fitting y l p v k h fit = record {
    goal_here = (All-get_or (LawfulTransition (length a.locations) a.scale (location_at a y.location).bound) (ts_at y) k blank_transition h (location_law y.location l).transitions_fit).goal_here;
    restarts = All-get_or (λ t. is_move t.label ≡ false → t.resets ≡ true) (ts_at y) k blank_transition h (location_law y.location l).hearing_resets
        (fits_hears p v (get_or (ts_at y) k blank_transition).label (and_parts _ _ fit).0);
  }

  hears_suits : (x x' : StationState) (y : AutomatonState) (p v : ℕ) → S x y → A.Hears x p v x' → (y' : AutomatonState) × (P.Hears y p v y' × S x' y')
  hears_suits x x' y p v m h =
      let r = first_found (transition_fits p v y.clock) (λ t. t.goal) blank_transition (ts_at y) x'.stance (sym (hears_at x y p v m) ∙ h.0) in
      let t = get_or (ts_at y) r.place blank_transition in
      let k = fitting y m.here p v r.place r.within r.fit in
      (through t y, (any_at _ blank_transition (ts_at y) r.place r.within (r.fit, refl), entered x' t y k.goal_here k.restarts r.goes h.1))

  hears_back : (y y' : AutomatonState) (x : StationState) (p v : ℕ) → S x y → P.Hears y p v y' → (x' : StationState) × (A.Hears x p v x' × S x' y')
  hears_back y y' x p v m h =
      let apart = (location_law y.location m.here).guards_apart p v y.clock m.clock.left m.within in
      let r = only_first (transition_fits p v y.clock) (λ t. t.goal) blank_transition (λ t. y' ≡ through t y) (ts_at y) apart h in
      let t = get_or (ts_at y) r.place blank_transition in
      let k = fitting y m.here p v r.place r.within r.fit in
      let x' : StationState = in_stance t.goal 0 in
      (x', ((hears_at x y p v m ∙ r.is_first, refl), subst (S x') (sym r.holds) (entered x' t y k.goal_here k.restarts refl refl)))

  deaf_suits : (x : StationState) (y : AutomatonState) (p v : ℕ) → S x y → A.Deaf x p v → P.Deaf y p v
  deaf_suits x y p v m h = first_none (transition_fits p v y.clock) (λ t. t.goal) blank_transition (ts_at y) (sym (hears_at x y p v m) ∙ h)

  deaf_back : (y : AutomatonState) (x : StationState) (p v : ℕ) → S x y → P.Deaf y p v → A.Deaf x p v
  deaf_back y x p v m h = hears_at x y p v m ∙ none_first (transition_fits p v y.clock) (λ t. t.goal) blank_transition (ts_at y) h

  abbrev Takes : AutomatonState → AutomatonState → Option Word → Transition → Type 0
  Takes y y' w t = MovesWith t.label w × (inside whole t.guard y.clock ≡ true) × (y' ≡ through t y)

  from_zero : (c : Fraction) → inside whole (from_on 0) c ≡ true
  from_zero c = ap (λ b. b && true) (le-leb (0 * c.denominator) (c.numerator * 1) (omega arith))

  from_bound : (b : ℕ) (c : Fraction) → same_time c (whole b) ≡ true → inside whole (from_on b) c ≡ true
  from_bound b c h = let e = eqb-true _ _ h in ap (λ b. b && true) (le-leb (b * c.denominator) (c.numerator * 1) (omega arith))

  -- the move of an automaton that is committed or due
  record Ready (y : AutomatonState) : Type 0 where
    before : List Transition
    move : Transition
    is : ts_at y ≡ before ++ (move ∷ [])
    hears : HearsOnly before
    moves : is_move move.label ≡ true
    opens : inside whole move.guard y.clock ≡ true
    resets : move.resets ≡ not (location_at a move.goal).committed

  ready_core : (y : AutomatonState) (c : Bool) (b : Option ℕ) → LawfulMoves a c b (ts_at y) → (c ≡ true) ⊎ (at_bound b y.clock ≡ true) → Ready y
  ready_core y true b h r =
      let printed = h.1.1 in
      record {
        before = [];
        move = h.0;
        is = h.1.0;
        hears = tt;
        moves = printed.moves;
        opens = ap (λ g. inside whole g y.clock) printed.from_bound ∙ from_zero y.clock;
        resets = printed.resets_right;
      }
  ready_core y false b h (inl r) = absurd (true_not_false (sym r))
  ready_core y false None h (inr r) = absurd (true_not_false (sym r))
  ready_core y false (Some b) h (inr r) =
      let printed = h.1.1.1.1 in
      record {
        before = h.0;
        move = h.1.0;
        is = h.1.1.0;
        hears = h.1.1.1.0;
        moves = printed.moves;
        opens = ap (λ g. inside whole g y.clock) printed.from_bound ∙ from_bound b y.clock r;
        resets = printed.resets_right;
      }

  ready : (y : AutomatonState) → y.location < length a.locations → (P.busy y ≡ true) ⊎ (P.due y ≡ true) → Ready y
  ready y l r = ready_core y (location_at a y.location).committed (location_at a y.location).bound (location_law y.location l).moves_fit r

  all_last : (R : Transition → Type 0) (hs : List Transition) (t : Transition) → AllByRecursion R (hs ++ (t ∷ [])) → R t
  all_last R [] t h = h.0
  all_last R (x ∷ hs) t h = all_last R hs t h.1

  ready_goal : (y : AutomatonState) → y.location < length a.locations → (r : Ready y) → r.move.goal < length a.locations
  ready_goal y l r =
      all_last (λ t. t.goal < length a.locations) r.before r.move
      (subst (AllByRecursion (λ t. t.goal < length a.locations)) r.is
      (All-weaker (LawfulTransition (length a.locations) a.scale (location_at a y.location).bound) _ (λ t h. h.goal_here) (ts_at y) (location_law y.location l).transitions_fit))

  -- where it lands
  landed : (x x' : StationState) (y : AutomatonState) (t : Transition) → S x y → t.goal < length a.locations → t.resets ≡ not (location_at a t.goal).committed → x'.stance ≡ t.goal →
      x'.elapsed ≡ cond (location_at a x'.stance).committed x.elapsed 0 → S x' (through t y)
  landed x x' y t m l r s e = go (location_at a t.goal).committed refl
    where
      go : (c : Bool) → (location_at a t.goal).committed ≡ c → S x' (through t y)
      go false k = entered x' t y l (r ∙ ap not k) s (e ∙ ap (λ b. cond b x.elapsed 0) (ap (λ n. (location_at a n).committed) s ∙ k))
      go true k =
          let kept : x'.elapsed ≡ x.elapsed = e ∙ ap (λ b. cond b x.elapsed 0) (ap (λ n. (location_at a n).committed) s ∙ k) in
          let z : through t y ≡ record { location = t.goal; clock = y.clock } = ap (λ b. record { location = t.goal; clock = cond b zero_time y.clock }) (r ∙ ap not k) in
          subst (S x') (sym z)
          (record {
            location = sym s;
            here = l;
            clock = subst (λ n. AreOneTime y.clock (fraction n (q * f))) (sym kept) m.clock;
            within = ap (λ b. within_bound b y.clock) ((location_law t.goal l).not_both k);
          })

  move_at : (x : StationState) (y : AutomatonState) → S x y → (r : Ready y) →
      (w : Option Word) × (MovesWith r.move.label w × (((gear f (automaton_meaning a)).stance x.stance).move ≡ Some (move_to w r.move.goal)))
  move_at x y m r =
      let s = sends_with r.move.label r.move.goal r.moves in
      (s.0, (s.1.0, ap (λ l. move_among l.transitions) (at x y m) ∙ (ap move_among r.is ∙ (behind_hearing r.before (r.move ∷ []) r.hears ∙ s.1.1))))

  ready_too : (x : StationState) (y : AutomatonState) → S x y → (A.busy x ≡ true) ⊎ (A.due x ≡ true) → (P.busy y ≡ true) ⊎ (P.due y ≡ true)
  ready_too x y m (inl b) = inl (sym (busy_suits x y m) ∙ b)
  ready_too x y m (inr b) = inr (sym (due_suits x y m) ∙ b)

  moves_suits : (x x' : StationState) (y : AutomatonState) (w : Option Word) → (A.busy x ≡ true) ⊎ (A.due x ≡ true) → S x y → A.Moves x w x' → (y' : AutomatonState) × (P.Moves y w y' × S x' y')
  moves_suits x x' y w rd m h =
      let r = ready y m.here (ready_too x y m rd) in
      let v = move_at x y m r in
      let both : move_to w x'.stance ≡ move_to v.0 r.move.goal = inner (sym h.0 ∙ v.1.1) in
      let ew : w ≡ v.0 = ap (λ k. k.word) both in
      let es : x'.stance ≡ r.move.goal = ap (λ k. k.follows) both in
      let y' = through r.move y in (
        y',
        (
          subst (Any (Takes y y' w)) (sym r.is) (any_last (Takes y y' w) r.before r.move (subst (MovesWith r.move.label) (sym ew) v.1.0, r.opens, refl)),
          landed x x' y r.move m (ready_goal y m.here r) r.resets es h.1,
        ),
      )

  moves_back : (y y' : AutomatonState) (x : StationState) (w : Option Word) → (P.busy y ≡ true) ⊎ (P.due y ≡ true) → S x y → P.Moves y w y' → (x' : StationState) × (A.Moves x w x' × S x' y')
  moves_back y y' x w rd m h =
      let r = ready y m.here rd in
      let v = move_at x y m r in
      let k = last_any (Takes y y' w) (λ t e b. hearing_sends t.label w e b.0) r.before r.move r.hears (subst (Any (Takes y y' w)) r.is h) in
      let ew : w ≡ v.0 = with_only r.move.label w v.0 k.0 v.1.0 in
      let x' : StationState = in_stance r.move.goal (cond (location_at a r.move.goal).committed x.elapsed 0) in (
        x',
        (
          (v.1.1 ∙ ap (λ u. Some (move_to u r.move.goal)) (sym ew), refl),
          subst (S x') (sym k.2) (landed x x' y r.move m (ready_goal y m.here r) r.resets refl refl),
        ),
      )

  pub automaton_forth : Follows (InParts q) A P S
  automaton_forth = record {
    busy = busy_suits;
    due = due_suits;
    phase = phase_suits;
    may_wait = λ d x y e quiet m. wait_suits d x y e m;
    later = λ d x y e may m. later_suits d x y e m (sym (wait_suits d x y e m) ∙ may);
    hears = hears_suits;
    deaf = deaf_suits;
    moves = moves_suits;
  }

  pub automaton_back : Follows (InParts q) P A (λ y x. S x y)
  automaton_back = record {
    busy = λ y x m. sym (busy_suits x y m);
    due = λ y x m. sym (due_suits x y m);
    phase = λ y x m. sym (phase_suits x y m);
    may_wait = λ d y x e quiet m. sym (wait_suits d x y e m);
    later = λ d y x e may m. later_suits d x y e m may;
    hears = hears_back;
    deaf = deaf_back;
    moves = moves_back;
  }

  through_reset : (t : Transition) (y : AutomatonState) → t.resets ≡ true → through t y ≡ record { location = t.goal; clock = zero_time }
  through_reset t y r = ap (λ b. record { location = t.goal; clock = cond b zero_time y.clock }) r

  through_in_place : (t : Transition) (y : AutomatonState) → t.goal < length a.locations → t.resets ≡ true → InPlace a (through t y)
  through_in_place t y l r =
      subst (InPlace a) (sym (through_reset t y r)) (record { here = l; proper = omega arith; within = zero_within (location_at a t.goal).bound })

  moved_in_place : (t : Transition) (y : AutomatonState) → InPlace a y → t.goal < length a.locations → t.resets ≡ not (location_at a t.goal).committed → InPlace a (through t y)
  moved_in_place t y g l r = go (location_at a t.goal).committed refl
    where
      go : (c : Bool) → (location_at a t.goal).committed ≡ c → InPlace a (through t y)
      go false k = through_in_place t y l (r ∙ ap not k)
      go true k =
          let z : through t y ≡ record { location = t.goal; clock = y.clock } = ap (λ b. record { location = t.goal; clock = cond b zero_time y.clock }) (r ∙ ap not k) in
          subst (InPlace a) (sym z) (record { here = l; proper = g.proper; within = ap (λ b. within_bound b y.clock) ((location_law t.goal l).not_both k) })

  record Heard (x y : AutomatonState) (p v : ℕ) : Type 0 where
    to : Transition
    is_first : first (transition_fits p v x.clock) (λ t. t.goal) (ts_at x) ≡ Some to.goal
    holds : y ≡ through to x
    fits : Fitting to

  heard : (x y : AutomatonState) (p v : ℕ) → InPlace a x → P.Hears x p v y → Heard x y p v
  heard x y p v g h =
      let apart = (location_law x.location g.here).guards_apart p v x.clock g.proper g.within in
      let r = only_first (transition_fits p v x.clock) (λ t. t.goal) blank_transition (λ t. y ≡ through t x) (ts_at x) apart h in
      record {
        to = get_or (ts_at x) r.place blank_transition;
        is_first = r.is_first;
        holds = r.holds;
        fits = fitting x g.here p v r.place r.within r.fit;
      }

  moved : (x y : AutomatonState) (w : Option Word) (r : Ready x) → P.Moves x w y → Takes x y w r.move
  moved x y w r h = last_any (Takes x y w) (λ t e b. hearing_sends t.label w e b.0) r.before r.move r.hears (subst (Any (Takes x y w)) r.is h)

  pub automaton_settled : Settled P (InPlace a)
  automaton_settled = record {
    later = λ d x p may g. record { here = g.here; proper = one-le-mul g.proper (one-le-mul p geared); within = may };
    hears_good = λ x y p v g h.
        let r = heard x y p v g h in
        subst (InPlace a) (sym r.holds) (through_in_place r.to x r.fits.goal_here r.fits.restarts);
    hears_one = λ x y z p v g h k.
        let r = heard x y p v g h in
        let t = heard x z p v g k in
        r.holds ∙ (through_reset r.to x r.fits.restarts
        ∙ (ap (λ l. record { location = l; clock = zero_time }) (inner (sym r.is_first ∙ t.is_first))
        ∙ (sym (through_reset t.to x t.fits.restarts) ∙ sym t.holds)));
    not_both = λ x y p v g h k. none_fits (transition_fits p v x.clock) (λ t. y ≡ through t x) (ts_at x) k h;
    moves_good = λ x y w rd g h.
        let r = ready x g.here rd in
        subst (InPlace a) (sym (moved x y w r h).2) (moved_in_place r.move x g (ready_goal x g.here r) r.resets);
    moves_one = λ x y z w u rd g h k.
        let r = ready x g.here rd in
        let m = moved x y w r h in
        let l = moved x z u r k in
        (with_only r.move.label w u m.0 l.0, m.2 ∙ sym l.2);
  }
