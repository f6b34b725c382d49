-- The meanings of lawful nets are sound, and gearing keeps soundness.
use Rattle.std.proofs.Common.{◌≡◌, ℕ, zero, suc, ◌+◌, ◌*◌, ◌/◌, ◌<◌, ◌≤◌, Bool, true, false, cond, ◌&&◌, eqb, ltb, leb, ◌⊎◌, ◌↔◌, List, [], ◌∷◌, ◌++◌, map, length, drop, Some, None, Option, sym, refl, ap, ◌∙◌, subst, ap₂, inl, inr, mul-le-mul_right, mod-eq_of_lt, le-div_iff_mul-le, zero-mul, div-le_self, arith, length-drop}
use Prim.Native.Nat.{◌∣◌}
use native.Mathlib.Nat.{mul-add-div, mul-add-mod_self_left, div-add-mod, div-eq_of_lt, mul-div_cancel', one-le-mul}
use lib.ListN.{length-map}
use Rattle.std.specs.Option.{option_map}
use Rattle.std.specs.List.{flat_map, AllByRecursion}
use Rattle.std.proofs.ByRecursion.{All-get_or, All-map, All-weaker}
use Rattle.std.proofs.lemmas.Bool.{ltb-true, lt-ltb, leb-true, leb-false, le-leb, eqb-true, and_parts, and_left, or_cases}
use Rattle.std.proofs.lemmas.Bool.Decides.{nat_tests}
use Rattle.semantics.specs.Times.{Fraction, fraction, Order}
use Rattle.semantics.specs.Trees.{Word, Edge, Phase, endless, lasting, lifetime_of, words_of, edges_of, phase_at, blank_phase, Station, ModelNet, Label, Silent, Hears, Sends, Transition, Location, location_at, blank_location, Automaton, AutomatonNet}
use Rattle.semantics.specs.Scales.{ticks, life_ticks, scale_of, phase_denominators}
use Rattle.semantics.specs.Fits.{transition_fits, within_bound, first, label_fits}
use Rattle.semantics.specs.Machine.{Move, Stance, StationMeaning, Meaning, SoundStance, SoundStation, Sound, gear, gear_stance, net_scale, factor}
use Rattle.semantics.specs.Questions.{parts_fit}
use Rattle.semantics.specs.Meanings.{stance_number, phase_of, sent_of, move_with, first_move, quiet_stance, busy_stance, model_stance, model_known, station_meaning, label_move, move_among, location_stance, automaton_meaning, model_meaning, automata_meaning}
use Rattle.semantics.specs.LawfulModels.{LawfulEdge, LawfulPhase, LawfulStation, LawfulModel, SmallLife}
use Rattle.semantics.specs.LawfulAutomata.{is_move, HearsOnly, LawfulMoves, LawfulTransition, BoundFits, LawfulLocation, LawfulAutomaton, LawfulAutomata}
use Rattle.semantics.specs.Laws.{StanceNumbers, MeaningsAreSound, GearingKeepsSound}
use Rattle.semantics.proofs.Options.{some_not_none, inner, true_not_false}
use Rattle.semantics.proofs.Lcm.{least_common}

-- Numbers of stances.
pub stance_numbers : StanceNumbers
stance_numbers = record {
  phase_back = λ i j l. mul-add-div (omega arith) i j ∙ ap (λ x. i + x) (div-eq_of_lt l) ∙ omega arith;
  sent_back = λ i j l. mul-add-mod_self_left 4 i j ∙ mod-eq_of_lt l;
  number_back = λ s. div-add-mod s 4;
}

-- what the first that fits leads to, all of them lead to
first_among : {A : Type 0} (P : ℕ → Type 0) (fits : A → Bool) (goal : A → ℕ) (xs : List A) (s : ℕ) →
    AllByRecursion (λ x. P (goal x)) xs → first fits goal xs ≡ Some s → P s
first_among P fits goal [] s h e = absurd (some_not_none s (sym e))
first_among P fits goal (x ∷ xs) s h e = go (fits x) refl (first_among P fits goal xs s h.1)
  where
    go : (b : Bool) → fits x ≡ b → (first fits goal xs ≡ Some s → P s) → P s
    go true f rest = let r : goal x ≡ s = cc in subst P r h.0
    go false f rest = rest (sym (ap (λ b. cond b (Some (goal x)) (first fits goal xs)) f) ∙ e)

first_of_none : {A : Type 0} (fits : A → Bool) (goal : A → ℕ) (x : A) → fits x ≡ false → first fits goal (x ∷ []) ≡ None
first_of_none fits goal x e = ap (λ b. cond b (Some (goal x)) None) e

-- A model station, whose stances are known by `known`.
module _ (o : Order) (scale n : ℕ) (m : StationMeaning) (scaled : m.scale ≡ scale)
    (fresh : (g : ℕ) → g < n → m.known (stance_number g 0) ≡ true) where
  life_sound : (life : Option Fraction) → SmallLife life → (l : ℕ) → life_ticks scale life ≡ Some l → l ≤ 1000000 * m.scale
  life_sound None h l e = absurd (some_not_none l (sym e))
  life_sound (Some t) h l e =
      let r : ticks scale t ≡ l = cc in
      let a = div-le_self (t.numerator * scale) t.denominator in
      let b = mul-le-mul_right scale h.numerator_fits in
      let c = ap (λ x. 1000000 * x) scaled in
      omega arith

  follows_known : (i j next : ℕ) (ws : List Word) → next < n → (2 ≤ length ws → m.known (stance_number i (suc j)) ≡ true) →
      (k : Move) → Some (move_with i j next ws) ≡ Some k → m.known k.follows ≡ true
  follows_known i j next ws here burst k e = let r : move_with i j next ws ≡ k = cc in subst (λ x. m.known x.follows ≡ true) r (go ws burst)
    where
      go : (ws : List Word) → (2 ≤ length ws → m.known (stance_number i (suc j)) ≡ true) → m.known (move_with i j next ws).follows ≡ true
      go [] b = fresh next here
      go (w ∷ []) b = fresh next here
      go (w ∷ x ∷ xs) b = b (omega arith)

  goals_known : (es : List Edge) → AllByRecursion (LawfulEdge n) es → AllByRecursion (λ e. m.known (stance_number e.goal 0) ≡ true) es
  goals_known es h = All-weaker (LawfulEdge n) _ (λ e l. fresh e.goal l.goal_here) es h

  quiet_sound : (i : ℕ) (f : Phase) → LawfulPhase o n f → (2 ≤ length (words_of f) → m.known (stance_number i 1) ≡ true) →
      SoundStance m (quiet_stance o scale i f)
  quiet_sound i f lawful burst = record {
    move_known = moves f lawful burst;
    hearing_known = λ p v e q s h. first_among (λ x. m.known x ≡ true) _ _ (edges_of f) s (goals_known (edges_of f) lawful.edges_fit) h;
    busy_deaf = λ e p v x q. absurd (true_not_false (sym e));
    lifetime_fits = life_sound (lifetime_of f) lawful.life_fits;
    rests = still f;
  }
    where
      moves : (f : Phase) → LawfulPhase o n f → (2 ≤ length (words_of f) → m.known (stance_number i 1) ≡ true) →
          (k : Move) → first_move i f ≡ Some k → m.known k.follows ≡ true
      moves (endless edges) l b k e = absurd (some_not_none k (sym e))
      moves (lasting life words next edges) l b k e = follows_known i 0 next words l.next_here b k e

      still : (f : Phase) → (first_move i f ≡ None) ↔ ((false ≡ false) × (life_ticks scale (lifetime_of f) ≡ None))
      still (endless edges) = ((λ e. (refl, refl)), (λ e. refl))
      still (lasting life words next edges) = ((λ e. absurd (some_not_none _ e)), (λ e. absurd (some_not_none _ e.1)))

  busy_sound : (i j : ℕ) (f : Phase) → LawfulPhase o n f → suc j < length (words_of f) →
      (suc (suc j) < length (words_of f) → m.known (stance_number i (suc (suc j))) ≡ true) → SoundStance m (busy_stance i (suc j) f)
  busy_sound i j (endless edges) lawful more burst = absurd (omega arith)
  busy_sound i j (lasting life words next edges) lawful more burst = record {
    move_known = follows_known i (suc j) next (drop (suc j) words) lawful.next_here
        (λ h. burst (let e = length-drop (suc j) words in omega arith));
    hearing_known = λ p v e q s h. absurd (some_not_none s (sym h));
    busy_deaf = λ e p v x q. refl;
    lifetime_fits = λ l e. absurd (some_not_none l (sym e));
    rests = ((λ e. absurd (some_not_none _ e)), (λ e. absurd (true_not_false e.0)));
  }

module _ (o : Order) (st : Station) (lawful : LawfulStation o st) where
  abbrev phases : List Phase
  phases = st.phases

  known_at : (i j : ℕ) → j < 4 → model_known phases i j ≡ true → (station_meaning o st).known (stance_number i j) ≡ true
  known_at i j l h = ap₂ (model_known phases) (stance_numbers.phase_back i j l) (stance_numbers.sent_back i j l) ∙ h

  fresh_known : (g : ℕ) → g < length phases → (station_meaning o st).known (stance_number g 0) ≡ true
  fresh_known g l = known_at g 0 (omega arith) (grind (arith, nat_tests))

  burst_known : (i j : ℕ) → i < length phases → suc j < length (words_of (phase_at phases i)) →
      (station_meaning o st).known (stance_number i (suc j)) ≡ true
  burst_known i j l h =
      let few = (All-get_or (LawfulPhase o (length phases)) phases i blank_phase l lawful.phases_fit).few_words in
      known_at i (suc j) (omega arith) (grind (arith, nat_tests))

  sent_fewer : (i j : ℕ) → model_known phases i (suc j) ≡ true → suc j < length (words_of (phase_at phases i))
  sent_fewer i j k = go (or_cases (eqb (suc j) 0) _ (and_parts (ltb i (length phases)) _ k).1)
    where
      go : (eqb (suc j) 0 ≡ true) ⊎ (ltb (suc j) (length (words_of (phase_at phases i))) ≡ true) → suc j < length (words_of (phase_at phases i))
      go (inl e) = absurd (let z = eqb-true (suc j) 0 e in omega arith)
      go (inr e) = ltb-true _ _ e

  stance_sound : (i j : ℕ) → model_known phases i j ≡ true → SoundStance (station_meaning o st) (model_stance o (scale_of phases) phases i j)
  stance_sound i zero k =
      let here : i < length phases = ltb-true i (length phases) (and_parts _ _ k).0 in
      quiet_sound o (scale_of phases) (length phases) (station_meaning o st) refl fresh_known i (phase_at phases i)
      (All-get_or (LawfulPhase o (length phases)) phases i blank_phase here lawful.phases_fit)
      (λ two. burst_known i 0 here (omega arith))
  stance_sound i (suc j) k =
      let here : i < length phases = ltb-true i (length phases) (and_parts _ _ k).0 in
      let more = sent_fewer i j k in
      busy_sound o (scale_of phases) (length phases) (station_meaning o st) refl fresh_known i j (phase_at phases i)
      (All-get_or (LawfulPhase o (length phases)) phases i blank_phase here lawful.phases_fit) more
      (λ again. burst_known i (suc j) here again)

  station_sound : SoundStation (station_meaning o st)
  station_sound = record {
    some_scale = (least_common (flat_map phase_denominators phases)).some;
    scale_fits = lawful.scale_fits;
    opening_known = fresh_known st.opening lawful.opening_here;
    stances = λ s k. stance_sound (phase_of s) (sent_of s) k;
  }

model_sound : (m : ModelNet) → LawfulModel m → Sound (model_meaning m)
model_sound m lawful = record {
  some_station = simp length-map lawful.some_station;
  few_stations = simp length-map lawful.few_stations;
  stations = All-map SoundStation (station_meaning m.order) m.stations
      (All-weaker (LawfulStation m.order) _ (λ st l. station_sound m.order st l) m.stations lawful.stations_fit);
}

-- An automaton.
moves_among : (P : ℕ → Type 0) (ts : List Transition) (k : Move) → AllByRecursion (λ t. P t.goal) ts → move_among ts ≡ Some k → P k.follows
moves_among P [] k h e = absurd (some_not_none k (sym e))
moves_among P (t ∷ ts) k h e = go t.label e (moves_among P ts k h.1)
  where
    go : (l : Label) → label_move l t.goal (move_among ts) ≡ Some k → (move_among ts ≡ Some k → P k.follows) → P k.follows
    go Silent f rest = subst (λ (x : Move). P x.follows) (inner f) h.0
    go (Hears port lowest highest) f rest = rest f
    go (Sends port value) f rest = subst (λ (x : Move). P x.follows) (inner f) h.0

-- a move does not hear
move_deaf : (p v : ℕ) (l : Label) → is_move l ≡ true → label_fits l p v ≡ false
move_deaf p v Silent e = refl
move_deaf p v (Hears port lowest highest) e = absurd (true_not_false (sym e))
move_deaf p v (Sends port value) e = refl

-- and a transition that is one moves
move_some : (l : Label) (goal : ℕ) (rest : Option Move) → is_move l ≡ true → label_move l goal rest ≡ None → ⊥
move_some Silent goal rest e f = some_not_none _ f
move_some (Hears port lowest highest) goal rest e f = true_not_false (sym e)
move_some (Sends port value) goal rest e f = some_not_none _ f

move_rest : (l : Label) (goal : ℕ) (rest : Option Move) → is_move l ≡ false → label_move l goal rest ≡ rest
move_rest Silent goal rest e = absurd (true_not_false e)
move_rest (Hears port lowest highest) goal rest e = refl
move_rest (Sends port value) goal rest e = absurd (true_not_false e)

behind_hearing : (hs ts : List Transition) → HearsOnly hs → move_among (hs ++ ts) ≡ move_among ts
behind_hearing [] ts h = refl
behind_hearing (t ∷ hs) ts h = move_rest t.label t.goal _ h.0 ∙ behind_hearing hs ts h.1

no_move : (ts : List Transition) → HearsOnly ts → move_among ts ≡ None
no_move [] h = refl
no_move (t ∷ ts) h = move_rest t.label t.goal _ h.0 ∙ no_move ts h.1

module _ (a : Automaton) where
  committed_deaf : (c : Bool) (b : Option ℕ) (ts : List Transition) → LawfulMoves a c b ts → c ≡ true →
      (p v : ℕ) (t : Fraction) → first (transition_fits p v t) (λ x. x.goal) ts ≡ None
  committed_deaf true b ts (t, (e, printed)) h p v x =
      subst (λ us. first (transition_fits p v x) (λ x. x.goal) us ≡ None) (sym e)
      (first_of_none (transition_fits p v x) (λ x. x.goal) t (and_left _ _ (move_deaf p v t.label printed.moves)))
  committed_deaf false b ts moves h p v x = absurd (true_not_false (sym h))

  still : (c : Bool) (b : Option ℕ) (ts : List Transition) → (c ≡ true → b ≡ None) → LawfulMoves a c b ts →
      (move_among ts ≡ None) ↔ ((c ≡ false) × (b ≡ None))
  still true b ts both (t, (e, printed)) =
      ((λ h. absurd (move_some t.label t.goal None printed.moves (sym (ap move_among e) ∙ h))), (λ h. absurd (true_not_false h.0)))
  still false (Some b) ts both (hs, (t, (e, (hears, printed)))) = (
    (λ h. absurd (move_some t.label t.goal None printed.moves (sym (behind_hearing hs (t ∷ []) hears) ∙ (sym (ap move_among e) ∙ h)))),
    (λ h. absurd (some_not_none b h.1)),
  )
  still false None ts both hears = ((λ h. (refl, refl)), (λ h. no_move ts hears))

  location_sound : (l : Location) → LawfulLocation a l → SoundStance (automaton_meaning a) (location_stance l)
  location_sound l lawful = record {
    move_known = λ k e. lt-ltb _ _ (moves_among (λ g. g < length a.locations) l.transitions k goals e);
    hearing_known = λ p v e q s h. lt-ltb _ _ (first_among (λ g. g < length a.locations) _ _ l.transitions s goals (passed _ _ s h));
    busy_deaf = λ e p v x q. either (within_bound l.bound (fraction x q)) _ (committed_deaf l.committed l.bound l.transitions lawful.moves_fit e p v (fraction x q));
    lifetime_fits = bound l.bound lawful.bound_fits;
    rests = still l.committed l.bound l.transitions lawful.not_both lawful.moves_fit;
  }
    where
      goals : AllByRecursion (λ t. t.goal < length a.locations) l.transitions
      goals = All-weaker (LawfulTransition (length a.locations) a.scale l.bound) _ (λ t h. h.goal_here) l.transitions lawful.transitions_fit

      passed : (b : Bool) (x : Option ℕ) (s : ℕ) → cond b x None ≡ Some s → x ≡ Some s
      passed true x s e = e
      passed false x s e = absurd (some_not_none s (sym e))

      either : (b : Bool) (x : Option ℕ) → x ≡ None → cond b x None ≡ None
      either true x e = e
      either false x e = refl

      bound : (b : Option ℕ) → BoundFits a.scale b → (k : ℕ) → b ≡ Some k → k ≤ 1000000 * a.scale
      bound None h k e = absurd (some_not_none k (sym e))
      bound (Some b) h k e = let r : b ≡ k = inner e in omega arith

  automaton_sound : LawfulAutomaton a → SoundStation (automaton_meaning a)
  automaton_sound lawful = record {
    some_scale = lawful.some_scale;
    scale_fits = lawful.scale_fits;
    opening_known = lt-ltb _ _ lawful.opening_here;
    stances = λ s k. location_sound (location_at a s) (All-get_or (LawfulLocation a) a.locations s blank_location (ltb-true _ _ k) lawful.locations_fit);
  }

automata_sound : (a : AutomatonNet) → LawfulAutomata a → Sound (automata_meaning a)
automata_sound a lawful = record {
  some_station = simp length-map lawful.some_automaton;
  few_stations = simp length-map lawful.few_automata;
  stations = All-map SoundStation automaton_meaning a.automata
      (All-weaker LawfulAutomaton _ (λ x l. automaton_sound x l) a.automata lawful.automata_fit);
}

pub meanings_sound : MeaningsAreSound
meanings_sound = record { models = model_sound; automata = automata_sound }

-- Gearing.
gear_sound : (f : ℕ) (m : StationMeaning) → 1 ≤ f → m.scale * f ≤ 1000000 → SoundStation m → SoundStation (gear f m)
gear_sound f m some fits sound = record {
  some_scale = one-le-mul sound.some_scale some;
  scale_fits = fits;
  opening_known = sound.opening_known;
  stances = λ s k. stance (m.stance s) (sound.stances s k);
}
  where
    longer : (l : Option ℕ) → ((n : ℕ) → l ≡ Some n → n ≤ 1000000 * m.scale) → (n : ℕ) → option_map (λ x. x * f) l ≡ Some n → n ≤ 1000000 * (m.scale * f)
    longer None h n e = absurd (some_not_none n (sym e))
    longer (Some l) h n e = let r : l * f ≡ n = inner e in let k = mul-le-mul_right f (h l refl) in omega arith

    endless_too : (l : Option ℕ) → (option_map (λ x. x * f) l ≡ None → l ≡ None) × (l ≡ None → option_map (λ x. x * f) l ≡ None)
    endless_too None = ((λ e. refl), (λ e. refl))
    endless_too (Some l) = ((λ e. absurd (some_not_none _ e)), (λ e. absurd (some_not_none _ e)))

    stance : (x : Stance) → SoundStance m x → SoundStance (gear f m) (gear_stance f x)
    stance x h = record {
      move_known = h.move_known;
      hearing_known = λ p v e q s r. h.hearing_known p v e (q * f) s r;
      busy_deaf = λ b p v e q. h.busy_deaf b p v e (q * f);
      lifetime_fits = longer x.lifetime h.lifetime_fits;
      rests = (
        (λ e. ((h.rests.0 e).0, (endless_too x.lifetime).1 (h.rests.0 e).1)),
        (λ e. h.rests.1 (e.0, (endless_too x.lifetime).0 e.1)),
      );
    }

-- a sound machine's scales divide its net scale
scales_divide : (L : ℕ) (ms : Meaning) → AllByRecursion SoundStation ms → AllByRecursion (λ d. 1 ≤ d → d ∣ L) (map (λ m. m.scale) ms) → AllByRecursion (λ m. m.scale * (L / m.scale) ≡ L) ms
scales_divide L [] sound h = tt
scales_divide L (m ∷ ms) sound h = (mul-div_cancel' m.scale (h.0 sound.0.some_scale), scales_divide L ms sound.1 h.1)

exact : (ms : Meaning) → AllByRecursion SoundStation ms → AllByRecursion (λ m. m.scale * factor (net_scale ms) m ≡ net_scale ms) ms
exact ms sound = scales_divide (net_scale ms) ms sound (least_common (map (λ m. m.scale) ms)).common

-- where scale × factor is the net scale, which is not 0, the factor is not 0
some_factor : (s f L : ℕ) → 1 ≤ L → s * f ≡ L → 1 ≤ f
some_factor s zero L some e = absurd (omega arith)
some_factor s (suc f) L some e = omega arith

all_both : {X : Type 0} (P Q R : X → Type 0) → ((x : X) → P x → Q x → R x) → (xs : List X) → AllByRecursion P xs → AllByRecursion Q xs → AllByRecursion R xs
all_both P Q R f [] h k = tt
all_both P Q R f (x ∷ xs) h k = (f x h.0 k.0, all_both P Q R f xs h.1 k.1)

-- as many parts as fit a finer scale, so many times fewer fit the coarser one
parts_alike : (f q : ℕ) (m : StationMeaning) → 1 ≤ f → 1 ≤ m.scale → parts_fit (gear f m) q ≡ parts_fit m (q * f)
parts_alike f q m some scaled = ap₂ ◌&&◌ (ones q) (cross (leb q (1000000000 / (m.scale * f))) refl (leb (q * f) (1000000000 / m.scale)) refl)
  where
    fine : q ≤ 1000000000 / (m.scale * f) ↔ q * (m.scale * f) ≤ 1000000000
    fine = le-div_iff_mul-le (one-le-mul scaled some)

    coarse : q * f ≤ 1000000000 / m.scale ↔ q * f * m.scale ≤ 1000000000
    coarse = le-div_iff_mul-le scaled

    ones : (q : ℕ) → leb 1 q ≡ leb 1 (q * f)
    ones zero = ap (leb 1) (sym (zero-mul f))
    ones (suc q) = le-leb 1 (suc q) (omega arith) ∙ sym (le-leb 1 (suc q * f) (one-le-mul {a = suc q} (omega arith) some))

    cross : (x : Bool) → leb q (1000000000 / (m.scale * f)) ≡ x → (y : Bool) → leb (q * f) (1000000000 / m.scale) ≡ y → x ≡ y
    cross true a true b = refl
    cross false a false b = refl
    cross true a false b = absurd (let h = fine.0 (leb-true _ _ a) in let k : q * f ≤ 1000000000 / m.scale = coarse.1 (omega arith) in let l = leb-false _ _ b in omega arith)
    cross false a true b = absurd (let h = coarse.0 (leb-true _ _ b) in let k : q ≤ 1000000000 / (m.scale * f) = fine.1 (omega arith) in let l = leb-false _ _ a in omega arith)

pub gearing_sound : GearingKeepsSound
gearing_sound = record {
  one_station = gear_sound;
  parts_alike = parts_alike;
  to_net_scale = λ ms sound. All-map (λ m. m.scale ≡ net_scale ms) _ ms (exact ms sound.stations);
  whole_machine = λ ms sound fits. record {
    some_station = simp length-map sound.some_station;
    few_stations = simp length-map sound.few_stations;
    stations = All-map SoundStation _ ms
        (all_both SoundStation (λ m. m.scale * factor (net_scale ms) m ≡ net_scale ms) _
        (λ m s e. gear_sound (factor (net_scale ms) m) m
        (some_factor m.scale _ (net_scale ms) (least_common (map (λ x. x.scale) ms)).some e) (omega arith) s)
        ms sound.stations (exact ms sound.stations));
  };
}
