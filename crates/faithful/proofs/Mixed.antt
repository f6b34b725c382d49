-- Nets in which each station goes by its own rules run as the model's net does.
use Rattle.std.proofs.Common.{◌≡◌, ℕ, ◌+◌, ◌*◌, ◌<◌, true, false, ◌⊎◌, List, length, Option, sym, refl, ap, ◌∙◌, subst, ap₂, subst₂, inl, inr, arith}
use native.Mathlib.Nat.{suc_inj, one-le-mul}
use Rattle.std.proofs.lemmas.Bool.{eqb-true, eq-eqb}
use Rattle.semantics.specs.Times.{Fraction, Proper}
use Rattle.semantics.specs.Trees.{Word, ModelNet, station_at, automaton_at, location_at, phase_at}
use Rattle.semantics.specs.Scales.{station_scale, model_scale}
use Rattle.semantics.specs.Events.{Event}
use Rattle.semantics.specs.Runs.{Act, Rules}
use Rattle.semantics.specs.ModelRules.{ModelState}
use Rattle.semantics.specs.ModelRules as model
use Rattle.semantics.specs.AutomatonRules as automata
use Rattle.semantics.specs.Print.{place_of, print, print_station}
use Rattle.semantics.specs.LawfulModels.{LawfulModel}
use Rattle.faithful.specs.Mixed.{either_rules, MixedState, StandsIn, StandIn, SameMixedRuns, MixedNetsRunAlike}
use Rattle.faithful.specs.Mixed as mixed
use Rattle.semantics.proofs.Simulation.{Follows, run_too, run_proper}
use Rattle.faithful.proofs.Locations.{width, split_place, all_long}
use Rattle.faithful.proofs.Printed.{alike_at}
use Rattle.faithful.proofs.Stations.{Matches}
use Rattle.faithful.proofs.Nets.{station_law, printed_at}
use Rattle.faithful.proofs.Faithful.{stance_phase, stance_sent, suits_forward, suits_back, regroup}

module _ {X Y : Type 0} where
  -- the first kind's state itself, or the second kind's that stands for it
  abbrev pub OrOther : (X → Y → Type 0) → X → X ⊎ Y → Type 0
  OrOther S x (inl x') = x ≡ x'
  OrOther S x (inr y) = S x y

  module _ (A : Rules X) (B : Rules Y) (S : X → Y → Type 0) where
    abbrev E : Rules (X ⊎ Y)
    E = either_rules A B

    pub into_either : Follows Proper A B S → Follows Proper A E (OrOther S)
    into_either f = record {
      busy = busy;
      due = due;
      phase = phase;
      may_wait = may_wait;
      later = later;
      hears = hears;
      deaf = deaf;
      moves = moves;
    }
      where
        busy : (x : X) (z : X ⊎ Y) → OrOther S x z → A.busy x ≡ E.busy z
        busy x (inl x') s = ap A.busy s
        busy x (inr y) s = f.busy x y s

        due : (x : X) (z : X ⊎ Y) → OrOther S x z → A.due x ≡ E.due z
        due x (inl x') s = ap A.due s
        due x (inr y) s = f.due x y s

        phase : (x : X) (z : X ⊎ Y) → OrOther S x z → A.phase x ≡ E.phase z
        phase x (inl x') s = ap A.phase s
        phase x (inr y) s = f.phase x y s

        may_wait : (d : Fraction) (x : X) (z : X ⊎ Y) → Proper d → A.busy x ≡ false → OrOther S x z → A.may_wait d x ≡ E.may_wait d z
        may_wait d x (inl x') g q s = ap (A.may_wait d) s
        may_wait d x (inr y) g q s = f.may_wait d x y g q s

        later : (d : Fraction) (x : X) (z : X ⊎ Y) → Proper d → A.may_wait d x ≡ true → OrOther S x z → OrOther S (A.later d x) (E.later d z)
        later d x (inl x') g may s = ap (A.later d) s
        later d x (inr y) g may s = f.later d x y g may s

        hears : (x x' : X) (z : X ⊎ Y) (p v : ℕ) → OrOther S x z → A.Hears x p v x' → (z' : X ⊎ Y) × (E.Hears z p v z' × OrOther S x' z')
        hears x x' (inl x'') p v s h = (inl x', (subst (λ k. A.Hears k p v x') s h, refl))
        hears x x' (inr y) p v s h = let r = f.hears x x' y p v s h in (inr r.0, (r.1.0, r.1.1))

        deaf : (x : X) (z : X ⊎ Y) (p v : ℕ) → OrOther S x z → A.Deaf x p v → E.Deaf z p v
        deaf x (inl x') p v s h = subst (λ k. A.Deaf k p v) s h
        deaf x (inr y) p v s h = f.deaf x y p v s h

        moves : (x x' : X) (z : X ⊎ Y) (w : Option Word) → (A.busy x ≡ true) ⊎ (A.due x ≡ true) → OrOther S x z → A.Moves x w x' → (z' : X ⊎ Y) × (E.Moves z w z' × OrOther S x' z')
        moves x x' (inl x'') w r s h = (inl x', (subst (λ k. A.Moves k w x') s h, refl))
        moves x x' (inr y) w r s h = let t = f.moves x x' y w r s h in (inr t.0, (t.1.0, t.1.1))

    pub out_of_either : Follows Proper B A (λ y x. S x y) → Follows Proper E A (λ z x. OrOther S x z)
    out_of_either f = record {
      busy = busy;
      due = due;
      phase = phase;
      may_wait = may_wait;
      later = later;
      hears = hears;
      deaf = deaf;
      moves = moves;
    }
      where
        busy : (z : X ⊎ Y) (x : X) → OrOther S x z → E.busy z ≡ A.busy x
        busy (inl x') x s = sym (ap A.busy s)
        busy (inr y) x s = f.busy y x s

        due : (z : X ⊎ Y) (x : X) → OrOther S x z → E.due z ≡ A.due x
        due (inl x') x s = sym (ap A.due s)
        due (inr y) x s = f.due y x s

        phase : (z : X ⊎ Y) (x : X) → OrOther S x z → E.phase z ≡ A.phase x
        phase (inl x') x s = sym (ap A.phase s)
        phase (inr y) x s = f.phase y x s

        may_wait : (d : Fraction) (z : X ⊎ Y) (x : X) → Proper d → E.busy z ≡ false → OrOther S x z → E.may_wait d z ≡ A.may_wait d x
        may_wait d (inl x') x g q s = sym (ap (A.may_wait d) s)
        may_wait d (inr y) x g q s = f.may_wait d y x g q s

        later : (d : Fraction) (z : X ⊎ Y) (x : X) → Proper d → E.may_wait d z ≡ true → OrOther S x z → OrOther S (A.later d x) (E.later d z)
        later d (inl x') x g may s = ap (A.later d) s
        later d (inr y) x g may s = f.later d y x g may s

        hears : (z z' : X ⊎ Y) (x : X) (p v : ℕ) → OrOther S x z → E.Hears z p v z' → (x' : X) × (A.Hears x p v x' × OrOther S x' z')
        hears (inl a) (inl b) x p v s h = (b, (subst (λ k. A.Hears k p v b) (sym s) h, refl))
        hears (inl a) (inr b) x p v s h = absurd h
        hears (inr a) (inl b) x p v s h = absurd h
        hears (inr a) (inr b) x p v s h = let r = f.hears a b x p v s h in (r.0, (r.1.0, r.1.1))

        deaf : (z : X ⊎ Y) (x : X) (p v : ℕ) → OrOther S x z → E.Deaf z p v → A.Deaf x p v
        deaf (inl x') x p v s h = subst (λ k. A.Deaf k p v) (sym s) h
        deaf (inr y) x p v s h = f.deaf y x p v s h

        moves : (z z' : X ⊎ Y) (x : X) (w : Option Word) → (E.busy z ≡ true) ⊎ (E.due z ≡ true) → OrOther S x z → E.Moves z w z' → (x' : X) × (A.Moves x w x' × OrOther S x' z')
        moves (inl a) (inl b) x w r s h = (b, (subst (λ k. A.Moves k w b) (sym s) h, refl))
        moves (inl a) (inr b) x w r s h = absurd h
        moves (inr a) (inl b) x w r s h = absurd h
        moves (inr a) (inr b) x w r s h = let t = f.moves a b x w r s h in (t.0, (t.1.0, t.1.1))

module _ (m : ModelNet) (lawful : LawfulModel m) where
  abbrev Joint : ℕ → ModelState → MixedState → Type 0
  Joint i = OrOther (Matches (station_at m i))

  time_back : (cn ad an s cd : ℕ) → cn * ad ≡ an * (cd * s) → cn * ad ≡ an * s * cd
  time_back cn ad an s cd e = omega arith

  joint : (i : ℕ) → i < length m.stations → (x : ModelState) (z : MixedState) → StandsIn (station_at m i) (automaton_at (print m) i) x z → Joint i x z
  joint i l x (inl z) h = h
  joint i l x (inr y) h =
      let st = station_at m i in
      let law = station_law m lawful i l in
      let ea = printed_at m lawful i l in
      let inside = subst (λ a. y.location < length a.locations) ea h.0 in
      let r = split_place m.order (station_scale st) st.phases st.phases 0 0 y.location inside in
      let a = alike_at m.order (model_scale m) st law r.0 r.1 r.2 r.3 y.location r.4 in
      let ei : r.0 ≡ x.phase = suc_inj (sym (stance_phase m.order st r.0 r.1) ∙ a.phase ∙ sym (ap (λ p. (location_at p y.location).phase) ea) ∙ h.1) in
      let ej : r.1 ≡ x.sent = sym (stance_sent m.order st r.0 r.1) ∙ a.sent ∙ sym (ap (λ p. (location_at p y.location).sent) ea) ∙ h.2 in
      record {
        here = subst (λ k. k < length st.phases) ei r.2;
        fewer = subst₂ (λ k j. j < width (phase_at st.phases k)) ei ej r.3;
        location = r.4 ∙ ap₂ (λ k j. place_of st.phases k + j) ei ej;
        shows = record {
          scale_some = law.some_scale;
          age_some = h.4;
          clock_some = h.3;
          equal = time_back y.clock.numerator x.age.denominator x.age.numerator (station_scale st) y.clock.denominator (eqb-true _ _ h.5.1);
        };
      }

  stand : (τ : ℕ → ModelState) (ω : ℕ → MixedState) → ((i : ℕ) → i < length m.stations → Joint i (τ i) (ω i)) → StandIn m τ ω
  stand τ ω h i l = go (ω i) (h i l)
    where
      go : (z : MixedState) → Joint i (τ i) z → StandsIn (station_at m i) (automaton_at (print m) i) (τ i) z
      go (inl z) t = t
      go (inr y) t =
          let st = station_at m i in
          let ea = printed_at m lawful i l in
          let law = station_law m lawful i l in
          let al = alike_at m.order (model_scale m) st law (τ i).phase (τ i).sent t.here t.fewer y.location t.location in (
            subst (λ a. y.location < length a.locations) (sym ea)
                (subst (λ k. k < length (print_station m.order st).locations) (sym t.location)
                (all_long m.order (station_scale st) st.phases st.phases (τ i).phase (τ i).sent 0 0 t.here t.fewer)),
            ap (λ a. (location_at a y.location).phase) ea ∙ sym al.phase ∙ stance_phase m.order st (τ i).phase (τ i).sent,
            ap (λ a. (location_at a y.location).sent) ea ∙ sym al.sent ∙ stance_sent m.order st (τ i).phase (τ i).sent,
            t.shows.clock_some,
            t.shows.age_some,
            (
              one-le-mul t.shows.clock_some t.shows.scale_some,
              eq-eqb _ _ (t.shows.equal ∙ regroup (τ i).age.numerator (station_scale st) y.clock.denominator),
            ),
          )

  runs_alike : (σ : ℕ → ModelState) (ζ : ℕ → MixedState) → StandIn m σ ζ → (acts : List Act) (es : List Event) → SameMixedRuns m σ ζ acts es
  runs_alike σ ζ h acts es =
      let n = length m.stations in
      let r : (i : ℕ) → i < n → Joint i (σ i) (ζ i) = λ i l. joint i l (σ i) (ζ i) (h i l) in
      record {
        forth = λ τ run.
            let t = run_too Proper (model.rules_of m) (mixed.rules_of m) n Joint (λ i l. into_either (model.rules_of m i) (automata.rules_of (print m) i) (Matches (station_at m i)) (suits_forward m lawful 1 (omega arith) i l)) m.order m.paths ζ r (run_proper run) run in
            (t.0, (t.1.0, stand τ t.0 t.1.1));
        back = λ ω run.
            let t = run_too Proper (mixed.rules_of m) (model.rules_of m) n (λ i z x. Joint i x z) (λ i l. out_of_either (model.rules_of m i) (automata.rules_of (print m) i) (Matches (station_at m i)) (suits_back m lawful 1 (omega arith) i l)) m.order m.paths σ r (run_proper run) run in
            (t.0, (t.1.0, stand t.0 ω t.1.1));
      }

pub mixed_nets_run_alike : MixedNetsRunAlike
mixed_nets_run_alike m lawful = runs_alike m lawful
