-- A station by the model's rules is the atomic model of its phases.
use Rattle.std.proofs.Common.{◌≡◌, ℕ, zero, suc, ◌<◌, Bool, true, false, cond, ◌⊎◌, ◌↔◌, List, [], ◌∷◌, length, drop, Some, None, Option, sym, refl, ap, ◌∙◌, ap₂, inl, inr, arith}
use Rattle.std.specs.Option.{option_map, option_or}
use Rattle.std.specs.List.{AllByRecursion}
use Rattle.std.proofs.ByRecursion.{All-get_or}
use Rattle.std.proofs.lemmas.Bool.{eqb-true, eq-eqb, and_parts, leb-true, le-leb, both_ways}
use Rattle.semantics.specs.Times.{Fraction, Proper, plus, over, zero_time, Order}
use Rattle.semantics.specs.Trees.{Word, Path, Phase, endless, lasting, lifetime_of, words_of, edges_of, next_of, phase_at, blank_phase, Station}
use Rattle.semantics.specs.Fits.{edge_fits, first}
use Rattle.semantics.specs.Calls.{lowest}
use Rattle.semantics.specs.Runs.{Rules, Turn, lowest_busy, lowest_due}
use Rattle.semantics.specs.Limits.{AtMostOne}
use Rattle.semantics.specs.LawfulModels.{LawfulPhase, LawfulStation}
use Rattle.semantics.specs.ModelRules.{Any, ModelState, fresh, lasts, is_over, SendsNext, Leaves, rules_of}
use Rattle.semantics.specs.Devs.{Burst, burst, first_word, after_word, hear, EndsAt, NotPast, aged, moved, StepsAsAtomic, ModelsAreDevs}
use Rattle.semantics.proofs.Options.{some_not_none, inner}
use Rattle.semantics.proofs.Lowest.{is_lowest, all_fail, found, none_found}

over_ends : (l : Option Fraction) (t : Fraction) → (is_over l t ≡ true → EndsAt l t) × (EndsAt l t → is_over l t ≡ true)
over_ends None t = ((λ e. both_ways false refl e), (λ e. absurd e))
over_ends (Some l) t = (eqb-true _ _, eq-eqb _ _)

lasts_to : (l : Option Fraction) (t : Fraction) → (lasts l t ≡ true) ↔ NotPast l t
lasts_to None t = ((λ e. tt), (λ e. refl))
lasts_to (Some l) t = (leb-true _ _, le-leb _ _)

-- With these words still to send.
sends_so : (x : ModelState) (next : ℕ) (ws : List Word) (w : Option Word) (y : ModelState) → SendsNext x next ws w y →
    (w ≡ first_word ws) × (y ≡ moved (after_word x.phase x.sent next ws) x.age)
sends_so x next [] w y h = h
sends_so x next (a ∷ []) w y h = h
sends_so x next (a ∷ b ∷ ws) w y h = h

may_send : (x : ModelState) (next : ℕ) (ws : List Word) →
    SendsNext x next ws (first_word ws) (moved (after_word x.phase x.sent next ws) x.age)
may_send x next [] = (refl, refl)
may_send x next (a ∷ []) = (refl, refl)
may_send x next (a ∷ b ∷ ws) = (refl, refl)

leaves_so : (f : Phase) (x : ModelState) (w : Option Word) (y : ModelState) → Leaves f x w y → SendsNext x (next_of f) (drop x.sent (words_of f)) w y
leaves_so (endless edges) x w y h = absurd h
leaves_so (lasting life words next edges) x w y h = h

may_leave : (f : Phase) (x : ModelState) (w : Option Word) (y : ModelState) (l : Fraction) → lifetime_of f ≡ Some l →
    SendsNext x (next_of f) (drop x.sent (words_of f)) w y → Leaves f x w y
may_leave (endless edges) x w y l e h = absurd (some_not_none l (sym e))
may_leave (lasting life words next edges) x w y l e h = h

-- Of edges of which at most one fits, any that fits is the first.
none_fits : {A : Type 0} (fits : A → Bool) (goal : A → ℕ) (xs : List A) → AllByRecursion (λ x. fits x ≡ false) xs → first fits goal xs ≡ None
none_fits fits goal [] h = refl
none_fits fits goal (x ∷ xs) h = ap₂ (λ b r. cond b (Some (goal x)) r) h.0 (none_fits fits goal xs h.1)

fits_none : {A : Type 0} (fits : A → Bool) (goal : A → ℕ) (xs : List A) → first fits goal xs ≡ None → AllByRecursion (λ x. fits x ≡ false) xs
fits_none fits goal [] e = tt
fits_none fits goal (x ∷ xs) e = go (fits x) refl (fits_none fits goal xs)
  where
    go : (b : Bool) → fits x ≡ b → (first fits goal xs ≡ None → AllByRecursion (λ y. fits y ≡ false) xs) → AllByRecursion (λ y. fits y ≡ false) (x ∷ xs)
    go true f rest = absurd (some_not_none (goal x) (sym (ap (λ b. cond b (Some (goal x)) (first fits goal xs)) f) ∙ e))
    go false f rest = (f, rest (sym (ap (λ b. cond b (Some (goal x)) (first fits goal xs)) f) ∙ e))

not_any : {A : Type 0} (fits : A → Bool) (Q : A → Type 0) (xs : List A) → AllByRecursion (λ x. fits x ≡ false) xs → Any (λ x. (fits x ≡ true) × Q x) xs → ⊥
not_any fits Q [] h a = a
not_any fits Q (x ∷ xs) h (inl a) = both_ways (fits x) h.0 a.0
not_any fits Q (x ∷ xs) h (inr a) = not_any fits Q xs h.1 a

any_first : {A Y : Type 0} (fits : A → Bool) (goal : A → ℕ) (make : ℕ → Y) (y : Y) (xs : List A) → AtMostOne fits xs →
    Any (λ x. (fits x ≡ true) × (y ≡ make (goal x))) xs → (g : ℕ) × ((first fits goal xs ≡ Some g) × (y ≡ make g))
any_first fits goal make y [] one a = absurd a
any_first fits goal make y (x ∷ xs) one (inl a) = (goal x, (ap (λ b. cond b (Some (goal x)) (first fits goal xs)) a.0, a.1))
any_first fits goal make y (x ∷ xs) one (inr a) = go (fits x) refl (any_first fits goal make y xs one.1 a)
  where
    go : (b : Bool) → fits x ≡ b → ((g : ℕ) × ((first fits goal xs ≡ Some g) × (y ≡ make g))) →
        (g : ℕ) × ((first fits goal (x ∷ xs) ≡ Some g) × (y ≡ make g))
    go true f rest = absurd (not_any fits _ xs (one.0 f) a)
    go false f (g, (e, r)) = (g, (ap (λ b. cond b (Some (goal x)) (first fits goal xs)) f ∙ e, r))

first_any : {A Y : Type 0} (fits : A → Bool) (goal : A → ℕ) (make : ℕ → Y) (y : Y) (g : ℕ) → y ≡ make g → (xs : List A) → first fits goal xs ≡ Some g →
    Any (λ x. (fits x ≡ true) × (y ≡ make (goal x))) xs
first_any fits goal make y g r [] e = absurd (some_not_none g (sym e))
first_any fits goal make y g r (x ∷ xs) e = go (fits x) refl (first_any fits goal make y g r xs)
  where
    go : (b : Bool) → fits x ≡ b → (first fits goal xs ≡ Some g → Any (λ z. (fits z ≡ true) × (y ≡ make (goal z))) xs) →
        Any (λ z. (fits z ≡ true) × (y ≡ make (goal z))) (x ∷ xs)
    go true f rest = let k : g ≡ goal x = sym (inner (sym (ap (λ b. cond b (Some (goal x)) (first fits goal xs)) f) ∙ e)) in inl (f, r ∙ ap make k)
    go false f rest = inr (rest (sym (ap (λ b. cond b (Some (goal x)) (first fits goal xs)) f) ∙ e))

mapped_some : (o : Option ℕ) (s : Burst) → option_map (λ g. burst g 0) o ≡ Some s → (g : ℕ) × ((o ≡ Some g) × (s ≡ burst g 0))
mapped_some None s e = absurd (some_not_none s (sym e))
mapped_some (Some g) s e = (g, (refl, sym (inner e)))

mapped_none : (o : Option ℕ) → option_map (λ g. burst g 0) o ≡ None → o ≡ None
mapped_none None e = refl
mapped_none (Some g) e = absurd (some_not_none _ e)

module _ (o : Order) (scale : ℕ) (st : Station) (lawful : LawfulStation o st) where
  module _ (i : ℕ) (t : Fraction) (here : i < length st.phases) (proper : Proper t) where
    abbrev f : Phase
    f = phase_at st.phases i

    lawful_here : LawfulPhase o (length st.phases) f
    lawful_here = All-get_or (LawfulPhase o (length st.phases)) st.phases i blank_phase here lawful.phases_fit

    quiet_steps : StepsAsAtomic o scale st (record { phase = i; sent = 0; age = t })
    quiet_steps = record {
      due_at_end = ((λ e. (refl, (over_ends (lifetime_of f) t).0 e)), (λ h. (over_ends (lifetime_of f) t).1 h.1));
      waits_to_end = λ z d. lasts_to (lifetime_of f) (plus t (over d scale));
      moves_so = λ w y h. sends_so (record { phase = i; sent = 0; age = t }) (next_of f) (words_of f) w y (leaves_so f _ w y h);
      may_move = λ l e. may_leave f _ _ _ l e (may_send (record { phase = i; sent = 0; age = t }) (next_of f) (words_of f));
      hears_so = λ w y. ((λ h. forth w y h.1), (λ h. back w y h));
      deaf_so = λ w. ((λ h. deaf w h), (λ e. inr (fits_none _ (λ e. e.goal) (edges_of f) (mapped_none _ e))));
    }
      where
        forth : (w : Word) (y : ModelState) → Any (λ e. (edge_fits o (lifetime_of f) w.port w.value t e ≡ true) × (y ≡ fresh e.goal)) (edges_of f) →
            (s : Burst) × ((hear o st.phases i 0 t w ≡ Some s) × (y ≡ aged s zero_time))
        forth w y a =
            let r = any_first _ (λ e. e.goal) fresh y (edges_of f) (lawful_here.edges_apart w.port w.value t proper) a in
            (burst r.0 0, (ap (option_map (λ g. burst g 0)) r.1.0, r.1.1))

        back : (w : Word) (y : ModelState) → ((s : Burst) × ((hear o st.phases i 0 t w ≡ Some s) × (y ≡ aged s zero_time))) →
            (◌≡◌ {A = ℕ} 0 0) × Any (λ e. (edge_fits o (lifetime_of f) w.port w.value t e ≡ true) × (y ≡ fresh e.goal)) (edges_of f)
        back w y (s, (e, r)) =
            let m = mapped_some _ s e in
            (refl, first_any _ (λ e. e.goal) fresh y m.0 (r ∙ ap (λ z. aged z zero_time) m.1.1) (edges_of f) m.1.0)

        deaf : (w : Word) → (0 < 0) ⊎ AllByRecursion (λ e. edge_fits o (lifetime_of f) w.port w.value t e ≡ false) (edges_of f) → hear o st.phases i 0 t w ≡ None
        deaf w (inl l) = absurd (omega arith)
        deaf w (inr h) = ap (option_map (λ g. burst g 0)) (none_fits _ (λ e. e.goal) (edges_of f) h)

    sent_steps : (j : ℕ) → StepsAsAtomic o scale st (record { phase = i; sent = suc j; age = t })
    sent_steps j = record {
      due_at_end = ((λ e. absurd (let z = eqb-true (suc j) 0 (and_parts _ _ e).0 in omega arith)), (λ h. absurd (let z = h.0 in omega arith)));
      waits_to_end = λ z d. absurd (omega arith);
      moves_so = λ w y h. sends_so (record { phase = i; sent = suc j; age = t }) (next_of f) (drop (suc j) (words_of f)) w y (leaves_so f _ w y h);
      may_move = λ l e. may_leave f _ _ _ l e (may_send (record { phase = i; sent = suc j; age = t }) (next_of f) (drop (suc j) (words_of f)));
      hears_so = λ w y. ((λ h. absurd (let z = h.0 in omega arith)), (λ h. absurd (some_not_none h.0 (sym h.1.0))));
      deaf_so = λ w. ((λ h. refl), (λ e. inl (omega arith)));
    }

stations_are : (o : Order) (scale : ℕ) (st : Station) → LawfulStation o st →
    (x : ModelState) → x.phase < length st.phases → Proper x.age → StepsAsAtomic o scale st x
stations_are o scale st lawful x here proper = go x.sent
  where
    go : (j : ℕ) → StepsAsAtomic o scale st (record { phase = x.phase; sent = j; age = x.age })
    go zero = quiet_steps o scale st lawful x.phase x.age here proper
    go (suc j) = sent_steps o scale st lawful x.phase x.age here proper j

-- The turn of a step, by the lowest busy station and the lowest due one.
module _ {X : Type 0} (rules : ℕ → Rules X) (n : ℕ) (order : Order) (paths : List Path) (σ : ℕ → X) where
  abbrev busy : ℕ → Bool
  busy k = (rules k).busy (σ k)

  abbrev due : ℕ → Bool
  due k = (rules k).due (σ k)

  pub turn_selects : (i : ℕ) → Turn rules n order paths σ i → option_or (lowest busy 0 n) (lowest due 0 n) ≡ Some i
  turn_selects i (lowest_busy l here below) = ap (λ x. option_or x (lowest due 0 n)) (found busy 0 n i (omega arith) (omega arith) here (λ k _. below k))
  turn_selects i (lowest_due quiet l here below) =
      ap₂ option_or (none_found busy 0 n (λ k a b. quiet k (omega arith))) (found due 0 n i (omega arith) (omega arith) here (λ k _. below k))

  pub selects_turn : (i : ℕ) → option_or (lowest busy 0 n) (lowest due 0 n) ≡ Some i → Turn rules n order paths σ i
  selects_turn i e = go (lowest busy 0 n) refl (lowest due 0 n) refl e
    where
      go : (b : Option ℕ) → lowest busy 0 n ≡ b → (d : Option ℕ) → lowest due 0 n ≡ d → option_or b d ≡ Some i → Turn rules n order paths σ i
      go (Some k) eb d ed h =
          let r = is_lowest busy 0 n i (eb ∙ h) in
          lowest_busy (omega arith) r.passes (λ j l. r.below j (omega arith) l)
      go None eb (Some k) ed h =
          let r = is_lowest due 0 n i (ed ∙ h) in
          lowest_due (λ j l. all_fail busy 0 n eb j (omega arith) (omega arith)) (omega arith) r.passes (λ j l. r.below j (omega arith) l)
      go None eb None ed h = absurd (some_not_none i (sym h))

pub models_are_devs : ModelsAreDevs
models_are_devs = record {
  stations = stations_are;
  turns = λ m σ i. (turn_selects (rules_of m) _ m.order m.paths σ i, selects_turn (rules_of m) _ m.order m.paths σ i);
}
