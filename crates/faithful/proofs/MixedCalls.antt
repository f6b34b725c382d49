-- Nets with any stations replaced by their printed automata answer as the model's net does.
use Rattle.std.proofs.Common.{◌≡◌, ℕ, zero, suc, ◌+◌, ◌<◌, ◌≤◌, Bool, true, false, cond, ◌⊎◌, List, [], ◌∷◌, map, length, get_or, Some, None, Option, sym, refl, ap, ◌∙◌, subst, ap₂, subst₂, inl, inr, arith}
use Rattle.std.proofs.lemmas.Bool.{cases_lt}
use Rattle.semantics.specs.Times.{Order}
use Rattle.semantics.specs.Trees.{Station, ModelNet, station_at, blank_station}
use Rattle.semantics.specs.Scales.{station_scale, model_scale}
use Rattle.semantics.specs.declared.state.Move.{Move}
use Rattle.semantics.specs.Machine.{Stance, StationMeaning, Meaning, blank_meaning, meaning_at, geared}
use Rattle.semantics.specs.Meanings.{station_meaning, automaton_meaning}
use Rattle.semantics.specs.Print.{print_station}
use Rattle.semantics.specs.LawfulModels.{LawfulModel}
use Rattle.faithful.specs.Mixed.{mixed_from, AnswersAlike, MixedNetsAnswerAlike}
use Rattle.faithful.proofs.Twins.{Both, SameMove, Alike, Twin, even_openings, same_telling, answers_agree, make_same, geared_twin}
use Rattle.faithful.proofs.Law.{StationLaw}
use Rattle.faithful.proofs.Printed.{StandsFor, quiet_stands, meaning_alike}
use Rattle.faithful.proofs.Nets.{alike_weaker, one_side, station_law, here_at, here_past, as_many_here, model_scales, here_factor, made_parts}

-- a stance stands for itself, or for the printed location
abbrev Chosen : Bool → Station → ℕ → ℕ → Type 0
Chosen true st s t = StandsFor st s t
Chosen false st s t = s ≡ t

abbrev either : Bool → Order → Station → StationMeaning
either b o st = cond b (automaton_meaning (print_station o st)) (station_meaning o st)

self_alike : (x : Stance) → Alike (λ s t. s ≡ t) x x
self_alike x = record {
  phase = refl;
  sent = refl;
  busy = refl;
  lifetime = refl;
  move = moves x.move;
  hears = λ p v e q h. hears (x.hears p v e q);
}
  where
    moves : (k : Option Move) → Both (SameMove (λ s t. s ≡ t)) k k
    moves None = tt
    moves (Some k) = (refl, refl)

    hears : (k : Option ℕ) → Both (λ s t. s ≡ t) k k
    hears None = tt
    hears (Some k) = refl

chosen_alike : (o : Order) (L : ℕ) (st : Station) → StationLaw L st → (b : Bool) (s t : ℕ) → Chosen b st s t →
    Alike (Chosen b st) ((station_meaning o st).stance s) ((either b o st).stance t)
chosen_alike o L st law true s t h = meaning_alike o L st law s t h
chosen_alike o L st law false s t h = subst (λ k. Alike (λ x y. x ≡ y) ((station_meaning o st).stance s) ((station_meaning o st).stance k)) h (self_alike ((station_meaning o st).stance s))

chosen_opening : (o : Order) (L : ℕ) (st : Station) → StationLaw L st → (b : Bool) → Chosen b st (station_meaning o st).opening (either b o st).opening
chosen_opening o L st law true = quiet_stands st st.opening law.opening_here
chosen_opening o L st law false = refl

either_scale : (b : Bool) (o : Order) (st : Station) → (either b o st).scale ≡ station_scale st
either_scale true o st = refl
either_scale false o st = refl

module _ (replaced : ℕ → Bool) (o : Order) where
  mixed_at : (sts : List Station) (j i k : ℕ) → i < length sts → k ≡ j + i → meaning_at (mixed_from replaced o j sts) i ≡ either (replaced k) o (get_or sts i blank_station)
  mixed_at [] j i k l e = absurd (omega arith)
  mixed_at (st ∷ sts) j zero k l e = ap (λ x. either (replaced x) o st) (let f : j ≡ k = omega arith in f)
  mixed_at (st ∷ sts) j (suc i) k l e = mixed_at sts (suc j) i k (omega arith) (omega arith)

  mixed_past : (sts : List Station) (j i : ℕ) → length sts ≤ i → meaning_at (mixed_from replaced o j sts) i ≡ blank_meaning
  mixed_past [] j i l = refl
  mixed_past (st ∷ sts) j zero l = absurd (omega arith)
  mixed_past (st ∷ sts) j (suc i) l = mixed_past sts (suc j) i (omega arith)

  mixed_long : (sts : List Station) (j : ℕ) → length (mixed_from replaced o j sts) ≡ length sts
  mixed_long [] j = refl
  mixed_long (st ∷ sts) j = ap suc (mixed_long sts (suc j))

  mixed_scales : (sts : List Station) (j : ℕ) → map (λ x. x.scale) (mixed_from replaced o j sts) ≡ map station_scale sts
  mixed_scales [] j = refl
  mixed_scales (st ∷ sts) j = ap₂ (λ x r. x ∷ r) (either_scale (replaced j) o st) (mixed_scales sts (suc j))

module _ (m : ModelNet) (lawful : LawfulModel m) (replaced : ℕ → Bool) where
  abbrev n : ℕ
  n = length m.stations

  abbrev mixed : Meaning
  mixed = mixed_from replaced m.order 0 m.stations

  abbrev Stand : ℕ → ℕ → ℕ → Type 0
  Stand i s t = i < n → Chosen (replaced i) (station_at m i) s t

  there_at : (i : ℕ) → i < n → meaning_at mixed i ≡ either (replaced i) m.order (station_at m i)
  there_at i l = mixed_at replaced m.order m.stations 0 i i l (omega arith)

  alike : (i s t : ℕ) → (i < n) ⊎ (n ≤ i) → Stand i s t → Alike (Stand i) ((meaning_at (one_side m lawful) i).stance s) ((meaning_at mixed i).stance t)
  alike i s t (inl l) h =
      subst₂ (λ x y. Alike (Stand i) (x.stance s) (y.stance t)) (sym (here_at m lawful i l)) (sym (there_at i l))
      (alike_weaker (Chosen (replaced i) (station_at m i)) (Stand i) (λ a b k _. k) _ _
      (chosen_alike m.order (model_scale m) (station_at m i) (station_law m lawful i l) (replaced i) s t (h l)))
  alike i s t (inr l) h =
      subst₂ (λ x y. Alike (Stand i) (x.stance s) (y.stance t)) (sym (here_past m lawful i l)) (sym (mixed_past replaced m.order m.stations 0 i l))
      (record { phase = refl; sent = refl; busy = refl; lifetime = refl; move = tt; hears = λ p v e q h. tt })

  twin : Twin Stand (one_side m lawful) mixed
  twin = record {
    as_many = as_many_here m lawful ∙ sym (mixed_long replaced m.order m.stations 0);
    openings = λ i l.
        subst₂ (λ x y. Chosen (replaced i) (station_at m i) x.opening y.opening) (sym (here_at m lawful i l)) (sym (there_at i l))
        (chosen_opening m.order (model_scale m) (station_at m i) (station_law m lawful i l) (replaced i));
    alike = λ i s t h. alike i s t (cases_lt i n) h;
  }

  scales : map (λ x. x.scale) (one_side m lawful) ≡ map (λ x. x.scale) mixed
  scales = model_scales m.order m.stations ∙ sym (mixed_scales replaced m.order m.stations 0)

  net : Twin Stand (geared (one_side m lawful)) (geared mixed)
  net = geared_twin Stand (one_side m lawful) mixed twin scales (here_factor m lawful) (λ i s t past here. absurd (let k = as_many_here m lawful in omega arith))

  answer_alike : AnswersAlike replaced m
  answer_alike =
      let start = even_openings Stand (one_side m lawful) mixed twin.as_many twin.openings in
      record {
        same_making = λ q slots. make_same Stand (one_side m lawful) mixed twin scales m.paths m.order q slots;
        same_answers = λ q slots es made calls. (answers_agree Stand (geared (one_side m lawful)) (geared mixed) net m.order q (made_parts m q slots es made) m.paths calls _ _ start).0;
        same_tellings = λ q slots es made calls k. same_telling Stand (geared (one_side m lawful)) (geared mixed) net m.order q _ _
            (answers_agree Stand (geared (one_side m lawful)) (geared mixed) net m.order q (made_parts m q slots es made) m.paths calls _ _ start).1 k;
      }

pub mixed_nets_answer_alike : MixedNetsAnswerAlike
mixed_nets_answer_alike m lawful replaced = answer_alike m lawful replaced
