-- Transitions, locations and automata keep the rules of an automaton book exactly if they are lawful in its tree.
use Rattle.std.proofs.Common.{◌≡◌, ℕ, ◌<◌, false, ltb, ◌↔◌, List, length, arith}
use Rattle.std.specs.List.{ContainsAt as Has}
use Rattle.std.proofs.lemmas.List.{length-map}
use Rattle.std.proofs.lemmas.Bool.{not_from_false, not-true}
use Rattle.book.specs.Chains.{whole_records}
use Rattle.links.specs.Queues.{Distinct}
use Rattle.records.specs.Fits.{Bytes}
use Rattle.semantics.specs.Books.{place_in, read_transition, read_location, read_automaton}
use Rattle.semantics.specs.LawfulAutomata.{LawfulTransition, LawfulLocation, LawfulAutomaton}
use Rattle.spans.proofs.Holding.{holds_exactly}
use Rattle.visits.specs.Visits.{phases}
use Rattle.fields.specs.Fields.{automaton_at, location_at, transition_at}
use Rattle.automaton_rules.specs.Rules.{outside, wrong_scale, most_ticks, wrong_bound, wrong_transition}
use Rattle.automaton_windows.specs.Rules.{empty_guard, shared_moment}
use Rattle.automaton_moves.specs.Rules.{wrong_location}
use Rattle.kept_rules.proofs.Everywhere.{all_mapped, mapped_has}
use Rattle.tree_laws.proofs.Records.{rest_byte}
use Rattle.tree_laws.proofs.Chains.{not_outside}
use Rattle.lawful_automata.proofs.Reading.{locations_of, transitions_of, all_locations}
use Rattle.lawful_automata.proofs.Limits.{phase_fits, label_fits, scale_right, bound_right, limits_right}
use Rattle.lawful_automata.proofs.Hearings.{moments_apart}
use Rattle.lawful_automata.proofs.Moves.{location_right}

-- what the rules say of a transition, a location and an automaton
module _ (b : List ℕ) where
  pub record TransitionKeeps (a l t : ℕ) : Type 0 where
    pub goal_inside : outside b a (transition_at b t).goal ≡ false
    pub limits : wrong_transition (most_ticks b a) (transition_at b t) ≡ false
    pub guard_holds : empty_guard b l t ≡ false
    pub alone : shared_moment b l t ≡ false

  pub record LocationKeeps (a l : ℕ) : Type 0 where
    pub limits : wrong_bound (most_ticks b a) (location_at b l).bound ≡ false
    pub moves : wrong_location b l ≡ false
    pub transitions : (t : ℕ) → Has (transitions_of b l) t → TransitionKeeps a l t

  pub record AutomatonKeeps (a : ℕ) : Type 0 where
    pub opening_inside : outside b a (automaton_at b a).opening ≡ false
    pub limits : wrong_scale (automaton_at b a).scale ≡ false
    pub locations : (l : ℕ) → Has (locations_of b a) l → LocationKeeps a l

module _ (b : List ℕ) (bytes : Bytes b) (short : ltb 2000 (whole_records b) ≡ false) where
  -- a record is a location of automaton a exactly if its place is one of a's
  placed : (a k : ℕ) → outside b a k ≡ false ↔ place_in (locations_of b a) k < length (locations_of b a)
  placed a = not_outside (phases b a) (locations_of b a) (all_locations b short a)

  locations_many : (a : ℕ) → length (read_automaton b a).locations ≡ length (locations_of b a)
  locations_many a = length-map (locations_of b a) (read_location b (locations_of b a))

  module _ (a l : ℕ) where
    transition_lawful : (t : ℕ) → TransitionKeeps b a l t →
        LawfulTransition (length (read_automaton b a).locations) (automaton_at b a).scale (location_at b l).bound (read_transition b (locations_of b a) t)
    transition_lawful t k =
        let guard = (transition_at b t).guard in
        let fits = (limits_right (most_ticks b a) (transition_at b t) (label_fits b bytes t)).0 k.limits in
        record {
          goal_here = let many = locations_many a in let here = (placed a (transition_at b t).goal).0 k.goal_inside in omega arith;
          label_fits = fits.2;
          low_fits = fits.0;
          high_fits = fits.1;
          guard_holds = (holds_exactly.guards (location_at b l).bound guard).0 (not_from_false (empty_guard b l t) k.guard_holds);
        }

    transition_kept : (t : ℕ) → shared_moment b l t ≡ false →
        LawfulTransition (length (read_automaton b a).locations) (automaton_at b a).scale (location_at b l).bound (read_transition b (locations_of b a) t) → TransitionKeeps b a l t
    transition_kept t alone h =
        let guard = (transition_at b t).guard in
        record {
          goal_inside = (placed a (transition_at b t).goal).1 (let many = locations_many a in let here = h.goal_here in omega arith);
          limits = (limits_right (most_ticks b a) (transition_at b t) (label_fits b bytes t)).1 (h.low_fits, h.high_fits, h.label_fits);
          guard_holds = not-true (empty_guard b l t) ((holds_exactly.guards (location_at b l).bound guard).1 h.guard_holds);
          alone = alone;
        }

    -- where no transition stands twice
    module _ (distinct : Distinct (transitions_of b l)) where
      pub location_lawful : LocationKeeps b a l → LawfulLocation (read_automaton b a) (read_location b (locations_of b a) l)
      location_lawful k =
          let moves = (location_right b a l (λ t ht. (placed a (transition_at b t).goal).0 (k.transitions t ht).goal_inside) short).0 k.moves in
          record {
            phase_width = phase_fits b bytes l;
            sent_width = rest_byte b bytes l 4;
            bound_fits = (bound_right (automaton_at b a).scale (location_at b l).bound).0 k.limits;
            transitions_fit = all_mapped _ (read_transition b (locations_of b a)) (transitions_of b l) (λ t ht. transition_lawful t (k.transitions t ht));
            guards_apart = (moments_apart b short l (locations_of b a) distinct).0 (λ t ht. (k.transitions t ht).alone);
            not_both = moves.not_both;
            moves_fit = moves.moves_fit;
            hearing_resets = moves.hearing_resets;
          }

      pub location_kept : LawfulLocation (read_automaton b a) (read_location b (locations_of b a) l) → LocationKeeps b a l
      location_kept h =
          let alone = (moments_apart b short l (locations_of b a) distinct).1 h.guards_apart in
          let each : (t : ℕ) → Has (transitions_of b l) t → TransitionKeeps b a l t =
          λ t ht. transition_kept t (alone t ht) (mapped_has _ (read_transition b (locations_of b a)) (transitions_of b l) h.transitions_fit t ht) in
          record {
            limits = (bound_right (automaton_at b a).scale (location_at b l).bound).1 h.bound_fits;
            moves = (location_right b a l (λ t ht. (placed a (transition_at b t).goal).0 (each t ht).goal_inside) short).1
                (record { not_both = h.not_both; moves_fit = h.moves_fit; hearing_resets = h.hearing_resets });
            transitions = each;
          }

  module _ (a : ℕ) (distinct : (l : ℕ) → Has (locations_of b a) l → Distinct (transitions_of b l)) where
    pub automaton_right : AutomatonKeeps b a ↔ LawfulAutomaton (read_automaton b a)
    automaton_right = (
      λ k.
          let scale = (scale_right (automaton_at b a).scale).0 k.limits in
          record {
            some_scale = scale.0;
            scale_fits = scale.1;
            opening_here = let many = locations_many a in let here = (placed a (automaton_at b a).opening).0 k.opening_inside in omega arith;
            locations_fit = all_mapped _ (read_location b (locations_of b a)) (locations_of b a) (λ l hl. location_lawful a l (distinct l hl) (k.locations l hl));
          },
      λ h. record {
        opening_inside = (placed a (automaton_at b a).opening).1 (let many = locations_many a in let here = h.opening_here in omega arith);
        limits = (scale_right (automaton_at b a).scale).1 (h.some_scale, h.scale_fits);
        locations = λ l hl. location_kept a l (distinct l hl) (mapped_has _ (read_location b (locations_of b a)) (locations_of b a) h.locations_fit l hl);
      },
    )
