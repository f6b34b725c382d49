-- Locations: marks, moves and resets are right by the book's records exactly if they are lawful in the tree.
use Rattle.std.proofs.Common.{◌≡◌, ℕ, ◌<◌, Bool, true, false, cond, not, ◌&&◌, ◌||◌, eqb, ltb, ◌↔◌, List, map, length, is_some, Some, None, Option, unwrap_or, sym, refl, ap, ◌∙◌, subst, arith}
use Rattle.std.specs.List.{ContainsAt as Has, AllByRecursion}
use Rattle.std.proofs.ByRecursion.{all-has}
use Rattle.std.proofs.lemmas.Bool.{both_ways, or_parts, or_from, and_parts, and_from, not-true, not-false, not_from_true, not_from_false, eqb-true, eq-eqb}
use Rattle.book.specs.Chains.{whole_records}
use Rattle.book.specs.declared.record.HighEnd.{HighEnd}
use Rattle.book.specs.declared.record.HighEnd.TheVariants.{Closed, Open, Absent}
use Rattle.book.specs.declared.record.Label.{Label}
use Rattle.book.specs.declared.record.Label.TheVariants.{Silent, Hears, Sends}
use Rattle.book.specs.declared.record.Window.{Window}
use Rattle.semantics.specs.Books.{place_in, read_transition, read_automaton}
use Rattle.semantics.specs.LawfulAutomata.{is_move, PrintedMove, LawfulMoves}
use Rattle.semantics.specs.Print as print
use Rattle.semantics.specs.Trees.{Transition, Automaton}
use Rattle.fields.specs.Fields.{location_at, transition_at}
use Rattle.automaton_moves.specs.Rules.{hears, hears_at, no_high_end, from_on, move_ticks, same, wrong_transition_at, misplaced, wrong_with, wrong_location}
use Rattle.chains.specs.Some.{some, some_at}
use Rattle.kept_rules.proofs.Everywhere.{all_mapped, mapped_has}
use Rattle.tree_laws.proofs.Chains.{some_none}
use Rattle.lawful_automata.proofs.Reading.{locations_of, transitions_of, all_transitions}
use Rattle.lawful_automata.proofs.Places.{goal_committed}
use Rattle.lawful_automata.proofs.Ends.{ends_split, ends_each, ends_weaker, ends_map, ends_alone, Hearing, Moving, one_move}

same_right : (x y : Bool) → not (same x y) ≡ false ↔ x ≡ y
same_right true true = (λ e. refl, λ e. refl)
same_right true false = (λ e. e, λ e. e)
same_right false true = (λ e. sym e, λ e. sym e)
same_right false false = (λ e. refl, λ e. refl)

no_end : (h : HighEnd ℕ) → no_high_end h ≡ true ↔ h ≡ Absent
no_end (Closed x) = (λ e. absurd (both_ways false refl e), λ e. let z : ◌≡◌ {A = ℕ} 0 1 = cc in absurd (omega arith))
no_end (Open x) = (λ e. absurd (both_ways false refl e), λ e. let z : ◌≡◌ {A = ℕ} 0 1 = cc in absurd (omega arith))
no_end Absent = (λ e. refl, λ e. refl)

from_right : (n : ℕ) (g : Window ℕ) → not (from_on n g) ≡ false ↔ g ≡ print.from_on n
from_right n g = (
  λ e.
      let parts = and_parts (not g.low_open) _ (not-false (from_on n g) e) in
      let more = and_parts (eqb g.low n) _ parts.1 in
      let shut : g.low_open ≡ false = not-true g.low_open parts.0 in
      let low : g.low ≡ n = eqb-true g.low n more.0 in
      let high : g.high ≡ Absent = (no_end g.high).0 more.1 in
      made g.low g.low_open g.high low shut high,
  λ e. ap (λ w. not (from_on n w)) e ∙ not_from_true (from_on n (print.from_on n)) (and_from (eqb n n) true (eq-eqb n n refl) refl),
)
  where
    made : (l : ℕ) (o : Bool) (h : HighEnd ℕ) → l ≡ n → o ≡ false → h ≡ Absent → ◌≡◌ {A = Window ℕ} (record { low = l; low_open = o; high = h }) (print.from_on n)
    made l o h el eo eh = cc

move_hears : (l : Label) → is_move l ≡ not (hears l)
move_hears Silent = refl
move_hears (Hears port lowest highest) = refl
move_hears (Sends port value) = refl

-- of location l of automaton a, whose transitions have their goals in a
module _ (b : List ℕ) (a l : ℕ) where
  abbrev locations : List ℕ
  locations = locations_of b a

  abbrev tree : Automaton
  tree = read_automaton b a

  abbrev reading : ℕ → Transition
  reading = read_transition b locations

  abbrev ticks : ℕ
  ticks = move_ticks (location_at b l)

  is_hearing : (t : ℕ) → is_move (reading t).label ≡ false ↔ Hearing b t
  is_hearing t =
      let e = move_hears (reading t).label in
      (λ f. not-false (hears_at b t) (sym e ∙ f), λ f. e ∙ not_from_true (hears_at b t) f)

  -- the test of a transition, once it is known whether it hears
  tested : (t : ℕ) (x : Bool) → hears_at b t ≡ x →
      wrong_transition_at b l t
      ≡ cond x (not (reading t).resets) (not (same (reading t).resets (not (location_at b (transition_at b t).goal).committed)) || not (from_on ticks (reading t).guard))
  tested t x e =
      ap (λ y. cond y (not (reading t).resets) (not (same (reading t).resets (not (location_at b (transition_at b t).goal).committed)) || not (from_on ticks (reading t).guard))) e

  hearing_right : (t : ℕ) → Hearing b t → wrong_transition_at b l t ≡ false ↔ (reading t).resets ≡ true
  hearing_right t h =
      let is = tested t true h in
      (λ e. not-false (reading t).resets (sym is ∙ e), λ e. is ∙ not_from_true (reading t).resets e)

  move_right : (t : ℕ) → place_in locations (transition_at b t).goal < length locations → Moving b t →
      wrong_transition_at b l t ≡ false ↔ PrintedMove tree ticks (reading t)
  move_right t here h =
      let goal = (location_at b (transition_at b t).goal).committed in
      let is = tested t false h in
      let committed = goal_committed b locations (transition_at b t).goal here in
      let resets = same_right (reading t).resets (not goal) in
      let guard = from_right ticks (reading t).guard in (
        λ e.
            let parts = or_parts (not (same (reading t).resets (not goal))) _ (sym is ∙ e) in
            record {
              moves = move_hears (reading t).label ∙ not_from_false (hears_at b t) h;
              from_bound = guard.0 parts.1;
              resets_right = resets.0 parts.0 ∙ ap not (sym committed);
            },
        λ m. is ∙ or_from (not (same (reading t).resets (not goal))) _ (resets.1 (m.resets_right ∙ ap not committed)) (guard.1 m.from_bound),
      )

  moving : (n t : ℕ) → PrintedMove tree n (reading t) → Moving b t
  moving n t m = not-true (hears_at b t) (sym (move_hears (reading t).label) ∙ m.moves)

  module _ (here : (t : ℕ) → Has (transitions_of b l) t → place_in locations (transition_at b t).goal < length locations) where
    abbrev ts : List ℕ
    ts = transitions_of b l

    -- what is asked of a location with these marks
    pub record MovesLawfully (committed : Bool) (bound : Option ℕ) : Type 0 where
      pub not_both : committed ≡ true → bound ≡ None
      pub moves_fit : LawfulMoves tree committed bound (map reading ts)
      pub hearing_resets : AllByRecursion (λ t. is_move t.label ≡ false → t.resets ≡ true) (map reading ts)

    -- its test
    abbrev wrongly : Bool → Option ℕ → Bool
    wrongly committed bound =
        ((is_some bound && committed) || (committed && some (hears_at b) ts))
        || (cond (is_some bound || committed) (eqb (length ts) 0 || some_at (misplaced b (length ts)) 0 ts) (some (λ t. not (hears_at b t)) ts)
        || some (wrong_transition_at b l) ts)

    abbrev EachRight : Type 0
    EachRight = (t : ℕ) → Has ts t → wrong_transition_at b l t ≡ false

    each_right : some (wrong_transition_at b l) ts ≡ false ↔ EachRight
    each_right = some_none (wrong_transition_at b l) ts

    resets : EachRight → AllByRecursion (λ t. is_move t.label ≡ false → t.resets ≡ true) (map reading ts)
    resets w = all_mapped (λ t. is_move t.label ≡ false → t.resets ≡ true) reading ts (λ t ht e. (hearing_right t ((is_hearing t).0 e)).0 (w t ht))

    -- a hearing transition that resets is right
    reset_right : AllByRecursion (λ t. is_move t.label ≡ false → t.resets ≡ true) (map reading ts) → (t : ℕ) → Has ts t → is_move (reading t).label ≡ false → wrong_transition_at b l t ≡ false
    reset_right all t ht e =
        (hearing_right t ((is_hearing t).0 e)).1 (mapped_has (λ x. is_move x.label ≡ false → x.resets ≡ true) reading ts all t ht e)

    module _ (n : ℕ) (at_n : ticks ≡ n) where
      abbrev Printed : ℕ → Type 0
      Printed t = PrintedMove tree n (reading t)

      printed : (t : ℕ) → Has ts t → Moving b t → wrong_transition_at b l t ≡ false ↔ Printed t
      printed t ht m = subst (λ k. wrong_transition_at b l t ≡ false ↔ PrintedMove tree k (reading t)) at_n (move_right t (here t ht) m)

      printed_right : (t : ℕ) → Has ts t → Printed t → wrong_transition_at b l t ≡ false
      printed_right t ht p = (printed t ht (moving n t p)).1 p

    committed_right : (location_at b l).bound ≡ None → wrongly true None ≡ false ↔ MovesLawfully true None
    committed_right none =
        let at_0 : ticks ≡ 0 = ap (λ o. unwrap_or o 0) none in
        let alone = ends_alone (PrintedMove tree 0) (map reading ts) in
        let mapped = ends_map (λ _. ⊥) (PrintedMove tree 0) reading ts in (
          λ e.
              let first = or_parts (some (hears_at b) ts) _ e in
              let second = or_parts (eqb (length ts) 0 || some_at (misplaced b (length ts)) 0 ts) _ first.1 in
              let quiet = (some_none (hears_at b) ts).0 first.0 in
              let right = each_right.0 second.1 in
              record {
                not_both = λ _. refl;
                moves_fit = alone.0
                    (mapped.1
                    (ends_weaker (Hearing b) (Moving b) (λ _. ⊥) (Printed 0 at_0) ts (λ t ht h. both_ways (hears_at b t) (quiet t ht) h)
                    (λ t ht m. (printed 0 at_0 t ht m).0 (right t ht)) ((one_move b ts).0 second.0)));
                hearing_resets = resets right;
              },
          λ f.
              let ends = mapped.0 (alone.1 f.moves_fit) in
              let quiet = ends_each (λ _. ⊥) (Printed 0 at_0) (Moving b) ts (λ t ht z. absurd z) (λ t ht p. moving 0 t p) ends in
              let right = ends_each (λ _. ⊥) (Printed 0 at_0) (λ t. wrong_transition_at b l t ≡ false) ts (λ t ht z. absurd z) (printed_right 0 at_0) ends in
              or_from (some (hears_at b) ts) _ ((some_none (hears_at b) ts).1 (λ t ht. all-has (Moving b) ts t quiet ht))
              (or_from (eqb (length ts) 0 || some_at (misplaced b (length ts)) 0 ts) _
              ((one_move b ts).1 (ends_weaker (λ _. ⊥) (Printed 0 at_0) (Hearing b) (Moving b) ts (λ t ht z. absurd z) (λ t ht p. moving 0 t p) ends))
              (each_right.1 (λ t ht. all-has (λ x. wrong_transition_at b l x ≡ false) ts t right ht))),
        )

    bounded_right : (n : ℕ) → (location_at b l).bound ≡ Some n → wrongly false (Some n) ≡ false ↔ MovesLawfully false (Some n)
    bounded_right n some-n =
        let at_n : ticks ≡ n = ap (λ o. unwrap_or o 0) some-n in
        let split = ends_split (λ t. is_move t.label ≡ false) (PrintedMove tree n) (map reading ts) in
        let mapped = ends_map (λ t. is_move t.label ≡ false) (PrintedMove tree n) reading ts in (
          λ e.
              let parts = or_parts (eqb (length ts) 0 || some_at (misplaced b (length ts)) 0 ts) _ e in
              let right = each_right.0 parts.1 in
              record {
                not_both = λ z. absurd (both_ways false refl z);
                moves_fit = split.0
                    (mapped.1
                    (ends_weaker (Hearing b) (Moving b) (λ t. is_move (reading t).label ≡ false) (Printed n at_n) ts (λ t ht h. (is_hearing t).1 h)
                    (λ t ht m. (printed n at_n t ht m).0 (right t ht)) ((one_move b ts).0 parts.0)));
                hearing_resets = resets right;
              },
          λ f.
              let ends = mapped.0 (split.1 f.moves_fit) in
              let right = ends_each (λ t. is_move (reading t).label ≡ false) (Printed n at_n) (λ t. wrong_transition_at b l t ≡ false) ts
              (reset_right f.hearing_resets) (printed_right n at_n) ends in
              or_from (eqb (length ts) 0 || some_at (misplaced b (length ts)) 0 ts) _
              ((one_move b ts).1
              (ends_weaker (λ t. is_move (reading t).label ≡ false) (Printed n at_n) (Hearing b) (Moving b) ts (λ t ht h. (is_hearing t).0 h) (λ t ht p. moving n t p) ends))
              (each_right.1 (λ t ht. all-has (λ x. wrong_transition_at b l x ≡ false) ts t right ht)),
        )

    endless_right : wrongly false None ≡ false ↔ MovesLawfully false None
    endless_right =
        let none = some_none (λ t. not (hears_at b t)) ts in (
          λ e.
              let parts = or_parts (some (λ t. not (hears_at b t)) ts) _ e in
              record {
                not_both = λ _. refl;
                moves_fit = all_mapped (λ t. is_move t.label ≡ false) reading ts (λ t ht. (is_hearing t).1 (not-false (hears_at b t) (none.0 parts.0 t ht)));
                hearing_resets = resets (each_right.0 parts.1);
              },
          λ f.
              let hearing : (t : ℕ) → Has ts t → is_move (reading t).label ≡ false = mapped_has (λ t. is_move t.label ≡ false) reading ts f.moves_fit in
              or_from (some (λ t. not (hears_at b t)) ts) _ (none.1 (λ t ht. not_from_true (hears_at b t) ((is_hearing t).0 (hearing t ht))))
              (each_right.1 (λ t ht. reset_right f.hearing_resets t ht (hearing t ht))),
        )

    by_marks : (committed : Bool) (bound : Option ℕ) → (location_at b l).bound ≡ bound → wrongly committed bound ≡ false ↔ MovesLawfully committed bound
    by_marks true None e = committed_right e
    by_marks true (Some n) e = (
      λ f. absurd (both_ways true f refl),
      λ f. let never = f.not_both refl in let z : ◌≡◌ {A = ℕ} 0 1 = cc in absurd (omega arith),
    )
    by_marks false None e = endless_right
    by_marks false (Some n) e = bounded_right n e

    pub location_right : ltb 2000 (whole_records b) ≡ false → wrong_location b l ≡ false ↔ MovesLawfully (location_at b l).committed (location_at b l).bound
    location_right short =
        subst (λ ks. wrong_with b l (location_at b l) ks ≡ false ↔ MovesLawfully (location_at b l).committed (location_at b l).bound)
        (sym (all_transitions b short l)) (by_marks (location_at b l).committed (location_at b l).bound refl)
