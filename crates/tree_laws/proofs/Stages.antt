-- The stages of the check after the structure: a book is accepted exactly if each finds nothing.
use Rattle.std.proofs.Common.{◌≡◌, ℕ, Bool, false, ◌↔◌, List, None, Ok, Err, Option, Result, sym, refl, ap, ◌∙◌}
use Rattle.book.specs.declared.refusal.Fault.{Fault}
use Rattle.book.specs.declared.refusal.Fault.TheVariants.{Goals, Limits, Scale, EmptyWindow, SharedMoment, Paths, Location}
use Rattle.book.specs.declared.refusal.Refusal.{Refusal}
use Rattle.book.specs.declared.term.BookKind.{BookKind}
use Rattle.book.specs.declared.term.BookKind.TheVariants.{Model, Automaton}
use Rattle.structure.specs.Structure.{unless, at_0, structure_of}
use Rattle.structure.specs.Sound.{Sound}
use Rattle.structure.proofs.Stages.{no_error, unless_ok, at_0_none}
use Rattle.structure.proofs.Soundness.{passes_sound}
use Rattle.visits.specs.Smallest.{smallest}
use Rattle.chains.specs.EdgeRules.{faulty_edges}
use Rattle.chains.specs.Paths.{path_faults}
use Rattle.model_rules.specs.Rules as model
use Rattle.automaton_rules.specs.Rules as automaton
use Rattle.book_scales.specs.Scales.{station_scales, wrong_net_scale, model_scales, automaton_scales}
use Rattle.model_windows.specs.Rules as windows
use Rattle.automaton_windows.specs.Rules as guards
use Rattle.automaton_moves.specs.Rules.{locations}
use Rattle.book_check.specs.Check.{first_fault, check_by, check_of}

-- what the stages find, in their order: a record, or of the net's scale that it is wrong
pub record Findings : Type 0 where
  pub goals : Option ℕ
  pub limits : Option ℕ
  pub scales : Option ℕ
  pub wrong_net : Bool
  pub windows : Option ℕ
  pub moments : Option ℕ
  pub paths : Option ℕ
  pub locations : Option ℕ

-- of a model book, which has no stage of locations
abbrev pub of_model : List ℕ → Findings
of_model b = record {
  goals = first_fault b (model.goals b);
  limits = first_fault b (model.limits b);
  scales = first_fault b (station_scales b);
  wrong_net = wrong_net_scale (model_scales b);
  windows = smallest (faulty_edges b (windows.empty_window b));
  moments = smallest (faulty_edges b (windows.shared_moment b));
  paths = smallest (path_faults b);
  locations = None;
}

-- of an automaton book, which has no stage of the scales of its automata
abbrev pub of_automaton : List ℕ → Findings
of_automaton b = record {
  goals = first_fault b (automaton.goals b);
  limits = first_fault b (automaton.limits b);
  scales = None;
  wrong_net = wrong_net_scale (automaton_scales b);
  windows = smallest (faulty_edges b (guards.empty_guard b));
  moments = smallest (faulty_edges b (guards.shared_moment b));
  paths = smallest (path_faults b);
  locations = first_fault b (locations b);
}

-- every stage finds nothing
pub record NothingIn (f : Findings) : Type 0 where
  pub no_goals : f.goals ≡ None
  pub no_limits : f.limits ≡ None
  pub no_scales : f.scales ≡ None
  pub net_right : f.wrong_net ≡ false
  pub no_windows : f.windows ≡ None
  pub no_moments : f.moments ≡ None
  pub no_paths : f.paths ≡ None
  pub no_locations : f.locations ≡ None

-- a stage that finds nothing, and the stages after it
unless_none : (found : Option ℕ) (f : Fault) (later : Result BookKind Refusal) (k : BookKind) → found ≡ None → later ≡ Ok k → unless found f later ≡ Ok k
unless_none found f later k none e = ap (λ o. unless o f later) none ∙ e

module _ (f : Findings) (kind k : BookKind) where
  -- what is answered, where the kind is answered if nothing is found
  abbrev answer : Result BookKind Refusal
  answer =
      unless f.goals Goals
      (unless f.limits Limits
      (unless f.scales Scale
      (unless (at_0 f.wrong_net) Scale
      (unless f.windows EmptyWindow (unless f.moments SharedMoment (unless f.paths Paths (unless f.locations Location (Ok kind))))))))

  abbrev Same : Type 0
  Same = ◌≡◌ {A = Result BookKind Refusal} (Ok kind) (Ok k)

  passes : answer ≡ Ok k ↔ NothingIn f × Same
  passes = (
    λ e.
        let one = unless_ok f.goals Goals _ k e in
        let two = unless_ok f.limits Limits _ k one.1 in
        let three = unless_ok f.scales Scale _ k two.1 in
        let four = unless_ok (at_0 f.wrong_net) Scale _ k three.1 in
        let five = unless_ok f.windows EmptyWindow _ k four.1 in
        let six = unless_ok f.moments SharedMoment _ k five.1 in
        let seven = unless_ok f.paths Paths _ k six.1 in
        let eight = unless_ok f.locations Location _ k seven.1 in (
          record {
            no_goals = one.0;
            no_limits = two.0;
            no_scales = three.0;
            net_right = at_0_none _ four.0;
            no_windows = five.0;
            no_moments = six.0;
            no_paths = seven.0;
            no_locations = eight.0;
          },
          eight.1,
        ),
    λ h.
        let n = h.0 in
        unless_none f.goals Goals _ k n.no_goals
        (unless_none f.limits Limits _ k n.no_limits
        (unless_none f.scales Scale _ k n.no_scales
        (unless_none (at_0 f.wrong_net) Scale _ k (ap at_0 n.net_right)
        (unless_none f.windows EmptyWindow _ k n.no_windows
        (unless_none f.moments SharedMoment _ k n.no_moments
        (unless_none f.paths Paths _ k n.no_paths (unless_none f.locations Location _ k n.no_locations h.1))))))),
  )

-- what the stages of either kind of book find
abbrev pub findings : List ℕ → BookKind → Findings
findings b Model = of_model b
findings b Automaton = of_automaton b

module _ (b : List ℕ) (k : BookKind) where
  by_kind : (kind : BookKind) → check_by b (Ok kind) ≡ Ok k ↔ NothingIn (findings b kind) × Same (findings b kind) kind k
  by_kind Model = passes (of_model b) Model k
  by_kind Automaton = passes (of_automaton b) Automaton k

  -- the kind is the structure's
  pub same_kind : check_of b ≡ Ok k → structure_of b ≡ Ok k
  same_kind e = go (structure_of b) e
    where
      go : (r : Result BookKind Refusal) → check_by b r ≡ Ok k → r ≡ Ok k
      go (Err refusal) e = no_error e
      go (Ok kind) e = ((by_kind kind).0 e).1

  -- so the check accepts a book exactly if its structure is right and its stages find nothing
  pub accepted : check_of b ≡ Ok k ↔ Sound b k × NothingIn (findings b k)
  accepted =
      let sound = passes_sound b k in (
        λ e. let is = same_kind e in (sound.0 is, ((by_kind k).0 (ap (check_by b) (sym is) ∙ e)).0),
        λ h. ap (check_by b) (sound.1 h.0) ∙ (by_kind k).1 (h.1, refl),
      )
