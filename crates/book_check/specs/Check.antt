-- The check of a book: its kind, or the first refusal, in the order of the refusals.
use Rattle.std.specs.Prelude.{ℕ, List, Ok, Err, Option, Result}
use Rattle.book.specs.declared.refusal.Fault.TheVariants.{Goals, Limits, Scale, EmptyWindow, SharedMoment, Paths, Location}
use Rattle.book.specs.declared.refusal.Refusal.{Refusal}
use Rattle.book.specs.declared.term.BookKind.{BookKind}
use Rattle.book.specs.declared.term.BookKind.TheVariants.{Model, Automaton}
use Rattle.structure.specs.Structure.{unless, at_0, structure_of}
use Rattle.visits.specs.Smallest.{smallest}
use Rattle.visits.specs.Visits.{Rule, faults}
use Rattle.chains.specs.EdgeRules.{faulty_edges}
use Rattle.chains.specs.Paths.{path_faults}
use Rattle.model_rules.specs.Rules as model
use Rattle.automaton_rules.specs.Rules as automaton
use Rattle.book_scales.specs.Scales.{station_scales, wrong_net_scale, model_scales, automaton_scales}
use Rattle.model_windows.specs.Rules as windows
use Rattle.automaton_windows.specs.Rules as guards
use Rattle.automaton_moves.specs.Rules.{locations}

-- the smallest record that breaks a rule
abbrev pub first_fault : List ℕ → Rule → Option ℕ
first_fault b rule = smallest (faults b rule)

-- of a model book whose structure is right
abbrev pub check_model : List ℕ → Result BookKind Refusal
check_model b =
    unless (first_fault b (model.goals b)) Goals
    (unless (first_fault b (model.limits b)) Limits
    (unless (first_fault b (station_scales b)) Scale
    (unless (at_0 (wrong_net_scale (model_scales b))) Scale
    (unless (smallest (faulty_edges b (windows.empty_window b))) EmptyWindow
    (unless (smallest (faulty_edges b (windows.shared_moment b))) SharedMoment
    (unless (smallest (path_faults b)) Paths (Ok Model)))))))

-- of an automaton book whose structure is right
abbrev pub check_automaton : List ℕ → Result BookKind Refusal
check_automaton b =
    unless (first_fault b (automaton.goals b)) Goals
    (unless (first_fault b (automaton.limits b)) Limits
    (unless (at_0 (wrong_net_scale (automaton_scales b))) Scale
    (unless (smallest (faulty_edges b (guards.empty_guard b))) EmptyWindow
    (unless (smallest (faulty_edges b (guards.shared_moment b))) SharedMoment
    (unless (smallest (path_faults b)) Paths
    (unless (first_fault b (locations b)) Location (Ok Automaton)))))))

abbrev pub check_by : List ℕ → Result BookKind Refusal → Result BookKind Refusal
check_by b (Err refusal) = Err refusal
check_by b (Ok Model) = check_model b
check_by b (Ok Automaton) = check_automaton b

abbrev pub check_of : List ℕ → Result BookKind Refusal
check_of b = check_by b (structure_of b)
