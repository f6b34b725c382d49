use Rattle.std.proofs.Common.{sym, ◌∙◌}
use Rattle.book.specs.declared.term.BookKind.TheVariants.{Model, Automaton}
use Rattle.structure.proofs.Stages.{kind_told, told_by}
use Rattle.structure.proofs.structure.Goals as goal

pub returns-in-Model : goal.returns-in-Model
returns-in-Model c =
    told_by c.args.book.now _ _ _ _ Model _ c.has_wrong_length.ensures c.whole_book.ensures c.in_ok-refuse.ensures c.byte_at.ensures (kind_told _ _ (sym c.try_from.ensures ∙ c.in_ok-try_from.was)) c.in-Model.is c.structure_by.ensures

pub returns-in-Automaton : goal.returns-in-Automaton
returns-in-Automaton c =
    told_by c.args.book.now _ _ _ _ Automaton _ c.has_wrong_length.ensures c.whole_book.ensures c.in_ok-refuse.ensures c.byte_at.ensures (kind_told _ _ (sym c.try_from.ensures ∙ c.in_ok-try_from.was)) c.in-Automaton.is c.structure_by-in-Automaton.ensures
