-- What is true of the automaton net printed from a lawful model net.
use Rattle.semantics.specs.Trees.{ModelNet}
use Rattle.semantics.specs.LawfulModels.{LawfulModel}
use Rattle.semantics.specs.LawfulAutomata.{LawfulAutomata}
use Rattle.semantics.specs.Print.{print}
use Rattle.semantics.specs.Faithful.{Faithful}

-- Printing is faithful. `Faithful` says it whole: equal makings for all parts and room; and after every making that
-- succeeds and any list of calls, obeyed or declined, equal answers, equal tellings, and from there the same runs of
-- words, steps and fractional delays, with equal events and corresponding ends.
abbrev pub PrintingIsFaithful : Type 0
PrintingIsFaithful = (m : ModelNet) → LawfulModel m → Faithful m (print m)

-- A printed net is lawful: it has every property that the check of an automaton book asks for.
abbrev pub PrintedIsLawful : Type 0
PrintedIsLawful = (m : ModelNet) → LawfulModel m → LawfulAutomata (print m)
