-- The rules of an automaton book about guards: each holds a time up to its location's bound, and no two hearing
-- transitions of a location take one word at one moment.
use Rattle.std.specs.Prelude.{ℕ, Bool, not, ◌&&◌, List, Option, ◌==◌}
use Rattle.semantics.specs.Times.{whole}
use Rattle.spans.specs.declared.hearing.Hearing.{Hearing}
use Rattle.spans.specs.Hearings.{transition_hearing}
use Rattle.spans.specs.Spans.{bounded, no_time}
use Rattle.visits.specs.Visits.{edges}
use Rattle.fields.specs.Fields.{location_at, transition_at}
use Rattle.chains.specs.Some.{some}
use Rattle.pairs.specs.Pairs.{both_take as both_hear}

-- EmptyWindow: the guard, cut closed at the bound, holds no time. This is said of transitions that do not hear too.
abbrev pub empty_guard : List ℕ → ℕ → ℕ → Bool
empty_guard b l t = no_time whole (bounded whole (location_at b l).bound (transition_at b t).guard)

-- the words and moments that transition t takes in location l; none unless it hears
abbrev pub hearing_at : List ℕ → ℕ → ℕ → Option (Hearing ℕ)
hearing_at b l t = transition_hearing (location_at b l).bound (transition_at b t)

-- both take some word at some moment
abbrev pub both_take : Option (Hearing ℕ) → Option (Hearing ℕ) → Bool
both_take x y = both_hear whole x y

-- transition u is another than t, and both take some word at some moment
abbrev pub meets : List ℕ → ℕ → ℕ → ℕ → Bool
meets b l t u = not (u == t) && both_take (hearing_at b l t) (hearing_at b l u)

-- SharedMoment: another transition of the location takes a word at a moment at which this one takes it too.
abbrev pub shared_moment : List ℕ → ℕ → ℕ → Bool
shared_moment b l t = some (meets b l t) (edges b l)
