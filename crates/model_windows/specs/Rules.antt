-- The rules of a model book about the windows of its edges: each holds a time, and no two edges of a phase take one word
-- at one moment.
use Rattle.std.specs.Prelude.{Bool, not, ◌&&◌, List, ℕ, eqb}
use Rattle.book.specs.declared.record.Fraction.{Fraction}
use Rattle.records.specs.Heads.{order_in}
use Rattle.semantics.specs.Times.{itself}
use Rattle.spans.specs.declared.hearing.Hearing.{Hearing}
use Rattle.spans.specs.Hearings.{edge_hearing, meet}
use Rattle.spans.specs.Spans.{no_time}
use Rattle.visits.specs.Visits.{edges}
use Rattle.fields.specs.Fields.{edge_at, lifetime_at}
use Rattle.chains.specs.Some.{some}

-- the words and moments that edge e takes in phase p: those of its window that counts
abbrev pub hearing_at : List ℕ → ℕ → ℕ → Hearing Fraction
hearing_at b p e = edge_hearing (order_in b) (lifetime_at b p) (edge_at b e)

-- EmptyWindow: the window that counts holds no time.
abbrev pub empty_window : List ℕ → ℕ → ℕ → Bool
empty_window b p e = no_time itself (hearing_at b p e).window

-- edge f is another than e, and both take some word at some moment
abbrev pub meets : List ℕ → ℕ → ℕ → ℕ → Bool
meets b p e f = not (eqb f e) && meet itself (hearing_at b p e) (hearing_at b p f)

-- SharedMoment: another edge of the phase takes a word at a moment at which this one takes it too.
abbrev pub shared_moment : List ℕ → ℕ → ℕ → Bool
shared_moment b p e = some (meets b p e) (edges b p)
