-- The widths of fields: what a record's numbers may be at most.
use Rattle.std.specs.Prelude.{ℕ, ◌^◌, ◌<◌, List, Some, None, Option}
use Rattle.book.specs.Bytes.{at}
use Rattle.book.specs.declared.term.Path.{Path}
use Rattle.book.specs.declared.record.Fraction.{Fraction}
use Rattle.book.specs.declared.record.HighEnd.{HighEnd}
use Rattle.book.specs.declared.record.HighEnd.TheVariants.{Closed, Open, Absent}
use Rattle.book.specs.declared.record.Window.{Window}
use Rattle.book.specs.declared.record.Label.{Label}
use Rattle.book.specs.declared.record.Label.TheVariants.{Silent, Hears, Sends}
use Rattle.book.specs.declared.record.Record.{Record}
use Rattle.book.specs.declared.record.ModelBody.{ModelBody}
use Rattle.book.specs.declared.record.ModelBody.TheVariants as model
use Rattle.book.specs.declared.record.AutomatonBody.{AutomatonBody}
use Rattle.book.specs.declared.record.AutomatonBody.TheVariants as automata

-- a number of one, two, four or eight bytes
abbrev pub Byte : ℕ → Type 0
Byte n = n < 256

abbrev pub Two : ℕ → Type 0
Two n = n < 2 ^ 16

abbrev pub Four : ℕ → Type 0
Four n = n < 2 ^ 32

abbrev pub Eight : ℕ → Type 0
Eight n = n < 2 ^ 64

-- a list of bytes
abbrev pub Bytes : List ℕ → Type 0
Bytes b = (i : ℕ) → Byte (at b i)

abbrev pub FractionFits : Fraction → Type 0
FractionFits f = Four f.numerator × Four f.denominator

abbrev pub HighFits : {T : Type 0} → (T → Type 0) → HighEnd T → Type 0
HighFits fits (Closed x) = fits x
HighFits fits (Open x) = fits x
HighFits fits Absent = Unit {0}

abbrev pub WindowFits : {T : Type 0} → (T → Type 0) → Window T → Type 0
WindowFits fits w = fits w.low × HighFits fits w.high

abbrev pub PathFits : Path → Type 0
PathFits p = Byte p.sender × Byte p.sender_port × Byte p.hearer × Byte p.hearer_port

abbrev pub ModelFits : ModelBody → Type 0
ModelFits (model.Station s) = Two s.first_phase × Two s.opening
ModelFits (model.Phase p) = Two p.first_edge × Two p.next_phase × Two p.first_word × FractionFits p.lifetime
ModelFits (model.Edge e) = Two e.goal × Byte e.port × Byte e.lowest × Byte e.highest × WindowFits FractionFits e.window
ModelFits (model.Word w) = Byte w.port × Byte w.value
ModelFits (model.Path p) = PathFits p

abbrev pub LabelFits : Label → Type 0
LabelFits Silent = Unit {0}
LabelFits (Hears p l h) = Byte p × Byte l × Byte h
LabelFits (Sends p v) = Byte p × Byte v

abbrev pub BoundFits : Option ℕ → Type 0
BoundFits None = Unit {0}
BoundFits (Some b) = Eight b

abbrev pub AutomatonFits : AutomatonBody → Type 0
AutomatonFits (automata.Automaton a) = Two a.first_location × Two a.opening × Four a.scale
AutomatonFits (automata.Location l) = Two l.first_transition × Two l.phase × Byte l.sent × BoundFits l.bound
AutomatonFits (automata.Transition t) = Two t.goal × LabelFits t.label × WindowFits Eight t.guard
AutomatonFits (automata.Path p) = PathFits p

-- a record: its next index, and what it holds
abbrev pub Fits : {B : Type 0} → (B → Type 0) → Record B → Type 0
Fits fits x = Two x.next × fits x.body
