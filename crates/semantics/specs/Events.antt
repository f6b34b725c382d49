-- Events, and the paths that words go along: what nets and runs share.
use Rattle.std.specs.Prelude.{ℕ, Bool, ◌&&◌, ◌==◌}
pub use Rattle.book.specs.declared.event.Event.{Event}
pub use Rattle.book.specs.declared.event.EventKind.{EventKind}
pub use Rattle.book.specs.declared.event.EventKind.TheVariants.{Arrival, External, Output, Internal, Created}
use Rattle.semantics.specs.Trees.{Path}

-- an event at a station, counted from 1, or outside, 0
abbrev pub event : EventKind → ℕ → ℕ → ℕ → Event
event k s p v = record { kind = k; station = s; port = p; value = v }

-- the path leaves from that station, or the outside, and port
abbrev pub leaves : Path → ℕ → ℕ → Bool
leaves p from port = p.sender == from && p.sender_port == port
