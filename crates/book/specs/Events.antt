-- The letter of each kind of event, as a character's code.
use Rattle.std.specs.Prelude.{ℕ, cond, Some, None, Option, ◌==◌}
use Rattle.book.specs.declared.event.EventKind.{EventKind}
use Rattle.book.specs.declared.event.UnknownLetter.{UnknownLetter}
use Rattle.book.specs.declared.event.EventKind.TheVariants.{Arrival, External, Output, Internal, Created}

-- '?', 'E', 'O', 'I' and 'C'
abbrev pub event_letter : EventKind → ℕ
event_letter Arrival = 63
event_letter External = 69
event_letter Output = 79
event_letter Internal = 73
event_letter Created = 67

abbrev pub event_of_letter : ℕ → Option EventKind
event_of_letter c =
    let created = cond (c == 67) (Some Created) None in
    let internal = cond (c == 73) (Some Internal) created in
    let output = cond (c == 79) (Some Output) internal in
    let external = cond (c == 69) (Some External) output in
    cond (c == 63) (Some Arrival) external

-- the error of a letter that tells no event
abbrev pub unknown_letter : ℕ → UnknownLetter
unknown_letter c = record { 0 = c }
