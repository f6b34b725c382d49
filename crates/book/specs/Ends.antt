-- Where the high end of a window lies.
use Rattle.std.specs.Prelude.{Some, None, Option}
use Rattle.book.specs.declared.record.HighEnd.{HighEnd}
use Rattle.book.specs.declared.record.HighEnd.TheVariants.{Closed, Open, Absent}

-- where it lies, if there is one
abbrev pub end_of : {T : Type 0} → HighEnd T → Option T
end_of (Closed x) = Some x
end_of (Open x) = Some x
end_of Absent = None
