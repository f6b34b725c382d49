-- The number of each refusal.
use Rattle.std.specs.Prelude.{ℕ}
use Rattle.book.specs.declared.refusal.Fault.{Fault}
use Rattle.book.specs.declared.refusal.Fault.TheVariants.{Length, Head, Layout, Links, Goals, Limits, Scale, EmptyWindow, SharedMoment, Paths, Location, Room, Parts, Busy, Due, Lifetime, Total, Idle}
use Rattle.book.specs.declared.refusal.Refusal.{Refusal}

abbrev pub fault_number : Fault → ℕ
fault_number Length = 1
fault_number Head = 2
fault_number Layout = 3
fault_number Links = 4
fault_number Goals = 5
fault_number Limits = 6
fault_number Scale = 7
fault_number EmptyWindow = 8
fault_number SharedMoment = 9
fault_number Paths = 10
fault_number Location = 11
fault_number Room = 12
fault_number Parts = 13
fault_number Busy = 14
fault_number Due = 15
fault_number Lifetime = 16
fault_number Total = 17
fault_number Idle = 18

-- a refusal at a place
abbrev pub refused : Fault → ℕ → Refusal
refused f p = record { fault = f; place = p }
