-- How an answer is told in numbers, to a caller in C.
use Rattle.std.specs.Prelude.{ℕ, Ok, Err, Result}
use Rattle.book.specs.Refusals.{fault_number}
use Rattle.book.specs.declared.refusal.Refusal.{Refusal}

-- 0, or the number of the refusal; no refusal has the number 0
abbrev pub told_number : {A : Type 0} → Result A Refusal → ℕ
told_number (Ok x) = 0
told_number (Err e) = fault_number e.fault

-- what the place then holds: that of the refusal, else what it held before
abbrev pub told_place : {A : Type 0} → Result A Refusal → ℕ → ℕ
told_place (Ok x) before = before
told_place (Err e) before = e.place
