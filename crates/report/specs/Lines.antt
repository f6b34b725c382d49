-- The line by which a refusal is told.
use Rattle.std.specs.Prelude.{◌≡◌, ℕ, List, ◌++◌, codes, decimal}
use Rattle.book.specs.Refusals.{fault_number}
use Rattle.book.specs.declared.refusal.Refusal.{Refusal}

-- '-', the number and the place, in decimal, and a line feed
abbrev pub number_line : ℕ → ℕ → List ℕ
number_line n p = codes "- " ++ (decimal n ++ (codes " " ++ (decimal p ++ codes "\n")))

abbrev pub refusal_line : Refusal → List ℕ
refusal_line r = number_line (fault_number r.fault) r.place

-- the text begins with the line
abbrev pub Begins : List ℕ → List ℕ → Type 0
Begins line text = (rest : List ℕ) × (text ≡ line ++ rest)
