-- What both kinds of lawful net are asked: at most one that fits, and paths.
-- A lawful net is one that the check of its book accepts; a comment names the fault that a breach is.
use Rattle.std.specs.Prelude.{◌≡◌, ℕ, ◌≤◌, Bool, true, false, ◌≢◌, List, [], ◌∷◌}
use Rattle.std.specs.List.{AllByRecursion}
use Rattle.records.specs.Fits.{Byte}
use Rattle.semantics.specs.Trees.{Path}

-- of the list at most one passes
abbrev pub AtMostOne : {A : Type 0} → (A → Bool) → List A → Type 0
AtMostOne fits [] = Unit {0}
AtMostOne fits (x ∷ xs) = (fits x ≡ true → AllByRecursion (λ y. fits y ≡ false) xs) × AtMostOne fits xs

-- a path of a net with n stations: Paths
pub record LawfulPath (n : ℕ) (p : Path) : Type 0 where
  pub sender_known : p.sender ≤ n
  pub hearer_known : p.hearer ≤ n
  pub ends_differ : p.sender ≢ p.hearer
  pub sender_port_width : Byte p.sender_port
  pub hearer_port_width : Byte p.hearer_port
