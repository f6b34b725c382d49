-- One more number in the tables.
use Rattle.std.proofs.Common.{◌≡◌, ℕ, ◌+◌, ◌≤◌, List, length}
use Rattle.places.specs.Tables.{listed, placed}

-- The first n numbers of ks are in the tables: these, with the rest, give the whole.
pub record Placing (ks : List ℕ) (used : ℕ) (records places records' places' rest : List ℕ) (n count : ℕ) : Type 0 where
  pub few : length ks ≤ 2000
  pub all : n + length rest ≡ length ks
  pub counted : count ≡ n
  pub listing : listed records' (used + n) rest ≡ listed records used ks
  pub placing : placed places' n rest ≡ placed places 0 ks
