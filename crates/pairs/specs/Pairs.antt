-- Edges with what they take, and those that take a word together with another.
use Rattle.std.specs.Prelude.{ℕ, Bool, false, cond, not, ◌&&◌, List, map, length, Some, None, Ok, Err, Option, Result, ◌==◌, nat_lt}
use Rattle.std.specs.List.{flat_map, list_any}
use Rattle.book.specs.declared.refusal.Refusal.{Refusal}
use Rattle.book.specs.declared.refusal.Fault.TheVariants.{Room}
use Rattle.book.specs.Refusals.{refused}
use Rattle.links.specs.Walks.{filled}
use Rattle.semantics.specs.Times.{Fraction}
use Rattle.spans.specs.declared.hearing.Hearing.{Hearing}
use Rattle.spans.specs.Hearings.{meet}
use Rattle.visits.specs.Smallest.{smallest, only_if}
use Rattle.visits.specs.Visits.{edges}
use Rattle.chains.specs.Some.{some}
use Rattle.chains.specs.EdgeRules.{broken_edges}
use Rattle.pairs.specs.declared.taker.Taker.{Taker}

-- what an edge takes, if it hears
abbrev pub Heard : Type 0 → Type 0
Heard T = Option (Hearing T)

-- an edge with what it takes; `heard e` is what e takes
abbrev pub taker_of : {T : Type 0} → (ℕ → Heard T) → ℕ → Taker T
taker_of heard e = record { edge = e; hearing = heard e }

-- edges with what they take
abbrev pub takers : {T : Type 0} → (ℕ → Heard T) → List ℕ → List (Taker T)
takers heard es = map (taker_of heard) es

-- the table has fewer slots than the phase p has edges
abbrev pub few_slots : {T : Type 0} → List ℕ → ℕ → List (Taker T) → Bool
few_slots b p table = nat_lt (length table) (length (edges b p))

module _ {T : Type 0} (time : T → Fraction) where
  -- both take some word at some moment
  abbrev pub both_take : Heard T → Heard T → Bool
  both_take None y = false
  both_take (Some x) None = false
  both_take (Some x) (Some y) = meet time x y

  -- y is another edge than x, and both take some word at some moment
  abbrev pub meets : Taker T → Taker T → Bool
  meets x y = not (y.edge == x.edge) && both_take x.hearing y.hearing

  -- the edge e meets another of these; `heard k` is what k takes
  abbrev pub meeting_another : (ℕ → Heard T) → ℕ → List ℕ → Bool
  meeting_another heard e es = some (λ k. meets (taker_of heard e) (taker_of heard k)) es

  -- x meets one of these
  abbrev pub some_meets : Taker T → List (Taker T) → Bool
  some_meets x ys = list_any (meets x) ys

  -- the edges of xs that meet one of ys
  abbrev pub meeting : List (Taker T) → List (Taker T) → List ℕ
  meeting ys xs = flat_map (λ x. only_if (some_meets x ys) x.edge) xs

  -- The edge e shares a moment with another of its phase p: that one takes a word at a moment at which e takes it too.
  -- `heard p e` is what e takes in p.
  abbrev pub shared : List ℕ → (ℕ → ℕ → Heard T) → ℕ → ℕ → Bool
  shared b heard p e = meeting_another (heard p) e (edges b p)

  -- the smallest edge of the phase that does, or that the table is too short
  abbrev pub table_answer : List ℕ → (ℕ → ℕ → Heard T) → ℕ → List (Taker T) → Result (Option ℕ) Refusal
  table_answer b heard p table = cond (few_slots b p table) (Err (refused Room 0)) (Ok (smallest (broken_edges b (shared b heard) p)))

-- the table then: its first slots hold the phase's edges with what they take
abbrev pub table_list : {T : Type 0} → List ℕ → (ℕ → ℕ → Heard T) → ℕ → List (Taker T) → List (Taker T)
table_list b heard p table = cond (few_slots b p table) table (filled (takers (heard p) (edges b p)) table)
