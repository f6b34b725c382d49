-- When a making is declined, and with what: for each refusal, in its order, the condition in plain terms, and the place.
use Rattle.std.specs.Prelude.{◌≡◌, ℕ, ◌*◌, ◌<◌, ◌≤◌, ◌⊎◌, ◌↔◌, List, length, Ok, Err}
use Rattle.book.specs.Refusals.{refused}
use Rattle.book.specs.declared.refusal.Fault.{Fault}
use Rattle.book.specs.declared.refusal.Fault.TheVariants.{Scale, Paths, Room, Parts}
use Rattle.semantics.specs.Times.{Order}
use Rattle.semantics.specs.Trees.{Path}
use Rattle.semantics.specs.Machine.{Meaning, meaning_at, net_scale, factor}
use Rattle.semantics.specs.Events.{Event}
use Rattle.semantics.specs.Calls.{make, created}
use Rattle.stepping.specs.Declines.{NoneHas, LowestWith, BadPath}

-- A machine, the paths, the parts per net tick and the event slots of a making. Its order plays no part.
module _ (ms : Meaning) (paths : List Path) (q slots : ℕ) where
  -- the station of that place would be geared with a factor of 0, or to more than 1,000,000 ticks per second
  abbrev pub Misfits : ℕ → Type 0
  Misfits i =
      (factor (net_scale ms) (meaning_at ms i) ≡ 0)
      ⊎ (1000000 < (meaning_at ms i).scale * factor (net_scale ms) (meaning_at ms i))

  -- neither a station nor a path is at fault
  abbrev pub AllFit : Type 0
  AllFit = NoneHas Misfits (length ms) × NoneHas (BadPath (length ms) paths) (length paths)

  -- the conditions, each after those before it have failed to hold
  pub data MakingDeclines : Fault → ℕ → Type 0 where
    scale : {k : ℕ} → LowestWith Misfits (length ms) k → MakingDeclines Scale k
    path : {k : ℕ} → NoneHas Misfits (length ms) → LowestWith (BadPath (length ms) paths) (length paths) k → MakingDeclines Paths k
    room : AllFit → slots < length ms → MakingDeclines Room 0
    parts : AllFit → length ms ≤ slots → (q ≡ 0) ⊎ (1000 < q) → MakingDeclines Parts 0

  -- none of them holds
  pub record MakingFits : Type 0 where
    pub all_fit : AllFit
    pub slots_fit : length ms ≤ slots
    pub some_parts : 1 ≤ q
    pub few_parts : q ≤ 1000

-- A making is declined with a fault at a place exactly where that refusal's condition is the first that holds, there. It
-- succeeds exactly where none holds, and then an event tells of each station, in its opening phase.
pub record MakingAnswers (ms : Meaning) (paths : List Path) (o : Order) (q slots : ℕ) : Type 0 where
  pub declines : (f : Fault) (k : ℕ) → ((make ms paths o q slots).answer ≡ Err (refused f k)) ↔ MakingDeclines ms paths q slots f k
  pub makes : (es : List Event) → ((make ms paths o q slots).answer ≡ Ok es) ↔ MakingFits ms paths q slots × (es ≡ created 1 ms)

-- over any machine, and so over any sound one
abbrev pub MakingsDecline : Type 0
MakingsDecline = (ms : Meaning) (paths : List Path) (o : Order) (q slots : ℕ) → MakingAnswers ms paths o q slots
