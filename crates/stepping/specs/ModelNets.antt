-- Model nets step by the model's rules: phases, words sent, and ages in seconds that are compared with the book's own
-- fractions.
use Rattle.std.specs.Prelude.{◌≡◌, ℕ, suc, ◌≤◌, List, [], ◌∷◌, length, Ok}
use Rattle.semantics.specs.Trees.{Station, ModelNet, station_at}
use Rattle.semantics.specs.Events.{Event, event, Created}
use Rattle.semantics.specs.Net.{Net, NetState}
use Rattle.semantics.specs.Calls.{Call, left_by}
use Rattle.semantics.specs.ModelRules.{ModelState, fresh, ModelRun}
use Rattle.semantics.specs.LawfulModels.{LawfulModel}
use Rattle.semantics.specs.Faithful.{model_made, ModelStands, model_start}
use Rattle.stepping.specs.Obeys.{acts_of, StepsBy}

-- the net of the tree with q parts to a net tick, and the state that calls leave after its making
module _ (m : ModelNet) (q : ℕ) where
  abbrev pub net_of : Net
  net_of = (model_made m q 0).net

  abbrev pub left : List Call → NetState
  left calls = left_by net_of m.paths calls (model_made m q 0).state

-- the events of a making: each station's opening phase, from station k on
abbrev pub openings : ℕ → List Station → List Event
openings k [] = []
openings k (st ∷ sts) = event Created k 0 (suc st.opening) ∷ openings (suc k) sts

-- After any calls, obeyed or declined. Nothing before them is the making itself.
pub record ModelSteps (m : ModelNet) (q : ℕ) (calls : List Call) : Type 0 where
  -- a making with room succeeds, and each station then is fresh in its opening phase
  pub makes : (slots : ℕ) → length m.stations ≤ slots → (model_made m q slots).answer ≡ Ok (openings 1 m.stations)
  pub opens : ModelStands m q (model_made m q 0).state (λ i. fresh (station_at m i).opening)
  -- where the model's run starts is what the stations tell
  pub stands : ModelStands m q (left m q calls) (model_start m q (left m q calls))
  -- from there, and from any states that the stations tell so, the net steps by the model's rules
  pub steps : (σ : ℕ → ModelState) → ModelStands m q (left m q calls) σ → (cs : List Call) (es : List Event) →
      StepsBy (net_of m q) m.paths (left m q calls) cs es (ModelRun m σ (acts_of q cs) es) (ModelStands m q)

-- for every lawful model net and all parts that a making takes
abbrev pub ModelNetsStep : Type 0
ModelNetsStep = (m : ModelNet) → LawfulModel m → (q : ℕ) → 1 ≤ q → q ≤ 1000 → (calls : List Call) → ModelSteps m q calls
