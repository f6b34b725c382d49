-- Windows: each holds a time, and no two edges of a phase share a word and a moment.
use Rattle.std.proofs.Common.{◌≡◌, ℕ, Bool, false, not, ◌&&◌, eqb, ◌↔◌, List, map, Some, None, Decides, Option}
use Rattle.std.specs.List.{ContainsAt as Has}
use Rattle.std.proofs.lemmas.Bool.{not-true, not_from_false}
use Rattle.links.specs.Queues.{Distinct}
use Rattle.records.specs.Fits.{HighFits, WindowFits}
use Rattle.fields.specs.Fields.{edge_at}
use Rattle.chains.specs.Some.{some}
use Rattle.semantics.specs.Times.{Fraction, HighEnd, Closed, Open, Absent, Proper, Window, Order, itself}
use Rattle.semantics.specs.Fits.{edge_fits}
use Rattle.semantics.specs.Limits.{AtMostOne}
use Rattle.semantics.specs.LawfulModels.{SmallTime, SmallLife, WindowHolds}
use Rattle.semantics.specs.Books.{read_edge}
use Rattle.spans.specs.Spans.{counted, no_time}
use Rattle.spans.specs.Hearings.{edge_hearing, meet}
use Rattle.spans.specs.Meaning.{ProperLife}
use Rattle.spans.specs.Holding.{EdgesShare}
use Rattle.spans.proofs.Holding.{holds_exactly}
use Rattle.tree_laws.proofs.Apart.{apart}

-- small times are times
pub proper_life : (life : Option Fraction) → SmallLife life → ProperLife life
proper_life None h = tt
proper_life (Some t) h = h.proper

proper_high : (h : HighEnd Fraction) → HighFits SmallTime h → HighFits Proper h
proper_high (Closed t) h = h.proper
proper_high (Open t) h = h.proper
proper_high Absent h = tt

pub proper_window : (w : Window Fraction) → SmallTime w.low → HighFits SmallTime w.high → WindowFits Proper w
proper_window w low high = (low.proper, proper_high w.high high)

-- the edges es of a phase, in a station with the phases ps
module _ (o : Order) (life : Option Fraction) (b ps es : List ℕ) (pl : ProperLife life)
    (pe : (e : ℕ) → Has es e → WindowFits Proper (edge_at b e).window) where
  pub window_right : (e : ℕ) → Has es e → no_time itself (counted itself o life (edge_at b e).window) ≡ false ↔ WindowHolds o life (read_edge b ps e)
  window_right e he =
      let d = holds_exactly.windows o life (read_edge b ps e) pl (pe e he) in
      (λ h. d.0 (not_from_false _ h), λ h. not-true _ (d.1 h))

  abbrev meeting : ℕ → ℕ → Bool
  meeting e f = meet itself (edge_hearing o life (edge_at b e)) (edge_hearing o life (edge_at b f))

  shares : (e f : ℕ) → Has es e → Has es f → Decides (meeting e f) (EdgesShare o life (read_edge b ps e) (read_edge b ps f))
  shares e f he hf = holds_exactly.edges o life (read_edge b ps e) (read_edge b ps f) pl (pe e he) (pe f hf)

  pub edges_apart : (fs : List ℕ) → fs ≡ es → Distinct es → ((e : ℕ) → Has es e → some (λ f. not (eqb f e) && meeting e f) fs ≡ false) ↔
      ((p v : ℕ) (t : Fraction) → Proper t → AtMostOne (edge_fits o life p v t) (map (read_edge b ps) es))
  edges_apart fs same = apart Proper (edge_fits o life) (read_edge b ps) meeting es fs same shares
