-- Every printed record fits its fields.
use Rattle.std.proofs.Common.{ℕ, zero, suc, ◌+◌, ◌*◌, ◌<◌, ◌≤◌, List, [], ◌∷◌, ◌++◌, length, get_or, Some, None, sum_by, Option, mul-le-mul_left, arith, length-append}
use Rattle.std.specs.List.{flat_map, AllByRecursion}
use Rattle.std.proofs.ByRecursion.{All-append, All-weaker}
use Rattle.records.specs.Fits.{Byte, Two, Four, Eight, HighFits, WindowFits, PathFits, LabelFits, BoundFits, AutomatonFits, Fits}
use Rattle.semantics.specs.Times.{HighEnd, Closed, Open, Absent, Order}
use Rattle.semantics.specs.Trees.{Path, Phase, Station, ModelNet, Label, Silent, Hears, Sends, Transition, Location, Automaton}
use Rattle.semantics.specs.Scales.{station_scale}
use Rattle.semantics.specs.Limits.{LawfulPath}
use Rattle.semantics.specs.Print.{place_of, print_phases, print_station, station_locations}
use Rattle.semantics.specs.LawfulAutomata.{LawfulLabel, LawfulTransition, LawfulLocation, LawfulAutomaton}
use Rattle.semantics.specs.LawfulAutomata as lawful
use Rattle.semantics.specs.Rows.{Rec, leading, chained, transition_record, location_records, transition_records, size_of, count_from, location_numbers, phase_records, station_records, path_record, printed_records}
use Rattle.faithful.proofs.Law.{all_parts}
use Rattle.printing.proofs.Sizes.{size_cons, sizes_cons, size_least, chained_long, phases_long}

abbrev pub RecordFits : Rec → Type 0
RecordFits x = Fits AutomatonFits x

-- What a location and its transitions hold, but for record numbers, of which an automaton has n.
pub record TransitionFits (n : ℕ) (t : Transition) : Type 0 where
  pub goal_here : t.goal < n
  pub label_fits : LabelFits t.label
  pub guard_fits : WindowFits Eight t.guard

pub record LocationFits (n : ℕ) (l : Location) : Type 0 where
  pub phase_fits : Two l.phase
  pub sent_fits : Byte l.sent
  pub bound_fits : BoundFits l.bound
  pub transitions_fit : AllByRecursion (TransitionFits n) l.transitions

abbrev pub Filled : List (List Location) → Type 0
Filled bs = AllByRecursion (λ b. 1 ≤ length b) bs

-- A station's locations, phase by phase.
pub record StationFits (o : Order) (st : Station) : Type 0 where
  pub scale_fits : Four (station_scale st)
  pub opening_here : place_of st.phases st.opening < length (flat_map (λ b. b) (station_locations o st))
  pub filled : Filled (station_locations o st)
  pub all_fit : AllByRecursion (AllByRecursion (LocationFits (length (flat_map (λ b. b) (station_locations o st))))) (station_locations o st)

-- Lawful automata fit.
label_fits : (l : Label) → LawfulLabel l → LabelFits l
label_fits Silent h = tt
label_fits (Hears port lowest highest) h = (h.0, (let a = h.1.0 in let b = h.1.1 in omega arith), h.1.1)
label_fits (Sends port value) h = h

module _ (scale : ℕ) (few : scale ≤ 1000000) where
  tick_small : (n : ℕ) → n ≤ 1000000 * scale → Eight n
  tick_small n h = let a = mul-le-mul_left 1000000 few in omega arith

  high_small : (h : HighEnd ℕ) → HighFits (λ x. x ≤ 1000000 * scale) h → HighFits Eight h
  high_small (Closed x) h = tick_small x h
  high_small (Open x) h = tick_small x h
  high_small Absent h = tt

  bound_small : (b : Option ℕ) → lawful.BoundFits scale b → BoundFits b
  bound_small None h = tt
  bound_small (Some b) h = tick_small b h

  transition_fits : (n : ℕ) (bound : Option ℕ) (t : Transition) → LawfulTransition n scale bound t → TransitionFits n t
  transition_fits n bound t h = record {
    goal_here = h.goal_here;
    label_fits = label_fits t.label h.label_fits;
    guard_fits = (tick_small t.guard.low h.low_fits, high_small t.guard.high h.high_fits);
  }

location_fits : (a : Automaton) → a.scale ≤ 1000000 → (l : Location) → LawfulLocation a l → LocationFits (length a.locations) l
location_fits a few l h = record {
  phase_fits = h.phase_width;
  sent_fits = h.sent_width;
  bound_fits = bound_small a.scale few l.bound h.bound_fits;
  transitions_fit = All-weaker _ _ (transition_fits a.scale few (length a.locations) l.bound) l.transitions h.transitions_fit;
}

all_blocks : {A : Type 0} (P : A → Type 0) (bs : List (List A)) → AllByRecursion P (flat_map (λ b. b) bs) → AllByRecursion (AllByRecursion P) bs
all_blocks P [] h = tt
all_blocks P (b ∷ bs) h = let r = all_parts P b (flat_map (λ x. x) bs) h in (r.0, all_blocks P bs r.1)

phases_filled : (o : Order) (s : ℕ) (all : List Phase) (i here : ℕ) (fs : List Phase) → Filled (print_phases o s all i here fs)
phases_filled o s all i here [] = tt
phases_filled o s all i here (f ∷ fs) = (omega arith, phases_filled o s all (suc i) _ fs)

pub station_fits : (o : Order) (st : Station) → LawfulAutomaton (print_station o st) → StationFits o st
station_fits o st h = record {
  scale_fits = let a = h.scale_fits in omega arith;
  opening_here = h.opening_here;
  filled = phases_filled o (station_scale st) st.phases 0 0 st.phases;
  all_fit = all_blocks _ (station_locations o st) (All-weaker _ _ (location_fits (print_station o st) h.scale_fits) (flat_map (λ b. b) (station_locations o st)) h.locations_fit);
}

-- Record numbers up to B are small.
module _ (B : ℕ) (small : B < 65536) where
  fits_two : (n : ℕ) → n ≤ B → Two n
  fits_two n h = omega arith

  leading_small : {A : Type 0} (xs : List A) (k after : ℕ) → after ≤ B → k + length xs ≤ suc B → leading k after xs ≤ B
  leading_small [] k after a h = a
  leading_small (x ∷ xs) k after a h = omega arith

  chained_fit : {A : Type 0} (write : ℕ → A → Rec) (P : A → Type 0) → ((next : ℕ) (x : A) → next ≤ B → P x → RecordFits (write next x)) →
      (xs : List A) (k : ℕ) → k + length xs ≤ suc B → AllByRecursion P xs → AllByRecursion RecordFits (chained write k xs)
  chained_fit write P one [] k h all = tt
  chained_fit write P one (x ∷ xs) k h all = (
    one (leading (suc k) 0 xs) x (leading_small xs (suc k) 0 (omega arith) (omega arith)) all.0,
    chained_fit write P one xs (suc k) (omega arith) all.1,
  )

  get_or_small : (ns : List ℕ) (i : ℕ) → AllByRecursion (λ n. n ≤ B) ns → get_or ns i 0 ≤ B
  get_or_small [] i h = omega arith
  get_or_small (n ∷ ns) zero h = h.0
  get_or_small (n ∷ ns) (suc i) h = get_or_small ns i h.1

  module _ (n : ℕ) where
    locations_fit : (ls : List Location) (k t after : ℕ) → after ≤ B → k + length ls ≤ suc B → t + size_of ls ≤ suc B + length ls →
        AllByRecursion (LocationFits n) ls → AllByRecursion RecordFits (location_records k t after ls)
    locations_fit [] k t after a h j all = tt
    locations_fit (l ∷ ls) k t after a h j all =
        let size = size_cons l ls in
        let least = size_least ls in (
          (
            fits_two _ (leading_small ls (suc k) after a (omega arith)),
            (fits_two _ (leading_small l.transitions t 0 (omega arith) (omega arith)), all.0.phase_fits, all.0.sent_fits, all.0.bound_fits),
          ),
          locations_fit ls (suc k) (t + length l.transitions) after a (omega arith) (omega arith) all.1,
        )

    transitions_fit : (numbers : List ℕ) → AllByRecursion (λ x. x ≤ B) numbers → (ls : List Location) (t : ℕ) → t + size_of ls ≤ suc B + length ls →
        AllByRecursion (LocationFits n) ls → AllByRecursion RecordFits (transition_records numbers t ls)
    transitions_fit numbers few [] t j all = tt
    transitions_fit numbers few (l ∷ ls) t j all =
        let size = size_cons l ls in
        let least = size_least ls in
        All-append RecordFits (chained (transition_record numbers) t l.transitions) (transition_records numbers (t + length l.transitions) ls)
        (chained_fit (transition_record numbers) (TransitionFits n)
        (λ next x s h. (fits_two next s, (fits_two _ (get_or_small numbers x.goal few), h.label_fits, h.guard_fits))) l.transitions t (omega arith) all.0.transitions_fit)
        (transitions_fit numbers few ls (t + length l.transitions) (omega arith) all.1)

    lead_small : (bs : List (List Location)) (k : ℕ) → Filled bs → k + sum_by size_of bs ≤ suc B → leading k 0 bs ≤ B
    lead_small [] k f h = omega arith
    lead_small (b ∷ bs) k f h = let a = sizes_cons b bs in let c = size_least b in let d = f.0 in omega arith

    phases_fit : (numbers : List ℕ) → AllByRecursion (λ x. x ≤ B) numbers → (bs : List (List Location)) (k : ℕ) → Filled bs → k + sum_by size_of bs ≤ suc B →
        AllByRecursion (AllByRecursion (LocationFits n)) bs → AllByRecursion RecordFits (phase_records numbers k bs)
    phases_fit numbers few [] k f h all = tt
    phases_fit numbers few (b ∷ bs) k f h all =
        let sizes = sizes_cons b bs in
        let least = size_least b in
        let ls = location_records k (k + length b) (leading (k + size_of b) 0 bs) b in
        let ts = transition_records numbers (k + length b) b in
        let on = phase_records numbers (k + size_of b) bs in
        All-append RecordFits ls (ts ++ on)
        (locations_fit b k (k + length b) (leading (k + size_of b) 0 bs) (lead_small bs (k + size_of b) f.1 (omega arith)) (omega arith) (omega arith) all.0)
        (All-append RecordFits ts on (transitions_fit numbers few b (k + length b) (omega arith) all.0)
        (phases_fit numbers few bs (k + size_of b) f.1 (omega arith) all.1))

  count_small : {A : Type 0} (xs : List A) (k : ℕ) → k + length xs ≤ suc B → AllByRecursion (λ x. x ≤ B) (count_from k xs)
  count_small [] k h = tt
  count_small (x ∷ xs) k h = (omega arith, count_small xs (suc k) (omega arith))

  numbers_small : (bs : List (List Location)) (k : ℕ) → k + sum_by size_of bs ≤ suc B → AllByRecursion (λ x. x ≤ B) (location_numbers k bs)
  numbers_small [] k h = tt
  numbers_small (b ∷ bs) k h =
      let sizes = sizes_cons b bs in
      let least = size_least b in
      All-append (λ x. x ≤ B) (count_from k b) (location_numbers (k + size_of b) bs) (count_small b k (omega arith)) (numbers_small bs (k + size_of b) (omega arith))

  stations_fit : (o : Order) (sts : List Station) (k : ℕ) → k + length (station_records o k sts) ≤ suc B → AllByRecursion (StationFits o) sts → AllByRecursion RecordFits (station_records o k sts)
  stations_fit o [] k h all = tt
  stations_fit o (st ∷ sts) k h all =
      let bs = station_locations o st in
      let numbers = location_numbers (suc k) bs in
      let after = suc k + sum_by size_of bs in
      let long = length-append (phase_records numbers (suc k) bs) (station_records o after sts) in
      let mine = phases_long numbers bs (suc k) in
      let few = numbers_small bs (suc k) (omega arith) in
      let next : leading after 0 sts ≤ B = on sts after (omega arith) in (
        (fits_two _ next, (fits_two _ (get_or_small numbers 0 few), fits_two _ (get_or_small numbers (place_of st.phases st.opening) few), all.0.scale_fits)),
        All-append RecordFits (phase_records numbers (suc k) bs) (station_records o after sts)
            (phases_fit (length (flat_map (λ b. b) bs)) numbers few bs (suc k) all.0.filled (omega arith) all.0.all_fit)
            (stations_fit o sts after (omega arith) all.1),
      )
    where
      on : (ss : List Station) (j : ℕ) → j + length (station_records o j ss) ≤ suc B → leading j 0 ss ≤ B
      on [] j g = omega arith
      on (x ∷ xs) j g = omega arith

  path_fits : (n : ℕ) → n ≤ 16 → (p : Path) → LawfulPath n p → PathFits p
  path_fits n few p h = ((let a = h.sender_known in omega arith), h.sender_port_width, (let a = h.hearer_known in omega arith), h.hearer_port_width)

  pub records_fit : (m : ModelNet) → length m.stations ≤ 16 → length (printed_records m) ≤ B → AllByRecursion (StationFits m.order) m.stations → AllByRecursion (LawfulPath (length m.stations)) m.paths →
      AllByRecursion RecordFits (printed_records m)
  records_fit m few h stations paths =
      let body = station_records m.order 1 m.stations in
      let a = length-append body (chained path_record (suc (length body)) m.paths) in
      let b = chained_long path_record m.paths (suc (length body)) in
      All-append RecordFits body (chained path_record (suc (length body)) m.paths)
      (stations_fit m.order m.stations 1 (omega arith) stations)
      (chained_fit path_record (LawfulPath (length m.stations)) (λ next p s ok. (fits_two next s, path_fits (length m.stations) few p ok)) m.paths (suc (length body)) (omega arith) paths)
