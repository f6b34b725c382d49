-- A book that holds the printed records is read as what was printed: transitions, locations, automata, paths.
use Rattle.std.proofs.Common.{◌≡◌, ℕ, suc, ◌+◌, ◌<◌, ◌≤◌, Bool, List, [], ◌∷◌, ◌++◌, map, length, get_or, sum_by, Option, sym, refl, ap, ◌∙◌, subst, ap₂, arith, length-append}
use Rattle.std.specs.List.{flat_map, AllByRecursion}
use Rattle.std.proofs.lemmas.List.{map-append}
use Rattle.book.specs.Bytes.{at}
use Rattle.book.specs.Chains.{chain_of}
use Rattle.book.specs.declared.record.Location.{Location as LocationRow}
use Rattle.book.specs.declared.record.Transition.{Transition as TransitionRow}
use Rattle.book.specs.declared.record.Automaton.{Automaton as AutomatonRow}
use Rattle.semantics.specs.Times.{Order}
use Rattle.semantics.specs.Trees.{Path, Station, Transition, Location}
use Rattle.semantics.specs.Scales.{station_scale}
use Rattle.semantics.specs.Print.{place_of, print_station, station_locations}
use Rattle.semantics.specs.Books.{place_in, read_transition, read_location, read_automaton, read_path}
use Rattle.semantics.specs.Rows.{leading, chained, transition_record, location_record, location_records, transition_records, size_of, count_from, location_numbers, phase_records, automaton_record, station_records, path_record}
use Rattle.printing.proofs.Sizes.{size_least, chained_long, locations_long, transitions_long, phases_long}
use Rattle.printing.proofs.Widths.{TransitionFits, LocationFits, Filled, StationFits}
use Rattle.printing.proofs.Rows.{Holds, holds_next, holds_automaton, holds_location, holds_transition, holds_path, Stands, here, behind, left, right, Leads, chain_leads, leads_start, place_back, chained_leads}

abbrev flat : List (List Location) → List Location
flat bs = flat_map (λ b. b) bs

count_long : {A : Type 0} (xs : List A) (k : ℕ) → length (count_from k xs) ≡ length xs
count_long [] k = refl
count_long (x ∷ xs) k = ap suc (count_long xs (suc k))

numbers_long : (bs : List (List Location)) (k : ℕ) → length (location_numbers k bs) ≡ length (flat bs)
numbers_long [] k = refl
numbers_long (b ∷ bs) k =
    let e₁ = length-append (count_from k b) (location_numbers (k + size_of b) bs) in
    let e₂ = length-append b (flat bs) in
    let e₃ = count_long b k in
    let e₄ = numbers_long bs (k + size_of b) in
    omega arith

-- the record numbers of the automata
abbrev pub station_numbers : Order → ℕ → List Station → List ℕ
station_numbers o k [] = []
station_numbers o k (st ∷ sts) = k ∷ station_numbers o (suc k + sum_by size_of (station_locations o st)) sts

same_location : (p s : ℕ) (c : Bool) (b : Option ℕ) (ts us : List Transition) → ts ≡ us →
    ◌≡◌ {A = Location} (record { phase = p; sent = s; committed = c; bound = b; transitions = ts }) (record { phase = p; sent = s; committed = c; bound = b; transitions = us })
same_location p s c b ts us e = ap (λ x. record { phase = p; sent = s; committed = c; bound = b; transitions = x }) e

module _ (b : List ℕ) where
  -- one automaton's locations, whose record numbers lead from s on
  module _ (numbers : List ℕ) (s : ℕ) (lead : Leads b 0 s numbers) where
    transition_read : (k next : ℕ) (t : Transition) → Holds b k (transition_record numbers next t) → TransitionFits (length numbers) t →
        read_transition b numbers k ≡ t
    transition_read k next t h fits =
        let it = holds_transition b k next (record { goal = get_or numbers t.goal 0; label = t.label; resets = t.resets; guard = t.guard }) h in
        ap (λ (x : TransitionRow). record { goal = place_in numbers x.goal; label = x.label; resets = x.resets; guard = x.guard }) it
        ∙ ap (λ g. record { goal = g; label = t.label; resets = t.resets; guard = t.guard }) (place_back b 0 s numbers lead t.goal fits.goal_here)

    transitions_read : (ts : List Transition) (k : ℕ) → Stands b k (chained (transition_record numbers) k ts) → AllByRecursion (TransitionFits (length numbers)) ts →
        map (read_transition b numbers) (count_from k ts) ≡ ts
    transitions_read [] k a h = refl
    transitions_read (t ∷ ts) k a h =
        let next = leading (suc k) 0 ts in
        let rest = chained (transition_record numbers) (suc k) ts in
        ap₂ (λ x y. x ∷ y) (transition_read k next t (here b k (transition_record numbers next t) rest a).0 h.0)
        (transitions_read ts (suc k) (behind b k (transition_record numbers next t) rest a) h.1)

    location_read : (k next t : ℕ) (l : Location) → Holds b k (location_record next (leading t 0 l.transitions) l) → 1 ≤ t →
        Stands b t (chained (transition_record numbers) t l.transitions) → LocationFits (length numbers) l → read_location b numbers k ≡ l
    location_read k next t l h some at fits =
        let first = leading t 0 l.transitions in
        let it = holds_location b k next (record { first_transition = first; phase = l.phase; sent = l.sent; committed = l.committed; bound = l.bound }) h in
        let on = chained_leads b (transition_record numbers) (λ n x. refl) l.transitions t 0 (omega arith) at in
        ap (λ (x : LocationRow). record { phase = x.phase; sent = x.sent; committed = x.committed; bound = x.bound; transitions = map (read_transition b numbers) (chain_of b x.first_transition) }) it
        ∙ same_location l.phase l.sent l.committed l.bound _ _
        (ap (map (read_transition b numbers)) (chain_leads b first (count_from t l.transitions) on) ∙ transitions_read l.transitions t at fits.transitions_fit)

    phase_read : (ls : List Location) (k t after : ℕ) → 1 ≤ t → Stands b k (location_records k t after ls) → Stands b t (transition_records numbers t ls) →
        AllByRecursion (LocationFits (length numbers)) ls → map (read_location b numbers) (count_from k ls) ≡ ls
    phase_read [] k t after some a at h = refl
    phase_read (l ∷ ls) k t after some a at h =
        let it = location_record (leading (suc k) after ls) (leading t 0 l.transitions) l in
        let on = location_records (suc k) (t + length l.transitions) after ls in
        let mine = chained (transition_record numbers) t l.transitions in
        let theirs = transition_records numbers (t + length l.transitions) ls in
        let long = chained_long (transition_record numbers) l.transitions t in
        ap₂ (λ x y. x ∷ y) (location_read k (leading (suc k) after ls) t l (here b k it on a).0 some (left b mine theirs t at) h.0)
        (phase_read ls (suc k) (t + length l.transitions) after (omega arith) (behind b k it on a) (right b mine theirs t (t + length l.transitions) (omega arith) at) h.1)

    phases_read : (bs : List (List Location)) (k : ℕ) → 1 ≤ k → Stands b k (phase_records numbers k bs) → AllByRecursion (AllByRecursion (LocationFits (length numbers))) bs →
        map (read_location b numbers) (location_numbers k bs) ≡ flat bs
    phases_read [] k some a h = refl
    phases_read (c ∷ bs) k some a h =
        let ls = location_records k (k + length c) (leading (k + size_of c) 0 bs) c in
        let ts = transition_records numbers (k + length c) c in
        let on = phase_records numbers (k + size_of c) bs in
        let e₁ = locations_long c k (k + length c) (leading (k + size_of c) 0 bs) in
        let e₂ = transitions_long numbers c (k + length c) in
        let at-ts : Stands b (k + length c) (ts ++ on) = right b ls (ts ++ on) k (k + length c) (omega arith) a in
        map-append (read_location b numbers) (count_from k c) (location_numbers (k + size_of c) bs)
        ∙ ap₂ (λ x y. x ++ y)
        (phase_read c k (k + length c) (leading (k + size_of c) 0 bs) (omega arith) (left b ls (ts ++ on) k a) (left b ts on (k + length c) at-ts) h.0)
        (phases_read bs (k + size_of c) (omega arith) (right b ts on (k + length c) (k + size_of c) (omega arith) at-ts) h.1)

  -- the chain of a phase's locations, and of all
  phase_leads : (ls : List Location) (k t after low : ℕ) (ks : List ℕ) → 1 ≤ length ls → low < k → Stands b k (location_records k t after ls) →
      ((lower : ℕ) → lower < k + length ls → Leads b lower after ks) → Leads b low k (count_from k ls ++ ks)
  phase_leads [] k t after low ks some l a h = absurd (omega arith)
  phase_leads (x ∷ []) k t after low ks some l a h =
      let it = location_record after (leading t 0 x.transitions) x in
      let now = here b k it [] a in
      (refl, l, now.1, subst (λ j. Leads b k j ks) (sym (holds_next b k it now.0)) (h k (omega arith)))
  phase_leads (x ∷ y ∷ ls) k t after low ks some l a h =
      let it = location_record (suc k) (leading t 0 x.transitions) x in
      let rest = location_records (suc k) (t + length x.transitions) after (y ∷ ls) in
      let now = here b k it rest a in
      let on = phase_leads (y ∷ ls) (suc k) (t + length x.transitions) after k ks (omega arith) (omega arith) (behind b k it rest a) (λ lower m. h lower (omega arith)) in
      (refl, l, now.1, subst (λ j. Leads b k j (count_from (suc k) (y ∷ ls) ++ ks)) (sym (holds_next b k it now.0)) on)

  phases_lead : (numbers : List ℕ) (bs : List (List Location)) (k low : ℕ) → low < k → Filled bs → Stands b k (phase_records numbers k bs) →
      Leads b low (leading k 0 bs) (location_numbers k bs)
  phases_lead numbers [] k low l some a = refl
  phases_lead numbers (c ∷ bs) k low l some a =
      let ls = location_records k (k + length c) (leading (k + size_of c) 0 bs) c in
      let ts = transition_records numbers (k + length c) c in
      let on = phase_records numbers (k + size_of c) bs in
      let e₁ = locations_long c k (k + length c) (leading (k + size_of c) 0 bs) in
      let e₂ = transitions_long numbers c (k + length c) in
      let e₃ = size_least c in
      let at_on : Stands b (k + size_of c) on = right b ts on (k + length c) (k + size_of c) (omega arith) (right b ls (ts ++ on) k (k + length c) (omega arith) a) in
      phase_leads c k (k + length c) (leading (k + size_of c) 0 bs) low (location_numbers (k + size_of c) bs) some.0 l (left b ls (ts ++ on) k a)
      (λ lower m. phases_lead numbers bs (k + size_of c) lower (omega arith) some.1 at_on)

  -- one automaton
  automaton_read : (o : Order) (st : Station) (k next : ℕ) →
      Holds b k (automaton_record next (get_or (location_numbers (suc k) (station_locations o st)) 0 0) (get_or (location_numbers (suc k) (station_locations o st)) (place_of st.phases st.opening) 0) (station_scale st)) →
      Stands b (suc k) (phase_records (location_numbers (suc k) (station_locations o st)) (suc k) (station_locations o st)) → StationFits o st →
      read_automaton b k ≡ print_station o st
  automaton_read o st k next h at fits =
      let bs = station_locations o st in
      let numbers = location_numbers (suc k) bs in
      let opening = place_of st.phases st.opening in
      let start = leading (suc k) 0 bs in
      let lead = phases_lead numbers bs (suc k) 0 (omega arith) fits.filled at in
      let many = numbers_long bs (suc k) in
      let opens = fits.opening_here in
      let it = holds_automaton b k next (record { first_location = get_or numbers 0 0; opening = get_or numbers opening 0; scale = station_scale st }) h in
      let chained : chain_of b (get_or numbers 0 0) ≡ numbers = ap (chain_of b) (sym (leads_start b 0 start numbers lead)) ∙ chain_leads b start numbers lead in
      ap (λ (x : AutomatonRow). record { scale = x.scale; opening = place_in (chain_of b x.first_location) x.opening; locations = map (read_location b (chain_of b x.first_location)) (chain_of b x.first_location) }) it
      ∙ ap (λ ns. record { scale = station_scale st; opening = place_in ns (get_or numbers opening 0); locations = map (read_location b ns) ns }) chained
      ∙ ap₂ (λ (p : ℕ) (ls : List Location). record { scale = station_scale st; opening = p; locations = ls })
      (place_back b 0 start numbers lead opening (omega arith))
      (phases_read numbers start lead bs (suc k) (omega arith) at (subst (λ n. AllByRecursion (AllByRecursion (LocationFits n)) bs) (sym many) fits.all_fit))

  pub automata_read : (o : Order) (sts : List Station) (k : ℕ) → Stands b k (station_records o k sts) → AllByRecursion (StationFits o) sts →
      map (read_automaton b) (station_numbers o k sts) ≡ map (print_station o) sts
  automata_read o [] k a h = refl
  automata_read o (st ∷ sts) k a h =
      let bs = station_locations o st in
      let numbers = location_numbers (suc k) bs in
      let after = suc k + sum_by size_of bs in
      let it = automaton_record (leading after 0 sts) (get_or numbers 0 0) (get_or numbers (place_of st.phases st.opening) 0) (station_scale st) in
      let mine = phase_records numbers (suc k) bs in
      let on = station_records o after sts in
      let long = phases_long numbers bs (suc k) in
      let rest = behind b k it (mine ++ on) a in
      ap₂ (λ x y. x ∷ y) (automaton_read o st k (leading after 0 sts) (here b k it (mine ++ on) a).0 (left b mine on (suc k) rest) h.0)
      (automata_read o sts after (right b mine on (suc k) after (omega arith) rest) h.1)

  pub automata_lead : (o : Order) (sts : List Station) (k low : ℕ) → low < k → Stands b k (station_records o k sts) → Leads b low (leading k 0 sts) (station_numbers o k sts)
  automata_lead o [] k low l a = refl
  automata_lead o (st ∷ sts) k low l a =
      let bs = station_locations o st in
      let numbers = location_numbers (suc k) bs in
      let after = suc k + sum_by size_of bs in
      let it = automaton_record (leading after 0 sts) (get_or numbers 0 0) (get_or numbers (place_of st.phases st.opening) 0) (station_scale st) in
      let mine = phase_records numbers (suc k) bs in
      let on = station_records o after sts in
      let long = phases_long numbers bs (suc k) in
      let now = here b k it (mine ++ on) a in
      let lead = automata_lead o sts after k (omega arith) (right b mine on (suc k) after (omega arith) (behind b k it (mine ++ on) a)) in
      (refl, l, now.1, subst (λ x. Leads b k x (station_numbers o after sts)) (sym (holds_next b k it now.0)) lead)

  -- the paths
  pub paths_read : (ps : List Path) (k : ℕ) → Stands b k (chained path_record k ps) → map (read_path b) (count_from k ps) ≡ ps
  paths_read [] k a = refl
  paths_read (p ∷ ps) k a =
      let next = leading (suc k) 0 ps in
      let on = chained path_record (suc k) ps in
      ap₂ (λ x y. x ∷ y) (holds_path b k next p (here b k (path_record next p) on a).0) (paths_read ps (suc k) (behind b k (path_record next p) on a))
