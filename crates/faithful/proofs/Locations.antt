-- Where a phase's locations stand in the printed automaton.
use Rattle.std.proofs.Common.{◌≡◌, ℕ, zero, suc, ◌+◌, ◌-◌, ◌<◌, ◌≤◌, true, ◌⊎◌, List, [], ◌∷◌, length, get_or, drop, None, sym, refl, ap, ◌∙◌, ap₂, inl, inr, suc-le-suc, arith}
use Rattle.std.specs.List.{flat_map}
use Rattle.std.proofs.lemmas.Bool.{cases_lt}
use Rattle.std.proofs.lemmas.List.{get_or_append_left, get_or-append_right, length-append}
use Rattle.semantics.specs.Times.{Order}
use Rattle.semantics.specs.Trees.{Word, Phase, words_of, next_of, Station, Location, phase_at, blank_phase, location_at, blank_location}
use Rattle.semantics.specs.Scales.{station_scale}
use Rattle.semantics.specs.Print.{from_on, locations_for, place_of, print_sending, print_committed, print_quiet, print_phase, print_phases, print_station}

-- how many locations a phase has
abbrev pub width : Phase → ℕ
width f = locations_for (words_of f)

-- the locations of phases as one list
abbrev pub listed : Order → ℕ → List Phase → ℕ → ℕ → List Phase → List Location
listed o s all i here fs = flat_map (λ ls. ls) (print_phases o s all i here fs)

pub drop_some : (ws : List Word) (j : ℕ) → j < length ws → (w : Word) × (rest : List Word) × (drop j ws ≡ w ∷ rest)
drop_some [] j l = absurd (omega arith)
drop_some (w ∷ ws) zero l = (w, ws, refl)
drop_some (w ∷ ws) (suc j) l = drop_some ws j (omega arith)

-- a location with k words sent, k not 0, has a word to send
pub more_words : (ws : List Word) (k : ℕ) → suc k < locations_for ws → suc k < length ws
more_words [] k h = absurd (omega arith)
more_words (w ∷ ws) k h = h

-- the location with the word w to send, and the words `rest` after it
abbrev pub busy_location : ℕ → ℕ → ℕ → ℕ → Word → List Word → Location
busy_location i next here sent w rest = record { phase = suc i; sent = sent; committed = true; bound = None; transitions = print_sending here next (from_on 0) w rest ∷ [] }

committed_at : (i next : ℕ) (ws : List Word) (j here sent : ℕ) (w : Word) (rest : List Word) → drop j ws ≡ w ∷ rest →
    (here' sent' : ℕ) → here' ≡ here + j → sent' ≡ sent + j →
    get_or (print_committed i next here sent ws) j blank_location ≡ busy_location i next here' sent' w rest
committed_at i next [] j here sent w rest e here' sent' eh es = absurd (never j e)
  where
    never : (k : ℕ) → drop k [] ≡ w ∷ rest → ⊥
    never zero f = let z : ◌≡◌ {A = ℕ} 0 1 = cc in omega arith
    never (suc k) f = let z : ◌≡◌ {A = ℕ} 0 1 = cc in omega arith
committed_at i next (x ∷ ws) zero here sent w rest e here' sent' eh es =
    let hh : here ≡ here' = omega arith in
    let ss : sent ≡ sent' = omega arith in
    let ww : x ≡ w = cc in
    let rr : ws ≡ rest = cc in
    cc
committed_at i next (x ∷ ws) (suc j) here sent w rest e here' sent' eh es =
    committed_at i next ws j (suc here) (suc sent) w rest e here' sent' (omega arith) (omega arith)

committed_long : (i next here sent : ℕ) (ws : List Word) → length (print_committed i next here sent ws) ≡ length ws
committed_long i next here sent [] = refl
committed_long i next here sent (w ∷ ws) = ap suc (committed_long i next (suc here) (suc sent) ws)

width_rest : (ws : List Word) → locations_for ws ≡ suc (length (drop 1 ws))
width_rest [] = refl
width_rest (w ∷ ws) = refl

module _ (o : Order) (s : ℕ) (all : List Phase) where
  locations_long : (i here : ℕ) (p : Phase) → length (print_phase o s all i here p) ≡ width p
  locations_long i here p = ap suc (committed_long i (place_of all (next_of p)) (suc here) 1 (drop 1 (words_of p))) ∙ sym (width_rest (words_of p))

  location_in : (ps : List Phase) (k j i here : ℕ) → k < length ps → j < width (get_or ps k blank_phase) →
      (i' here' n : ℕ) → i' ≡ i + k → here' ≡ here + place_of ps k → n ≡ place_of ps k + j →
      get_or (listed o s all i here ps) n blank_location ≡ get_or (print_phase o s all i' here' (get_or ps k blank_phase)) j blank_location
  location_in [] k j i here l m i' here' n ei eh en = absurd (omega arith)
  location_in (p ∷ ps) zero j i here l m i' here' n ei eh en =
      let ii : i ≡ i' = omega arith in
      let hh : here ≡ here' = omega arith in
      let nn : n ≡ j = omega arith in
      let long = locations_long i here p in
      ap (λ x. get_or (listed o s all i here (p ∷ ps)) x blank_location) nn ∙
      get_or_append_left (print_phase o s all i here p) (listed o s all (suc i) (here + width p) ps) blank_location j (omega arith) ∙
      ap₂ (λ x y. get_or (print_phase o s all x y p) j blank_location) ii hh
  location_in (p ∷ ps) (suc k) j i here l m i' here' n ei eh en =
      get_or-append_right (print_phase o s all i here p) (listed o s all (suc i) (here + width p) ps) (width p) n blank_location (locations_long i here p) (omega arith) ∙
      location_in ps k j (suc i) (here + width p) (omega arith) m i' here' (n - width p) (omega arith) (omega arith) (omega arith)

  pub all_long : (ps : List Phase) (k j i here : ℕ) → k < length ps → j < width (get_or ps k blank_phase) → place_of ps k + j < length (listed o s all i here ps)
  all_long [] k j i here l m = absurd (omega arith)
  all_long (p ∷ ps) zero j i here l m =
      let long = locations_long i here p in
      let both = length-append (print_phase o s all i here p) (listed o s all (suc i) (here + width p) ps) in
      omega arith
  all_long (p ∷ ps) (suc k) j i here l m =
      let long = locations_long i here p in
      let both = length-append (print_phase o s all i here p) (listed o s all (suc i) (here + width p) ps) in
      let more = all_long ps k j (suc i) (here + width p) (omega arith) m in
      omega arith

  abbrev pub Placed : List Phase → ℕ → Type 0
  Placed ps n = (k : ℕ) × (j : ℕ) × (k < length ps) × (j < width (get_or ps k blank_phase)) × (n ≡ place_of ps k + j)

  split_more : (p : Phase) (ps : List Phase) (i here n : ℕ) → n < length (listed o s all i here (p ∷ ps)) →
      (n < width p) ⊎ (width p ≤ n) → (n - width p < length (listed o s all (suc i) (here + width p) ps) → Placed ps (n - width p)) → Placed (p ∷ ps) n
  split_more p ps i here n l (inl h) rec = (0, n, omega arith, h, omega arith)
  split_more p ps i here n l (inr h) rec =
      let long = locations_long i here p in
      let both = length-append (print_phase o s all i here p) (listed o s all (suc i) (here + width p) ps) in
      let r = rec (omega arith) in
      let e = r.4 in
      (suc r.0, r.1, suc-le-suc r.2, r.3, omega arith)

  pub split_place : (ps : List Phase) (i here n : ℕ) → n < length (listed o s all i here ps) → Placed ps n
  split_place [] i here n l = absurd (omega arith)
  split_place (p ∷ ps) i here n l = split_more p ps i here n l (cases_lt n (width p)) (split_place ps (suc i) (here + width p) (n - width p))

-- the quiet location of the phase i, and those with words sent
module _ (o : Order) (st : Station) (i : ℕ) (l : i < length st.phases) where
  wide : (ws : List Word) → 0 < locations_for ws
  wide [] = omega arith
  wide (w ∷ ws) = omega arith

  pub quiet_at : (n : ℕ) → n ≡ place_of st.phases i + 0 → location_at (print_station o st) n ≡ print_quiet o (station_scale st) st.phases i n (phase_at st.phases i)
  quiet_at n e =
      let eh : n ≡ 0 + place_of st.phases i = omega arith in
      let ei : i ≡ 0 + i = omega arith in
      location_in o (station_scale st) st.phases st.phases i 0 0 0 l (wide (words_of (phase_at st.phases i))) i n n ei eh e

  pub busy_at : (j n : ℕ) (w : Word) (rest : List Word) → suc j < width (phase_at st.phases i) → drop (suc j) (words_of (phase_at st.phases i)) ≡ w ∷ rest →
      n ≡ place_of st.phases i + suc j →
      location_at (print_station o st) n ≡ busy_location i (place_of st.phases (next_of (phase_at st.phases i))) n (suc j) w rest
  busy_at j n w rest m d e =
      let here = place_of st.phases i in
      let eh : here ≡ 0 + here = omega arith in
      let ei : i ≡ 0 + i = omega arith in
      let first = location_in o (station_scale st) st.phases st.phases i (suc j) 0 0 l m i here n ei eh e in
      first ∙ committed_at i _ (drop 1 (words_of (phase_at st.phases i))) j (suc here) 1 w rest (shift (words_of (phase_at st.phases i)) d) n (suc j) (omega arith) (omega arith)
    where
      shift : (ws : List Word) → drop (suc j) ws ≡ w ∷ rest → drop j (drop 1 ws) ≡ w ∷ rest
      shift [] f = absurd (let z : ◌≡◌ {A = ℕ} 0 1 = cc in omega arith)
      shift (x ∷ ws) f = f
