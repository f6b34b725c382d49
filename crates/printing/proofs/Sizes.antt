-- How many records are printed.
use Rattle.std.proofs.Common.{◌≡◌, ℕ, suc, ◌+◌, ◌*◌, ◌≤◌, List, [], ◌∷◌, ◌++◌, map, length, sum_by, refl, ap, arith, length-append}
use Rattle.std.specs.List.{flat_map}
use Rattle.std.proofs.lemmas.List.Sums.{sum_by-cons, sum_by-append}
use Rattle.book.specs.declared.record.AutomatonBody.{AutomatonBody}
use Rattle.book.specs.declared.record.AutomatonBody.TheVariants as automata
use Rattle.book.specs.declared.term.BookKind.TheVariants as kinds
use Rattle.book.specs.declared.record.Head.{Head}
use Rattle.records.specs.Automaton.{encoded_automaton, automaton_rest}
use Rattle.records.specs.Books.{rows, book_bytes}
use Rattle.semantics.specs.Times.{Order}
use Rattle.semantics.specs.Trees.{Station, ModelNet, Location}
use Rattle.semantics.specs.Print.{print_station, station_locations, print}
use Rattle.semantics.specs.LawfulAutomata.{automaton_records, automata_records}
use Rattle.semantics.specs.LawfulAutomata as lawful
use Rattle.semantics.specs.Rows.{Rec, leading, chained, transition_record, location_records, transition_records, size_of, location_numbers, phase_records, station_records, path_record, printed_records, printed_head}
use Rattle.faithful.proofs.PrintedLawful.{printed_is_lawful}
use Rattle.printing.specs.ReadsBack.{PrintedFits}

pub size_cons : (l : Location) (ls : List Location) → size_of (l ∷ ls) ≡ suc (length l.transitions) + size_of ls
size_cons l ls = sum_by-cons (λ x. suc (length x.transitions)) l ls

pub sizes_cons : (b : List Location) (bs : List (List Location)) → sum_by size_of (b ∷ bs) ≡ size_of b + sum_by size_of bs
sizes_cons b bs = sum_by-cons size_of b bs

pub size_least : (ls : List Location) → length ls ≤ size_of ls
size_least [] = omega arith
size_least (l ∷ ls) = let a = size_cons l ls in let b = size_least ls in omega arith

pub chained_long : {A : Type 0} (write : ℕ → A → Rec) (xs : List A) (k : ℕ) → length (chained write k xs) ≡ length xs
chained_long write [] k = refl
chained_long write (x ∷ xs) k = ap suc (chained_long write xs (suc k))

pub locations_long : (ls : List Location) (k t after : ℕ) → length (location_records k t after ls) ≡ length ls
locations_long [] k t after = refl
locations_long (l ∷ ls) k t after = ap suc (locations_long ls (suc k) (t + length l.transitions) after)

pub transitions_long : (numbers : List ℕ) (ls : List Location) (t : ℕ) → length ls + length (transition_records numbers t ls) ≡ size_of ls
transitions_long numbers [] t = refl
transitions_long numbers (l ∷ ls) t =
    let both = length-append (chained (transition_record numbers) t l.transitions) (transition_records numbers (t + length l.transitions) ls) in
    let one = chained_long (transition_record numbers) l.transitions t in
    let more = transitions_long numbers ls (t + length l.transitions) in
    let size = size_cons l ls in
    omega arith

pub phases_long : (numbers : List ℕ) (bs : List (List Location)) (k : ℕ) → length (phase_records numbers k bs) ≡ sum_by size_of bs
phases_long numbers [] k = refl
phases_long numbers (b ∷ bs) k =
    let ls = location_records k (k + length b) (leading (k + size_of b) 0 bs) b in
    let ts = transition_records numbers (k + length b) b in
    let on = phase_records numbers (k + size_of b) bs in
    let e₁ = length-append ls (ts ++ on) in
    let e₂ = length-append ts on in
    let e₃ = locations_long b k (k + length b) (leading (k + size_of b) 0 bs) in
    let e₄ = transitions_long numbers b (k + length b) in
    let e₅ = phases_long numbers bs (k + size_of b) in
    let e₆ = sizes_cons b bs in
    omega arith

same_size : (ls : List Location) → sum_by lawful.location_records ls ≡ size_of ls
same_size [] = refl
same_size (l ∷ ls) =
    let a = sum_by-cons lawful.location_records l ls in
    let b = same_size ls in
    let c = size_cons l ls in
    omega arith

joined_size : (bs : List (List Location)) → sum_by lawful.location_records (flat_map (λ b. b) bs) ≡ sum_by size_of bs
joined_size [] = refl
joined_size (b ∷ bs) =
    let a = sum_by-append lawful.location_records b (flat_map (λ x. x) bs) in
    let c = same_size b in
    let d = joined_size bs in
    let e = sizes_cons b bs in
    omega arith

pub stations_long : (o : Order) (sts : List Station) (k : ℕ) → length (station_records o k sts) ≡ sum_by automaton_records (map (print_station o) sts)
stations_long o [] k = refl
stations_long o (st ∷ sts) k =
    let bs = station_locations o st in
    let numbers = location_numbers (suc k) bs in
    let after = suc k + sum_by size_of bs in
    let a = length-append (phase_records numbers (suc k) bs) (station_records o after sts) in
    let b = phases_long numbers bs (suc k) in
    let c = stations_long o sts after in
    let d = sum_by-cons automaton_records (print_station o st) (map (print_station o) sts) in
    let e = joined_size bs in
    omega arith

pub records_long : (m : ModelNet) → length (printed_records m) ≡ automata_records (print m)
records_long m =
    let body = station_records m.order 1 m.stations in
    let a = length-append body (chained path_record (suc (length body)) m.paths) in
    let b = chained_long path_record m.paths (suc (length body)) in
    let c = stations_long m.order m.stations 1 in
    omega arith

row_long : (x : Rec) → length (encoded_automaton x) ≡ 32
row_long x = go x.body
  where
    go : (y : AutomatonBody) → suc (suc (suc (suc (length (automaton_rest y))))) ≡ 32
    go (automata.Automaton a) = refl
    go (automata.Location l) = refl
    go (automata.Transition t) = refl
    go (automata.Path p) = refl

rows_long : (xs : List Rec) → length (rows encoded_automaton xs) ≡ 32 * length xs
rows_long [] = refl
rows_long (x ∷ xs) =
    let a = length-append (encoded_automaton x) (rows encoded_automaton xs) in
    let b = row_long x in
    let c = rows_long xs in
    omega arith

pub book_long : (head : Head) (xs : List Rec) → length (book_bytes kinds.Automaton encoded_automaton head xs) ≡ 32 * (length xs + 1)
book_long head xs = let a = rows_long xs in omega arith

some_records : (xs : List Station) (o : Order) → 1 ≤ length xs → 1 ≤ sum_by automaton_records (map (print_station o) xs)
some_records [] o h = absurd (omega arith)
some_records (x ∷ xs) o h = let a = sum_by-cons automaton_records (print_station o x) (map (print_station o) xs) in omega arith

pub printed_fits : PrintedFits
printed_fits m ok =
    let long = records_long m in
    record {
      as_many = long;
      some_record = let a = some_records m.stations m.order ok.some_station in omega arith;
      few_records = let a = (printed_is_lawful m ok).few_records in omega arith;
      bytes = book_long (printed_head m) (printed_records m);
    }
