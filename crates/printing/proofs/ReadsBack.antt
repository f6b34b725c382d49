-- The printed bytes, read as a book, give the printed tree.
use Rattle.std.proofs.Common.{◌≡◌, ℕ, zero, suc, ◌+◌, ◌^◌, ◌<◌, ◌≤◌, Bool, true, false, cond, List, [], ◌∷◌, map, length, get_or, Some, None, Ok, Err, Option, unwrap_or, refl, ap, ◌∙◌, subst, ap₂, append-nil, arith, length-append}
use Rattle.std.specs.List.{AllByRecursion}
use Rattle.book.specs.Bytes.{two}
use Rattle.book.specs.Chains.{chain_of, whole_records}
use Rattle.book.specs.Terms.{order_byte, order_of_byte}
use Rattle.book.specs.declared.refusal.Refusal.{Refusal}
use Rattle.records.specs.Books.{laid_out}
use Rattle.records.proofs.BooksBack.{automaton_books_return}
use Rattle.records.proofs.Numbers.{two_back}
use Rattle.semantics.specs.Times.{Order, StepFirst, WordFirst}
use Rattle.semantics.specs.Trees.{Path, Station, ModelNet, Automaton}
use Rattle.semantics.specs.LawfulModels.{LawfulModel}
use Rattle.semantics.specs.LawfulAutomata.{LawfulAutomaton}
use Rattle.semantics.specs.Print.{print_station, print}
use Rattle.semantics.specs.Books.{read_automaton, read_path, read_automata}
use Rattle.semantics.specs.Rows.{Rec, leading, chained, count_from, station_records, path_record, printed_records, printed_head, printed_book}
use Rattle.faithful.proofs.PrintedLawful.{printed_is_lawful}
use Rattle.printing.specs.ReadsBack.{PrintedReadsBack}
use Rattle.printing.proofs.Sizes.{printed_fits}
use Rattle.printing.proofs.Widths.{StationFits, station_fits, RecordFits, records_fit}
use Rattle.printing.proofs.Rows.{Holds, Reads, Stands, left, right, chain_leads, chained_leads}
use Rattle.printing.proofs.Laid.{station_numbers, automata_read, automata_lead, paths_read}

-- a record that is given was decoded
given_decoded : (t : Bool) (e : Refusal) (k : ℕ) (d : Option Rec) (x : Rec) → cond t (Err e) (laid_out k d) ≡ Ok x → d ≡ Some x
given_decoded true e k d x h = absurd (let z : ◌≡◌ {A = ℕ} 0 1 = cc in omega arith)
given_decoded false e k None x h = absurd (let z : ◌≡◌ {A = ℕ} 0 1 = cc in omega arith)
given_decoded false e k (Some y) x h = cc

same_default : (xs : List Rec) (i : ℕ) (d e : Rec) → i < length xs → get_or xs i d ≡ get_or xs i e
same_default [] i d e l = absurd (omega arith)
same_default (x ∷ xs) zero d e l = refl
same_default (x ∷ xs) (suc i) d e l = same_default xs i d e (omega arith)

reads_all : (b : List ℕ) (xs : List Rec) (k : ℕ) → ((i : ℕ) → i < length xs → (d : Rec) → Holds b (k + i) (get_or xs i d)) → Reads b k xs
reads_all b [] k h = tt
reads_all b (x ∷ xs) k h = (
  subst (λ j. Holds b j x) (let e : k + 0 ≡ k = omega arith in e) (h 0 (omega arith) x),
  reads_all b xs (suc k) (λ i l d. subst (λ j. Holds b j (get_or xs i d)) (let e : k + suc i ≡ suc k + i = omega arith in e) (h (suc i) (omega arith) d)),
)

all_stations_fit : (o : Order) (sts : List Station) → AllByRecursion LawfulAutomaton (map (print_station o) sts) → AllByRecursion (StationFits o) sts
all_stations_fit o [] h = tt
all_stations_fit o (st ∷ sts) h = (station_fits o st h.0, all_stations_fit o sts h.1)

order_back : (o : Order) → unwrap_or (order_of_byte (order_byte o)) StepFirst ≡ o
order_back StepFirst = refl
order_back WordFirst = refl

leading_few : {A : Type 0} (k : ℕ) (xs : List A) → k < 2 ^ 16 → leading k 0 xs < 2 ^ 16
leading_few k [] h = omega arith
leading_few k (x ∷ xs) h = h

module _ (m : ModelNet) (ok : LawfulModel m) where
  abbrev b : List ℕ
  b = printed_book m

  abbrev rs : List Rec
  rs = printed_records m

  few : length rs ≤ 2000
  few = (printed_fits m ok).few_records

  stations : AllByRecursion (StationFits m.order) m.stations
  stations = all_stations_fit m.order m.stations (printed_is_lawful m ok).automata_fit

  fit : AllByRecursion RecordFits rs
  fit = records_fit 2000 (omega arith) m ok.few_stations few stations ok.paths_fit

  held : (i : ℕ) → i < length rs → (d : Rec) → Holds b (1 + i) (get_or rs i d)
  held i l d =
      let x = get_or rs i d in
      let read = automaton_books_return.0 (printed_head m) rs [] fit (let a = few in omega arith) i x l (same_default rs i d x l) in
      let e : i + 1 ≡ 1 + i = omega arith in
      subst (λ j. Holds b j x) e
      (subst (λ c. Holds c (i + 1) x) (append-nil b) (given_decoded _ _ (i + 1) _ x read))

  count : whole_records b ≡ length rs
  count = let a = (printed_fits m ok).bytes in omega arith

  stands : Stands b 1 rs
  stands = record { reads = reads_all b rs 1 held; inside = let a = count in omega arith }

  back : read_automata b ≡ print m
  back =
      let body = station_records m.order 1 m.stations in
      let after = suc (length body) in
      let paths = chained path_record after m.paths in
      let at_body = left b body paths 1 stands in
      let at_paths : Stands b after paths = right b body paths 1 after (omega arith) stands in
      let long = length-append body paths in
      let room = few in
      let first : two b 6 ≡ leading 1 0 m.stations = two_back (leading 1 0 m.stations) (leading_few 1 m.stations (omega arith)) in
      let path : two b 8 ≡ leading after 0 m.paths = two_back (leading after 0 m.paths) (leading_few after m.paths (omega arith)) in
      let lead = automata_lead b m.order m.stations 1 0 (omega arith) at_body in
      let path-lead = chained_leads b path_record (λ n p. refl) m.paths after 0 (omega arith) at_paths in
      let aa : map (read_automaton b) (chain_of b (two b 6)) ≡ map (print_station m.order) m.stations =
      ap (λ x. map (read_automaton b) (chain_of b x)) first
      ∙ ap (map (read_automaton b)) (chain_leads b (leading 1 0 m.stations) (station_numbers m.order 1 m.stations) lead)
      ∙ automata_read b m.order m.stations 1 at_body stations in
      let ps : map (read_path b) (chain_of b (two b 8)) ≡ m.paths =
      ap (λ x. map (read_path b) (chain_of b x)) path
      ∙ ap (map (read_path b)) (chain_leads b (leading after 0 m.paths) (count_from after m.paths) path-lead)
      ∙ paths_read b m.paths after at_paths in
      ap (λ o. record { order = o; automata = map (read_automaton b) (chain_of b (two b 6)); paths = map (read_path b) (chain_of b (two b 8)) }) (order_back m.order)
      ∙ ap₂ (λ (x : List Automaton) (y : List Path). record { order = m.order; automata = x; paths = y }) aa ps

pub printed_reads_back : PrintedReadsBack
printed_reads_back m ok = back m ok
