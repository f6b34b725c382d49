-- Books that differ only in their record numbers.
use Rattle.std.specs.Prelude.{◌≡◌, ℕ, ◌≤◌, ◌↔◌, List}
use Rattle.std.specs.List.{AllByRecursion}
use Rattle.book.specs.Bytes.{at, two, row}
use Rattle.book.specs.Chains.{chain_of, next_index, whole_records}
use Rattle.book.specs.Terms.{kind_byte}
use Rattle.book.specs.declared.term.Kind.{Kind}
use Rattle.book.specs.declared.term.Kind.TheVariants as kinds
use Rattle.book.specs.declared.record.Station.{Station}
use Rattle.book.specs.declared.record.Phase.{Phase}
use Rattle.book.specs.declared.record.Edge.{Edge}
use Rattle.records.specs.Fields.{path_in}
use Rattle.records.specs.Model.{station_in, phase_in, edge_in, word_in}
use Rattle.semantics.specs.Books.{marks_of, rest_of, read_order, read_model}
use Rattle.semantics.specs.Rows.{printed_book}

-- record k of the book is there, and of that kind
pub record IsOf (b : List ℕ) (kind : Kind) (k : ℕ) : Type 0 where
  pub some : 1 ≤ k
  pub inside : k ≤ whole_records b
  pub kind_is : at (row b k) 0 ≡ kind_byte kind

-- What the records of a model book name, under other numbers: its phases, edges, words and goals, and nothing else.
abbrev pub renumber_station : (ℕ → ℕ) → Station → Station
renumber_station ρ s = record { first_phase = ρ s.first_phase; opening = ρ s.opening }

abbrev pub renumber_phase : (ℕ → ℕ) → Phase → Phase
renumber_phase ρ f = record { first_edge = ρ f.first_edge; next_phase = ρ f.next_phase; first_word = ρ f.first_word; lifetime = f.lifetime }

abbrev pub renumber_edge : (ℕ → ℕ) → Edge → Edge
renumber_edge ρ e = record { goal = ρ e.goal; port = e.port; lowest = e.lowest; highest = e.highest; window = e.window }

-- c is the model book b with record k moved to the number ρ k: every index names the moved record, and all else stays.
pub record Renumbered (ρ : ℕ → ℕ) (b c : List ℕ) : Type 0 where
  pub none_kept : ρ 0 ≡ 0
  pub apart : (j k : ℕ) → ρ j ≡ ρ k → j ≡ k
  pub inside : (k : ℕ) → k ≤ whole_records b ↔ ρ k ≤ whole_records b
  pub as_many : whole_records c ≡ whole_records b
  pub order : read_order c ≡ read_order b
  pub first_station : two c 6 ≡ ρ (two b 6)
  pub first_path : two c 8 ≡ ρ (two b 8)
  pub next : (k : ℕ) → 1 ≤ k → k ≤ whole_records b → next_index (row c (ρ k)) ≡ ρ (next_index (row b k))
  pub stations : (k : ℕ) → IsOf b kinds.Station k → station_in (rest_of c (ρ k)) ≡ renumber_station ρ (station_in (rest_of b k))
  pub phases : (k : ℕ) → IsOf b kinds.Phase k → phase_in (rest_of c (ρ k)) ≡ renumber_phase ρ (phase_in (rest_of b k))
  pub edges : (k : ℕ) → IsOf b kinds.Edge k → edge_in (marks_of c (ρ k)) (rest_of c (ρ k)) ≡ renumber_edge ρ (edge_in (marks_of b k) (rest_of b k))
  pub words : (k : ℕ) → IsOf b kinds.Word k → word_in (rest_of c (ρ k)) ≡ word_in (rest_of b k)
  pub paths : (k : ℕ) → IsOf b kinds.Path k → path_in (rest_of c (ρ k)) ≡ path_in (rest_of b k)

-- The chains of a model book hold records of their own kinds, as its check asks (Links).
pub record ChainsOfKinds (b : List ℕ) : Type 0 where
  pub stations : AllByRecursion (IsOf b kinds.Station) (chain_of b (two b 6))
  pub paths : AllByRecursion (IsOf b kinds.Path) (chain_of b (two b 8))
  pub phases : (k : ℕ) → IsOf b kinds.Station k → AllByRecursion (IsOf b kinds.Phase) (chain_of b (station_in (rest_of b k)).first_phase)
  pub edges : (k : ℕ) → IsOf b kinds.Phase k → AllByRecursion (IsOf b kinds.Edge) (chain_of b (phase_in (rest_of b k)).first_edge)
  pub words : (k : ℕ) → IsOf b kinds.Phase k → AllByRecursion (IsOf b kinds.Word) (chain_of b (phase_in (rest_of b k)).first_word)

-- Two model books that differ only in their record numbers are read as one tree, and print the same bytes.
pub record PrintsTheSame (b c : List ℕ) : Type 0 where
  pub same_tree : read_model c ≡ read_model b
  pub same_bytes : printed_book (read_model c) ≡ printed_book (read_model b)

abbrev pub NumbersDoNotMatter : Type 0
NumbersDoNotMatter = (ρ : ℕ → ℕ) (b c : List ℕ) → Renumbered ρ b c → ChainsOfKinds b → PrintsTheSame b c
