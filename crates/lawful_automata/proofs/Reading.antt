-- The chains of an automaton book, as its tree is read, and as its rules go.
use Rattle.std.proofs.Common.{◌≡◌, ℕ, false, ltb, List, sym, ap, ◌∙◌}
use Rattle.book.specs.Bytes.{two, row}
use Rattle.book.specs.Chains.{whole_records, chain_of}
use Rattle.visits.specs.Visits.{phases, edges}
use Rattle.fields.specs.Fields.{automaton_at, location_at}
use Rattle.tree_records.specs.TreeRecords.{stations_in, phases_in, edges_in}
use Rattle.kept_rules.proofs.ByChains.{followed_is, Chains, ChainsOf}
use Rattle.tree_laws.proofs.Records.{rest_two}

-- the locations of an automaton and the transitions of a location
abbrev pub locations_of : List ℕ → ℕ → List ℕ
locations_of b a = chain_of b (automaton_at b a).first_location

abbrev pub transitions_of : List ℕ → ℕ → List ℕ
transitions_of b l = chain_of b (location_at b l).first_transition

pub locations_are : (b : List ℕ) (a : ℕ) → phases_in b a ≡ locations_of b a
locations_are b a = ap (chain_of b) (sym (rest_two (row b a) 0))

pub transitions_are : (b : List ℕ) (l : ℕ) → edges_in b l ≡ transitions_of b l
transitions_are b l = ap (chain_of b) (sym (rest_two (row b l) 0))

-- no rule of an automaton book is about words
abbrev pub automaton_chains : List ℕ → Chains
automaton_chains b = record { stations = stations_in b; phases = locations_of b; edges = transitions_of b; words = λ l. chain_of b (two (row b l) 8) }

module _ (b : List ℕ) (short : ltb 2000 (whole_records b) ≡ false) where
  pub all_locations : (a : ℕ) → phases b a ≡ locations_of b a
  all_locations a = followed_is b short (two (row b a) 4) ∙ locations_are b a

  pub all_transitions : (l : ℕ) → edges b l ≡ transitions_of b l
  all_transitions l = followed_is b short (two (row b l) 4) ∙ transitions_are b l

  pub chains_followed : ChainsOf b (automaton_chains b)
  chains_followed = record {
    stations_are = followed_is b short (two b 6);
    phases_are = all_locations;
    edges_are = all_transitions;
    words_are = λ l. followed_is b short (two (row b l) 8);
  }
