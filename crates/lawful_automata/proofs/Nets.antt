-- The net: its scale, its paths, and how many records its tree has.
use Rattle.std.proofs.Common.{◌≡◌, ℕ, ◌≤◌, false, ltb, ◌↔◌, List, [], ◌∷◌, map, length, None, sym, refl, ap, ◌∙◌, subst, arith}
use Rattle.std.specs.List.{flat_map, AllByRecursion}
use Rattle.std.proofs.lemmas.List.{length-append, length-map, append-nil}
use Rattle.book.specs.Bytes.{two}
use Rattle.book.specs.Chains.{whole_records}
use Rattle.book.specs.declared.term.BookKind.TheVariants.{Automaton}
use Rattle.records.specs.Fits.{Bytes}
use Rattle.semantics.specs.Books.{read_transition, read_location, read_automaton, read_automata, read_path}
use Rattle.semantics.specs.LawfulAutomata.{automata_records, automaton_records, location_records}
use Rattle.semantics.specs.Limits.{LawfulPath}
use Rattle.semantics.specs.Scales.{automaton_scale}
use Rattle.visits.specs.Smallest.{smallest}
use Rattle.fields.specs.Fields.{automaton_at}
use Rattle.chains.specs.Paths.{path_faults}
use Rattle.book_scales.specs.Scales.{wrong_net_scale, automaton_scales}
use Rattle.tree_records.specs.TreeRecords.{stations_in, edges_in, paths_in, of_phase, of_station, tree_records}
use Rattle.kept_rules.proofs.Everywhere.{all_members, one_by_one, sum_joined}
use Rattle.kept_rules.proofs.ByChains.{followed_is}
use Rattle.tree_laws.proofs.Tests.{not_over}
use Rattle.tree_laws.proofs.Paths as records
use Rattle.lawful_automata.proofs.Reading.{locations_of, transitions_of, locations_are, transitions_are}

module _ (b : List ℕ) where
  pub automata_many : length (stations_in b) ≡ length (read_automata b).automata
  automata_many = sym (length-map (stations_in b) (read_automaton b))

  pub scale_limit : ltb 2000 (whole_records b) ≡ false → wrong_net_scale (automaton_scales b) ≡ false ↔ automaton_scale (read_automata b) ≤ 1000000
  scale_limit short =
      let same : automaton_scales b ≡ map (λ a. a.scale) (read_automata b).automata =
      ap (flat_map (λ s. (automaton_at b s).scale ∷ [])) (followed_is b short (two b 6))
      ∙ one_by_one (λ s. (automaton_at b s).scale) (λ a. a.scale) (read_automaton b) (stations_in b) (all_members _ (stations_in b) (λ _ _. refl)) in
      subst (λ l. wrong_net_scale l ≡ false ↔ automaton_scale (read_automata b) ≤ 1000000) (sym same) (not_over (automaton_scale (read_automata b)))

  pub paths_right : Bytes b → ltb 2000 (whole_records b) ≡ false → smallest (path_faults b) ≡ None ↔ AllByRecursion (LawfulPath (length (read_automata b).automata)) (read_automata b).paths
  paths_right bytes short = subst (λ n. smallest (path_faults b) ≡ None ↔ AllByRecursion (LawfulPath n) (read_automata b).paths) automata_many (records.paths_right b bytes short)

  pub some_automaton : 1 ≤ length (tree_records Automaton b) → AllByRecursion (LawfulPath (length (read_automata b).automata)) (read_automata b).paths →
      1 ≤ length (read_automata b).automata
  some_automaton some all =
      subst (λ n. 1 ≤ n) automata_many
      (records.some_station (of_station Automaton b) (read_path b) (stations_in b) (paths_in b) some (subst (λ n. AllByRecursion (LawfulPath n) (read_automata b).paths) (sym automata_many) all))

  -- the tree has no more records than its chains
  location_few : (locations : List ℕ) (l : ℕ) → location_records (read_location b locations l) ≤ length (of_phase Automaton b l)
  location_few locations l =
      let mapped = length-map (transitions_of b l) (read_transition b locations) in
      let chained = ap length (transitions_are b l) in
      let whole = ap length (append-nil (edges_in b l)) in
      omega arith

  automaton_few : (a : ℕ) → automaton_records (read_automaton b a) ≤ length (of_station Automaton b a)
  automaton_few a =
      let locations = locations_of b a in
      let few = sum_joined location_records (read_location b locations) (of_phase Automaton b) (location_few locations) locations in
      let chained = ap (λ ks. length (flat_map (of_phase Automaton b) ks)) (locations_are b a) in
      omega arith

  pub automata_few : automata_records (read_automata b) ≤ length (tree_records Automaton b)
  automata_few =
      let few = sum_joined automaton_records (read_automaton b) (of_station Automaton b) automaton_few (stations_in b) in
      omega (arith, length-append (flat_map (of_station Automaton b) (stations_in b)) (paths_in b), length-map (paths_in b) (read_path b))
