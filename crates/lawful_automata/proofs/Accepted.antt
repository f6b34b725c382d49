-- An automaton book is accepted exactly if its structure is right and its tree is lawful.
use Rattle.std.proofs.Common.{◌≡◌, ℕ, ◌≤◌, false, eqb, ltb, ◌↔◌, List, None, sym, refl, subst, arith}
use Rattle.std.specs.List.{ContainsAt as Has}
use Rattle.std.proofs.lemmas.Bool.{or_parts, or_from}
use Rattle.book.specs.Chains.{whole_records}
use Rattle.book.specs.declared.term.BookKind.TheVariants.{Automaton}
use Rattle.links.specs.Queues.{Distinct}
use Rattle.records.specs.Fits.{Bytes}
use Rattle.structure.specs.Sound.{Sound}
use Rattle.semantics.specs.Books.{read_automaton, read_automata}
use Rattle.semantics.specs.LawfulAutomata.{LawfulAutomaton, LawfulAutomata}
use Rattle.visits.specs.Visits.{Rule}
use Rattle.fields.specs.Fields.{automaton_at}
use Rattle.chains.specs.EdgeRules.{of_edges}
use Rattle.automaton_rules.specs.Rules as automaton
use Rattle.automaton_rules.specs.Rules.{wrong_scale}
use Rattle.automaton_windows.specs.Rules as guards
use Rattle.automaton_moves.specs.Rules.{locations}
use Rattle.book_check.specs.Check.{first_fault}
use Rattle.tree_records.specs.TreeRecords.{stations_in, TreeOf}
use Rattle.tree_records.proofs.TreeRecords.{trees_have_different_records}
use Rattle.kept_rules.proofs.Everywhere.{all_mapped, mapped_has, all_at_has, all_at_within, all_at_members, never_passed, at_most_many}
use Rattle.kept_rules.proofs.ByChains.{Kept, none_found}
use Rattle.tree_laws.proofs.Records.{short, edges_different}
use Rattle.tree_laws.proofs.Chains.{edges_kept}
use Rattle.tree_laws.proofs.Stages.{NothingIn, findings, accepted}
use Rattle.lawful_automata.specs.Accepted.{AcceptedAutomataAreLawful}
use Rattle.lawful_automata.proofs.Reading.{locations_of, transitions_of, locations_are, transitions_are, automaton_chains, chains_followed}
use Rattle.lawful_automata.proofs.Nets.{automata_many, scale_limit, paths_right, some_automaton, automata_few}
use Rattle.lawful_automata.proofs.Trees.{AutomatonKeeps, automaton_right}

-- of an automaton book whose structure is right
module _ (b : List ℕ) (bytes : Bytes b) (sound : Sound b Automaton) where
  few : ltb 2000 (whole_records b) ≡ false
  few = short b Automaton sound

  tree : TreeOf b Automaton
  tree = trees_have_different_records b Automaton sound

  distinct : (a : ℕ) → Has (stations_in b) a → (l : ℕ) → Has (locations_of b a) l → Distinct (transitions_of b l)
  distinct a ha l hl =
      subst Distinct (transitions_are b l) (edges_different b Automaton tree a ha l (subst (λ ks. Has ks l) (sym (locations_are b a)) hl))

  kept : (r : Rule) → first_fault b r ≡ None ↔ Kept (automaton_chains b) r
  kept = none_found b (automaton_chains b) (chains_followed b few)

  lawful : NothingIn (findings b Automaton) → LawfulAutomata (read_automata b)
  lawful st =
      let paths = (paths_right b bytes few).0 st.no_paths in
      let places = all_at_within _ (λ i a. eqb i 16 ≡ false) 0 (stations_in b) (λ i a ha e. (or_parts (eqb i 16) _ e).0) limits.station in
      record {
        some_automaton = some_automaton b tree.some paths;
        few_automata = subst (λ n. n ≤ 16) (automata_many b) ((at_most_many 16 (stations_in b)).0 places);
        scale_fits = (scale_limit b few).0 st.net_right;
        automata_fit = all_mapped LawfulAutomaton (read_automaton b) (stations_in b) (λ a ha. (automaton_right b bytes few a (distinct a ha)).0 (keeps a ha));
        paths_fit = paths;
        few_records = omega (arith, automata_few b, tree.few, sound.few_records);
      }
    where
      goals : Kept (automaton_chains b) (automaton.goals b)
      goals = (kept (automaton.goals b)).0 st.no_goals

      limits : Kept (automaton_chains b) (automaton.limits b)
      limits = (kept (automaton.limits b)).0 st.no_limits

      keeps : (a : ℕ) → Has (stations_in b) a → AutomatonKeeps b a
      keeps a ha = record {
        opening_inside = (all_at_has _ 0 (stations_in b) goals.station a ha).1;
        limits = (or_parts _ (wrong_scale (automaton_at b a).scale) (all_at_has _ 0 (stations_in b) limits.station a ha).1).1;
        locations = λ l hl. record {
          limits = (all_at_has _ 0 (locations_of b a) (limits.phase a ha) l hl).1;
          moves = (all_at_has _ 0 (locations_of b a) (((kept (locations b)).0 st.no_locations).phase a ha) l hl).1;
          transitions = λ t ht. record {
            goal_inside = goals.edge a ha l hl t ht;
            limits = limits.edge a ha l hl t ht;
            guard_holds = ((kept (of_edges (guards.empty_guard b))).0 st.no_windows).edge a ha l hl t ht;
            alone = ((kept (of_edges (guards.shared_moment b))).0 st.no_moments).edge a ha l hl t ht;
          };
        };
      }

  staged : LawfulAutomata (read_automata b) → NothingIn (findings b Automaton)
  staged h = record {
    no_goals = (kept (automaton.goals b)).1 (record {
      station = all_at_members _ 0 (stations_in b) (λ i a ha. (keeps a ha).opening_inside);
      phase = λ a ha. never_passed (locations_of b a);
      edge = λ a ha l hl t ht. (((keeps a ha).locations l hl).transitions t ht).goal_inside;
      word = λ a ha l hl. never_passed ((automaton_chains b).words l);
    });
    no_limits = (kept (automaton.limits b)).1 (record {
      station = all_at_within (λ i a. eqb i 16 ≡ false) _ 0 (stations_in b) (λ i a ha e. or_from (eqb i 16) _ e (keeps a ha).limits)
          ((at_most_many 16 (stations_in b)).1 (subst (λ n. n ≤ 16) (sym (automata_many b)) h.few_automata));
      phase = λ a ha. all_at_members _ 0 (locations_of b a) (λ i l hl. ((keeps a ha).locations l hl).limits);
      edge = λ a ha l hl t ht. (((keeps a ha).locations l hl).transitions t ht).limits;
      word = λ a ha l hl. never_passed ((automaton_chains b).words l);
    });
    no_scales = refl;
    net_right = (scale_limit b few).1 h.scale_fits;
    no_windows = (kept (of_edges (guards.empty_guard b))).1
        ((edges_kept (automaton_chains b) (guards.empty_guard b)).1 (λ a ha l hl t ht. (((keeps a ha).locations l hl).transitions t ht).guard_holds));
    no_moments = (kept (of_edges (guards.shared_moment b))).1
        ((edges_kept (automaton_chains b) (guards.shared_moment b)).1 (λ a ha l hl t ht. (((keeps a ha).locations l hl).transitions t ht).alone));
    no_paths = (paths_right b bytes few).1 h.paths_fit;
    no_locations = (kept (locations b)).1 (record {
      station = never_passed (stations_in b);
      phase = λ a ha. all_at_members _ 0 (locations_of b a) (λ i l hl. ((keeps a ha).locations l hl).moves);
      edge = λ a ha l hl t ht. refl;
      word = λ a ha l hl. never_passed ((automaton_chains b).words l);
    });
  }
    where
      keeps : (a : ℕ) → Has (stations_in b) a → AutomatonKeeps b a
      keeps a ha = (automaton_right b bytes few a (distinct a ha)).1 (mapped_has LawfulAutomaton (read_automaton b) (stations_in b) h.automata_fit a ha)

pub accepted_automata_are_lawful : AcceptedAutomataAreLawful
accepted_automata_are_lawful b bytes =
    let stages = accepted b Automaton in (
      λ e. let h = stages.0 e in (h.0, lawful b bytes h.0 h.1),
      λ h. stages.1 (h.0, staged b bytes h.0 h.1),
    )
