-- A model book is accepted exactly if its bytes are well formed and its tree is lawful.
use Rattle.std.proofs.Common.{◌≡◌, ℕ, ◌<◌, ◌≤◌, Bool, true, false, ltb, ◌↔◌, List, [], map, length, None, sym, refl, ap, ◌∙◌, subst, arith}
use Rattle.std.specs.List.{ContainsAt as Has, AllByRecursion}
use Rattle.std.proofs.lemmas.List.{length-map}
use Rattle.std.proofs.ByRecursion.{all-has}
use Rattle.book.specs.Bytes.{two, row}
use Rattle.book.specs.Chains.{whole_records, chain_of, next_index}
use Rattle.book.specs.declared.term.BookKind.TheVariants.{Model}
use Rattle.records.specs.Fits.{Bytes, WindowFits}
use Rattle.records.specs.Heads.{order_in}
use Rattle.structure.specs.Faults.{told_records}
use Rattle.structure.specs.Sound.{Sound}
use Rattle.visits.specs.Visits.{Rule, edges}
use Rattle.fields.specs.Fields.{station_at, phase_at, edge_at, path_at, is_endless, lifetime_at}
use Rattle.chains.specs.EdgeRules.{of_edges}
use Rattle.model_rules.specs.Rules.{goals, limits}
use Rattle.book_scales.specs.Scales.{station_scales}
use Rattle.model_windows.specs.Rules.{empty_window, shared_moment}
use Rattle.semantics.specs.Times.{Fraction, Proper}
use Rattle.semantics.specs.Fits.{edge_fits}
use Rattle.semantics.specs.Limits.{AtMostOne, LawfulPath}
use Rattle.semantics.specs.LawfulModels.{WindowHolds, LawfulPhase, LawfulStation, LawfulModel}
use Rattle.semantics.specs.Scales.{model_scale}
use Rattle.semantics.specs.Books.{place_in, read_edge}
use Rattle.spans.specs.Meaning.{ProperLife}
use Rattle.book_check.specs.Check.{first_fault}
use Rattle.tree_records.specs.TreeRecords.{stations_in, phases_in, edges_in, words_in, paths_in, of_station, TreeOf}
use Rattle.tree_records.proofs.TreeRecords.{trees_have_different_records}
use Rattle.kept_rules.proofs.Everywhere.{all_members, all_mapped, mapped_has}
use Rattle.kept_rules.proofs.ByChains.{followed_is, Kept, none_found}
use Rattle.tree_laws.proofs.Records.{rest_two, short, edges_different}
use Rattle.tree_laws.proofs.Chains.{edges_kept}
use Rattle.tree_laws.proofs.Paths.{paths_right, some_station}
use Rattle.tree_laws.proofs.Stages.{NothingIn, findings, accepted}
use Rattle.lawful_models.specs.Accepted.{Rests, AcceptedModelsAreLawful}
use Rattle.lawful_models.proofs.Reading.{tree_phase, tree_station, tree_model, same_model, chain_none, model_chains, chains_followed}
use Rattle.lawful_models.proofs.Goals.{GoalsRight, goals_kept}
use Rattle.lawful_models.proofs.Limits.{LimitsRight, limits_kept}
use Rattle.lawful_models.proofs.Scales.{ScalesRight, scales_kept, net_scale}
use Rattle.lawful_models.proofs.Windows.{proper_life, proper_window, window_right, edges_apart}
use Rattle.lawful_models.proofs.Phases.{PhaseRight, to_phase, from_phase}
use Rattle.lawful_models.proofs.Counting.{model_few}

-- the book is right, record by record
record BookRight (b : List ℕ) (few : ltb 2000 (whole_records b) ≡ false) : Type 0 where
  goals_right : GoalsRight b few
  limits_right : LimitsRight b
  scales_right : ScalesRight b few
  net_fits : model_scale (tree_model b) ≤ 1000000
  windows_hold : (s : ℕ) → Has (stations_in b) s → (p : ℕ) → Has (phases_in b s) p → (e : ℕ) → Has (edges_in b p) e → WindowHolds (order_in b) (lifetime_at b p) (read_edge b (phases_in b s) e)
  moments_apart : (s : ℕ) → Has (stations_in b) s → (p : ℕ) → Has (phases_in b s) p →
      (q v : ℕ) (t : Fraction) → Proper t → AtMostOne (edge_fits (order_in b) (lifetime_at b p) q v t) (map (read_edge b (phases_in b s)) (edges_in b p))
  paths_fit : AllByRecursion (LawfulPath (length (stations_in b))) (map (path_at b) (paths_in b))

module _ (b : List ℕ) (bytes : Bytes b) (few : ltb 2000 (whole_records b) ≡ false) (tree : TreeOf b Model) where
  kept : (r : Rule) → first_fault b r ≡ None ↔ Kept (model_chains b) r
  kept = none_found b (model_chains b) (chains_followed b few)

  -- the edges of a phase of a book within the limits
  module _ (l : LimitsRight b) (s : ℕ) (hs : Has (stations_in b) s) (p : ℕ) (hp : Has (phases_in b s) p) where
    life_proper : ProperLife (lifetime_at b p)
    life_proper = proper_life (lifetime_at b p) (l.life s hs p hp)

    ends_proper : (e : ℕ) → Has (edges_in b p) e → WindowFits Proper (edge_at b e).window
    ends_proper e he = let x = l.edge s hs p hp e he in proper_window (edge_at b e).window x.low_fits x.high_fits

    window_kept : (e : ℕ) → Has (edges_in b p) e → empty_window b p e ≡ false ↔ WindowHolds (order_in b) (lifetime_at b p) (read_edge b (phases_in b s) e)
    window_kept e he = window_right (order_in b) (lifetime_at b p) b (phases_in b s) (edges_in b p) life_proper ends_proper e he

    moments_kept : ((e : ℕ) → Has (edges_in b p) e → shared_moment b p e ≡ false) ↔
        ((q v : ℕ) (t : Fraction) → Proper t → AtMostOne (edge_fits (order_in b) (lifetime_at b p) q v t) (map (read_edge b (phases_in b s)) (edges_in b p)))
    moments_kept =
        edges_apart (order_in b) (lifetime_at b p) b (phases_in b s) (edges_in b p) life_proper ends_proper (edges b p) (followed_is b few (two (row b p) 4)) (edges_different b Model tree s hs p hp)

  stages_right : NothingIn (findings b Model) ↔ BookRight b few
  stages_right = (
    λ st.
        let limits_right = (limits_kept b).0 ((kept (limits b)).0 st.no_limits) in
        let scales_right = (scales_kept b few).0 ((kept (station_scales b)).0 st.no_scales) in
        record {
          goals_right = (goals_kept b few).0 ((kept (goals b)).0 st.no_goals);
          limits_right = limits_right;
          scales_right = scales_right;
          net_fits = (net_scale b few scales_right).0 st.net_right;
          windows_hold = λ s hs p hp e he. (window_kept limits_right s hs p hp e he).0 (((kept (of_edges (empty_window b))).0 st.no_windows).edge s hs p hp e he);
          moments_apart = λ s hs p hp. (moments_kept limits_right s hs p hp).0 (((kept (of_edges (shared_moment b))).0 st.no_moments).edge s hs p hp);
          paths_fit = (paths_right b bytes few).0 st.no_paths;
        },
    λ r. record {
      no_goals = (kept (goals b)).1 ((goals_kept b few).1 r.goals_right);
      no_limits = (kept (limits b)).1 ((limits_kept b).1 r.limits_right);
      no_scales = (kept (station_scales b)).1 ((scales_kept b few).1 r.scales_right);
      net_right = (net_scale b few r.scales_right).1 r.net_fits;
      no_windows = (kept (of_edges (empty_window b))).1
          ((edges_kept (model_chains b) (empty_window b)).1 (λ s hs p hp e he. (window_kept r.limits_right s hs p hp e he).1 (r.windows_hold s hs p hp e he)));
      no_moments = (kept (of_edges (shared_moment b))).1
          ((edges_kept (model_chains b) (shared_moment b)).1 (λ s hs p hp. (moments_kept r.limits_right s hs p hp).1 (r.moments_apart s hs p hp)));
      no_paths = (paths_right b bytes few).1 r.paths_fit;
      no_locations = refl;
    },
  )

  abbrev AllRest : Type 0
  AllRest = AllByRecursion (λ s. AllByRecursion (Rests b) (phases_in b s)) (stations_in b)

  to_station : BookRight b few → (s : ℕ) → Has (stations_in b) s → LawfulStation (order_in b) (tree_station b s)
  to_station r s hs =
      let ps = phases_in b s in
      let count : length ps ≡ length (map (tree_phase b ps) ps) = sym (length-map ps (tree_phase b ps)) in
      let g = r.goals_right in
      let l = r.limits_right in
      record {
        opening_here = subst (λ n. place_in ps (station_at b s).opening < n) count (g.opening s hs);
        few_phases = subst (λ n. n ≤ 200) count (l.phases_few s hs);
        scale_fits = r.scales_right s hs;
        phases_fit = subst (λ n. AllByRecursion (LawfulPhase (order_in b) n) (map (tree_phase b ps) ps)) count
            (all_mapped (LawfulPhase (order_in b) (length ps)) (tree_phase b ps) ps (λ p hp. to_phase (order_in b) b ps p bytes (record {
              life = l.life s hs p hp;
              next = g.next s hs p hp;
              words_few = λ _. l.words_few s hs p hp;
              edge = l.edge s hs p hp;
              goal = g.goal s hs p hp;
              window = r.windows_hold s hs p hp;
              apart = r.moments_apart s hs p hp;
            })));
      }

  from_station : (s : ℕ) → LawfulStation (order_in b) (tree_station b s) → (p : ℕ) → Has (phases_in b s) p → PhaseRight (order_in b) b (phases_in b s) p
  from_station s h p hp =
      let ps = phases_in b s in
      let all = subst (λ n. AllByRecursion (LawfulPhase (order_in b) n) (map (tree_phase b ps) ps)) (length-map ps (tree_phase b ps)) h.phases_fit in
      from_phase (order_in b) b ps p (mapped_has (LawfulPhase (order_in b) (length ps)) (tree_phase b ps) ps all p hp)

  -- an endless phase at rest has no words, and any other has few
  words_short : (p : ℕ) → Rests b p → (is_endless (phase_at b p).lifetime ≡ false → length (words_in Model b p) ≤ 4) → length (words_in Model b p) ≤ 4
  words_short p rest lasts = go (is_endless (phase_at b p).lifetime) refl
    where
      go : (t : Bool) → is_endless (phase_at b p).lifetime ≡ t → length (words_in Model b p) ≤ 4
      go true is =
          let first : two (row b p) 8 ≡ 0 = sym (rest_two (row b p) 4) ∙ rest.no_word is in
          let none : words_in Model b p ≡ [] = ap (chain_of b) first ∙ chain_none (λ j. next_index (row b j)) (whole_records b) (whole_records b) in
          subst (λ ws. length ws ≤ 4) (sym none) (omega arith)
      go false is = lasts is

  right_lawful : told_records b ≤ 1000 → BookRight b few ↔ AllRest × LawfulModel (tree_model b)
  right_lawful records =
      let ss = stations_in b in
      let count : length ss ≡ length (map (tree_station b) ss) = sym (length-map ss (tree_station b)) in (
        λ r. (
          all_members (λ s. AllByRecursion (Rests b) (phases_in b s)) ss (λ s hs. all_members (Rests b) (phases_in b s) (r.goals_right.rests s hs)),
          record {
            some_station = subst (λ n. 1 ≤ n) count (some_station (of_station Model b) (path_at b) ss (paths_in b) tree.some r.paths_fit);
            few_stations = subst (λ n. n ≤ 16) count r.limits_right.stations_few;
            scale_fits = r.net_fits;
            stations_fit = all_mapped (LawfulStation (order_in b)) (tree_station b) ss (to_station r);
            paths_fit = subst (λ n. AllByRecursion (LawfulPath n) (map (path_at b) (paths_in b))) count r.paths_fit;
            few_records = omega (arith, model_few b, tree.few);
          },
        ),
        λ h.
            let m = h.1 in
            let rests : (s : ℕ) → Has ss s → (p : ℕ) → Has (phases_in b s) p → Rests b p =
            λ s hs p hp. all-has (Rests b) (phases_in b s) p (all-has (λ x. AllByRecursion (Rests b) (phases_in b x)) ss s h.0 hs) hp in
            let station : (s : ℕ) → Has ss s → LawfulStation (order_in b) (tree_station b s) = mapped_has (LawfulStation (order_in b)) (tree_station b) ss m.stations_fit in
            let phase : (s : ℕ) → Has ss s → (p : ℕ) → Has (phases_in b s) p → PhaseRight (order_in b) b (phases_in b s) p = λ s hs. from_station s (station s hs) in
            record {
              goals_right = record {
                opening = λ s hs. subst (λ n. place_in (phases_in b s) (station_at b s).opening < n) (length-map (phases_in b s) (tree_phase b (phases_in b s))) (station s hs).opening_here;
                rests = rests;
                next = λ s hs p hp. (phase s hs p hp).next;
                goal = λ s hs p hp. (phase s hs p hp).goal;
              };
              limits_right = record {
                stations_few = subst (λ n. n ≤ 16) (sym count) m.few_stations;
                phases_few = λ s hs. subst (λ n. n ≤ 200) (length-map (phases_in b s) (tree_phase b (phases_in b s))) (station s hs).few_phases;
                life = λ s hs p hp. (phase s hs p hp).life;
                edge = λ s hs p hp. (phase s hs p hp).edge;
                words_few = λ s hs p hp. words_short p (rests s hs p hp) (phase s hs p hp).words_few;
              };
              scales_right = λ s hs. (station s hs).scale_fits;
              net_fits = m.scale_fits;
              windows_hold = λ s hs p hp. (phase s hs p hp).window;
              moments_apart = λ s hs p hp. (phase s hs p hp).apart;
              paths_fit = subst (λ n. AllByRecursion (LawfulPath n) (map (path_at b) (paths_in b))) (sym count) m.paths_fit;
            },
      )

pub accepted_models_are_lawful : AcceptedModelsAreLawful
accepted_models_are_lawful b bytes = (
  λ e.
      let c = (accepted b Model).0 e in
      let both = (lawful c.0).0 ((stages c.0).0 c.1) in
      (record { sound = c.0; rests = both.0 }, subst LawfulModel (sym (same_model b)) both.1),
  λ h.
      let sound = h.0.sound in
      (accepted b Model).1 (sound, (stages sound).1 ((lawful sound).1 (h.0.rests, subst LawfulModel (same_model b) h.1))),
)
  where
    stages : (sound : Sound b Model) → NothingIn (findings b Model) ↔ BookRight b (short b Model sound)
    stages sound = stages_right b bytes (short b Model sound) (trees_have_different_records b Model sound)

    lawful : (sound : Sound b Model) → BookRight b (short b Model sound) ↔ AllByRecursion (λ s. AllByRecursion (Rests b) (phases_in b s)) (stations_in b) × LawfulModel (tree_model b)
    lawful sound = right_lawful b bytes (short b Model sound) (trees_have_different_records b Model sound) sound.few_records
