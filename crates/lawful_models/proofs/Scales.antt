-- Scales: those of a book's records are those of its tree.
use Rattle.std.proofs.Common.{◌≡◌, ℕ, ◌≤◌, Bool, true, false, cond, not, ltb, ◌↔◌, List, [], ◌∷◌, ◌++◌, map, is_some, Some, None, unwrap_or, sym, refl, ap, ◌∙◌, subst, ap₂}
use Rattle.std.specs.List.{ContainsAt as Has, flat_map}
use Rattle.std.proofs.lemmas.Bool.{le-leb}
use Rattle.book.specs.Bytes.{two, row}
use Rattle.book.specs.Chains.{whole_records}
use Rattle.book.specs.declared.term.BookKind.TheVariants.{Model}
use Rattle.scales.specs.Limited.{limited}
use Rattle.fields.specs.Fields.{phase_at, is_endless}
use Rattle.semantics.specs.Times.{Fraction}
use Rattle.semantics.specs.Trees.{Edge, Word, endless, lasting, lifetime_of, edges_of}
use Rattle.semantics.specs.Scales.{lcm_all, life_denominators, station_scale, model_scale}
use Rattle.semantics.specs.Scales as tree
use Rattle.semantics.specs.Books.{read_edge}
use Rattle.book_scales.specs.Scales.{scale_at, station_scales, fitting_scale, wrong_net_scale, model_scales}
use Rattle.book_scales.specs.Scales as books
use Rattle.tree_records.specs.TreeRecords.{stations_in, phases_in, edges_in, words_in}
use Rattle.kept_rules.proofs.Everywhere.{all_members, one_by_one, all_at_has, all_at_members, never_passed}
use Rattle.kept_rules.proofs.ByChains.{followed_is, Kept}
use Rattle.tree_laws.proofs.Tests.{not_over}
use Rattle.lawful_models.proofs.Reading.{tree_phase, tree_station, tree_model, model_chains}

-- a phase of the tree, by its parts
life_read : (t : Bool) (l : Fraction) (ws : List Word) (n : ℕ) (es : List Edge) → lifetime_of (cond t (endless es) (lasting l ws n es)) ≡ cond t None (Some l)
life_read true l ws n es = refl
life_read false l ws n es = refl

edges_read : (t : Bool) (l : Fraction) (ws : List Word) (n : ℕ) (es : List Edge) → edges_of (cond t (endless es) (lasting l ws n es)) ≡ es
edges_read true l ws n es = refl
edges_read false l ws n es = refl

-- a scale within the limit
fitting : (n : ℕ) → n ≤ 1000000 → unwrap_or (limited n) 0 ≡ n
fitting n h = ap (λ t. unwrap_or (cond t (Some n) None) 0) (le-leb n 1000000 h)

pub joined_same : {X Y A : Type 0} (f : Y → List A) (g : X → Y) (h : X → List A) → ((x : X) → f (g x) ≡ h x) → (xs : List X) → flat_map f (map g xs) ≡ flat_map h xs
joined_same f g h same [] = refl
joined_same f g h same (x ∷ xs) = ap₂ ◌++◌ (same x) (joined_same f g h same xs)

module _ (b : List ℕ) (few : ltb 2000 (whole_records b) ≡ false) where
  same_denominators : (ps : List ℕ) (p : ℕ) → tree.phase_denominators (tree_phase b ps p) ≡ books.phase_denominators b p
  same_denominators ps p =
      ap₂ ◌++◌
      (ap life_denominators (life_read (is_endless (phase_at b p).lifetime) _ _ _ _))
      (ap (flat_map tree.edge_denominators) (edges_read (is_endless (phase_at b p).lifetime) _ _ _ _)
      ∙ joined_same tree.edge_denominators (read_edge b ps) (books.edge_denominators b) (λ e. refl) (edges_in b p)
      ∙ ap (flat_map (books.edge_denominators b)) (sym (followed_is b few (two (row b p) 4))))

  same_scale : (s : ℕ) → station_scale (tree_station b s) ≡ scale_at b s
  same_scale s =
      ap (lcm_all 1)
      (joined_same tree.phase_denominators (tree_phase b (phases_in b s)) (books.phase_denominators b) (same_denominators (phases_in b s)) (phases_in b s)
      ∙ ap (flat_map (books.phase_denominators b)) (sym (followed_is b few (two (row b s) 4))))

  -- every station's scale is within the limit
  abbrev pub ScalesRight : Type 0
  ScalesRight = (s : ℕ) → Has (stations_in b) s → station_scale (tree_station b s) ≤ 1000000

  pub scales_kept : Kept (model_chains b) (station_scales b) ↔ ScalesRight
  scales_kept = (
    λ k s hs.
        let own = (not_over (scale_at b s)).0 (all_at_has (λ _ x. not (is_some (limited (scale_at b x))) ≡ false) 0 (stations_in b) k.station s hs).1 in
        subst (λ n. n ≤ 1000000) (sym (same_scale s)) own,
    λ r. record {
      station = all_at_members _ 0 (stations_in b) (λ _ s hs. (not_over (scale_at b s)).1 (subst (λ n. n ≤ 1000000) (same_scale s) (r s hs)));
      phase = λ s hs. never_passed (phases_in b s);
      edge = λ s hs p hp e he. refl;
      word = λ s hs p hp. never_passed (words_in Model b p);
    },
  )

  same_scales : ScalesRight → model_scales b ≡ map station_scale (map (tree_station b) (stations_in b))
  same_scales r =
      ap (flat_map (λ s. fitting_scale b s ∷ [])) (followed_is b few (two b 6))
      ∙ one_by_one (fitting_scale b) station_scale (tree_station b) (stations_in b)
      (all_members _ (stations_in b) (λ s hs. fitting (scale_at b s) (subst (λ n. n ≤ 1000000) (same_scale s) (r s hs)) ∙ sym (same_scale s)))

  -- and then the net's
  pub net_scale : ScalesRight → wrong_net_scale (model_scales b) ≡ false ↔ model_scale (tree_model b) ≤ 1000000
  net_scale r = subst (λ ss. wrong_net_scale ss ≡ false ↔ model_scale (tree_model b) ≤ 1000000) (sym (same_scales r)) (not_over (model_scale (tree_model b)))
