-- The scales that are read along the book's chains are those of its tree.
use Rattle.std.proofs.Common.{◌≡◌, ℕ, ◌≤◌, false, cond, ltb, List, ◌++◌, Some, None, unwrap_or, sym, refl, ap, ◌∙◌, ap₂}
use Rattle.std.specs.List.{flat_map}
use Rattle.std.proofs.lemmas.Bool.{le-leb}
use Rattle.book.specs.Bytes.{two, row}
use Rattle.book.specs.Chains.{whole_records, chain_of}
use Rattle.fields.specs.Fields.{phase_at}
use Rattle.scales.specs.Limited.{limited}
use Rattle.semantics.specs.Scales.{lcm_all, life_denominators, scale_of}
use Rattle.semantics.specs.Scales as tree
use Rattle.semantics.specs.Books.{read_edge, read_phase}
use Rattle.book_scales.specs.Scales.{scale_at, fitting_scale}
use Rattle.book_scales.specs.Scales as books
use Rattle.lawful_models.proofs.Scales.{joined_same}
use Rattle.tree_laws.proofs.Records.{rest_two}
use Rattle.kept_rules.proofs.ByChains.{followed_is}
use Rattle.places.specs.Standing.{station_of, phases_of}
use Rattle.model.specs.Records.{station_tree, phase_tree}
use Rattle.model.proofs.Trees.{life_read, edges_read, phases_read}

module _ (b : List ℕ) (few : ltb 2000 (whole_records b) ≡ false) where
  same_denominators : (ps : List ℕ) (k : ℕ) → tree.phase_denominators (read_phase b ps k) ≡ books.phase_denominators b k
  same_denominators ps k =
      let chain_is = ap (chain_of b) (rest_two (row b k) 0) ∙ sym (followed_is b few (two (row b k) 4)) in
      ap₂ ◌++◌ (ap life_denominators (life_read b ps k))
      (ap (flat_map tree.edge_denominators) (edges_read b ps k)
      ∙ joined_same tree.edge_denominators (read_edge b ps) (books.edge_denominators b) (λ e. refl) (chain_of b (phase_at b k).first_edge)
      ∙ ap (flat_map (books.edge_denominators b)) chain_is)

  same_scale : (i : ℕ) → scale_of (station_tree b i).phases ≡ scale_at b (station_of b i)
  same_scale i =
      ap scale_of (phases_read b i)
      ∙ ap (lcm_all 1)
      (joined_same tree.phase_denominators (phase_tree b i) (books.phase_denominators b) (same_denominators (phases_of b i)) (phases_of b i)
      ∙ ap (flat_map (books.phase_denominators b)) (sym (followed_is b few (two (row b (station_of b i)) 4))))

  -- where it is within the limit
  pub scale_read : (i : ℕ) → scale_of (station_tree b i).phases ≤ 1000000 → fitting_scale b (station_of b i) ≡ scale_of (station_tree b i).phases
  scale_read i fits =
      let n = scale_of (station_tree b i).phases in
      ap (λ x. unwrap_or (limited x) 0) (sym (same_scale i)) ∙ ap (λ t. unwrap_or (cond t (Some n) None) 0) (le-leb n 1000000 fits)
