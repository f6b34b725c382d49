-- Model books that differ only in their record numbers are read as one tree.
use Rattle.std.proofs.Common.{◌≡◌, ℕ, zero, suc, ◌<◌, ◌≤◌, Bool, true, false, cond, ◌||◌, eqb, ltb, ◌⊎◌, List, [], ◌∷◌, map, sym, refl, ap, ◌∙◌, ap₂, inl, inr, arith}
use Rattle.std.specs.List.{AllByRecursion}
use Rattle.std.proofs.ByRecursion.{All-weaker}
use Rattle.std.proofs.lemmas.Bool.{eq-eqb, ne_eqb, lt-ltb, le-ltb, or_parts, eqb-false, ltb-false, cases_eq, cases_lt}
use Rattle.book.specs.Bytes.{two, row}
use Rattle.book.specs.Chains.{chain, chain_of, next_index, whole_records}
use Rattle.book.specs.declared.term.Kind.TheVariants as kinds
use Rattle.book.specs.declared.record.Station.{Station as StationRow}
use Rattle.book.specs.declared.record.Phase.{Phase as PhaseRow}
use Rattle.book.specs.declared.record.Edge.{Edge as EdgeRow}
use Rattle.records.specs.Model.{station_in, phase_in, edge_in}
use Rattle.semantics.specs.Times.{Order, Fraction}
use Rattle.semantics.specs.Trees.{Word, Edge, Phase, endless, lasting, Station, Path}
use Rattle.semantics.specs.Books.{marks_of, rest_of, place_in, is_endless, read_word, read_edge, read_phase, read_station, read_path, read_order, read_model}
use Rattle.semantics.specs.Rows.{printed_book}
use Rattle.printing.specs.Renumbered.{IsOf, Renumbered, ChainsOfKinds, NumbersDoNotMatter}

mapped_same : {A B : Type 0} (f g : A → B) (h : A → A) (xs : List A) → AllByRecursion (λ x. f (h x) ≡ g x) xs → map f (map h xs) ≡ map g xs
mapped_same f g h [] e = refl
mapped_same f g h (x ∷ xs) e = ap₂ (λ a r. a ∷ r) e.0 (mapped_same f g h xs e.1)

module _ (ρ : ℕ → ℕ) (b c : List ℕ) (moved : Renumbered ρ b c) where
  abbrev n : ℕ
  n = whole_records b

  same_test : (j k : ℕ) → eqb (ρ j) (ρ k) ≡ eqb j k
  same_test j k = go (cases_eq j k)
    where
      go : (j ≡ k) ⊎ (j ≡ k → ⊥) → eqb (ρ j) (ρ k) ≡ eqb j k
      go (inl e) = eq-eqb (ρ j) (ρ k) (ap ρ e) ∙ sym (eq-eqb j k e)
      go (inr e) = ne_eqb (ρ j) (ρ k) (λ h. e (moved.apart j k h)) ∙ sym (ne_eqb j k e)

  same_zero : (k : ℕ) → eqb (ρ k) 0 ≡ eqb k 0
  same_zero k = ap (eqb (ρ k)) (sym moved.none_kept) ∙ same_test k 0

  same_past : (k : ℕ) → ltb n (ρ k) ≡ ltb n k
  same_past k = go (cases_lt n k)
    where
      go : (n < k) ⊎ (k ≤ n) → ltb n (ρ k) ≡ ltb n k
      go (inl l) = lt-ltb n (ρ k) (out (cases_lt n (ρ k))) ∙ sym (lt-ltb n k l)
        where
          out : (n < ρ k) ⊎ (ρ k ≤ n) → n < ρ k
          out (inl m) = m
          out (inr m) = absurd (let h = (moved.inside k).1 m in omega arith)
      go (inr l) = le-ltb n (ρ k) ((moved.inside k).0 l) ∙ sym (le-ltb n k l)

  -- chains lead through the moved records
  chain_moved : (fuel k : ℕ) → chain (λ j. next_index (row c j)) n fuel (ρ k) ≡ map ρ (chain (λ j. next_index (row b j)) n fuel k)
  chain_moved zero k = refl
  chain_moved (suc fuel) k =
      ap (λ t. cond t [] (ρ k ∷ chain (λ j. next_index (row c j)) n fuel (next_index (row c (ρ k))))) (ap₂ ◌||◌ (same_zero k) (same_past k))
      ∙ go (eqb k 0 || ltb n k) refl (chain_moved fuel (next_index (row b k)))
    where
      go : (t : Bool) → (eqb k 0 || ltb n k) ≡ t →
          chain (λ j. next_index (row c j)) n fuel (ρ (next_index (row b k))) ≡ map ρ (chain (λ j. next_index (row b j)) n fuel (next_index (row b k))) →
          cond t [] (ρ k ∷ chain (λ j. next_index (row c j)) n fuel (next_index (row c (ρ k)))) ≡ map ρ (cond t [] (k ∷ chain (λ j. next_index (row b j)) n fuel (next_index (row b k))))
      go true e rest = refl
      go false e rest =
          let parts = or_parts (eqb k 0) (ltb n k) e in
          let some = eqb-false k 0 parts.0 in
          let here = ltb-false n k parts.1 in
          ap (λ r. ρ k ∷ r) (ap (chain (λ j. next_index (row c j)) n fuel) (moved.next k (positive k some) here) ∙ rest)
        where
          positive : (j : ℕ) → (j ≡ 0 → ⊥) → 1 ≤ j
          positive zero h = absurd (h refl)
          positive (suc j) h = omega arith

  chain_same : (k : ℕ) → chain_of c (ρ k) ≡ map ρ (chain_of b k)
  chain_same k = ap (λ m. chain (λ j. next_index (row c j)) m m (ρ k)) moved.as_many ∙ chain_moved n k

  place_same : (ks : List ℕ) (k : ℕ) → place_in (map ρ ks) (ρ k) ≡ place_in ks k
  place_same [] k = refl
  place_same (x ∷ ks) k = ap₂ (λ t r. cond t 0 (suc r)) (same_test x k) (place_same ks k)

  edge_same : (phases : List ℕ) (k : ℕ) → IsOf b kinds.Edge k → read_edge c (map ρ phases) (ρ k) ≡ read_edge b phases k
  edge_same phases k is =
      let e = edge_in (marks_of b k) (rest_of b k) in
      ap (λ (x : EdgeRow). record { goal = place_in (map ρ phases) x.goal; port = x.port; lowest = x.lowest; highest = x.highest; window = x.window }) (moved.edges k is)
      ∙ ap (λ g. record { goal = g; port = e.port; lowest = e.lowest; highest = e.highest; window = e.window }) (place_same phases e.goal)

  abbrev phase_from : Fraction → List Word → ℕ → List Edge → Phase
  phase_from life words next edges = cond (is_endless life) (endless edges) (lasting life words next edges)

  phase_same : ChainsOfKinds b → (phases : List ℕ) (k : ℕ) → IsOf b kinds.Phase k → read_phase c (map ρ phases) (ρ k) ≡ read_phase b phases k
  phase_same ofk phases k is =
      let f = phase_in (rest_of b k) in
      let edges : map (read_edge c (map ρ phases)) (chain_of c (ρ f.first_edge)) ≡ map (read_edge b phases) (chain_of b f.first_edge) =
      ap (map (read_edge c (map ρ phases))) (chain_same f.first_edge)
      ∙ mapped_same (read_edge c (map ρ phases)) (read_edge b phases) ρ (chain_of b f.first_edge)
      (All-weaker _ _ (edge_same phases) (chain_of b f.first_edge) (ofk.edges k is)) in
      let words : map (read_word c) (chain_of c (ρ f.first_word)) ≡ map (read_word b) (chain_of b f.first_word) =
      ap (map (read_word c)) (chain_same f.first_word)
      ∙ mapped_same (read_word c) (read_word b) ρ (chain_of b f.first_word)
      (All-weaker _ _ moved.words (chain_of b f.first_word) (ofk.words k is)) in
      ap (λ (x : PhaseRow). phase_from x.lifetime (map (read_word c) (chain_of c x.first_word)) (place_in (map ρ phases) x.next_phase) (map (read_edge c (map ρ phases)) (chain_of c x.first_edge))) (moved.phases k is)
      ∙ ap₂ (λ ws es. phase_from f.lifetime ws (place_in (map ρ phases) (ρ f.next_phase)) es) words edges
      ∙ ap (λ p. phase_from f.lifetime (map (read_word b) (chain_of b f.first_word)) p (map (read_edge b phases) (chain_of b f.first_edge))) (place_same phases f.next_phase)

  station_same : ChainsOfKinds b → (k : ℕ) → IsOf b kinds.Station k → read_station c (ρ k) ≡ read_station b k
  station_same ofk k is =
      let s = station_in (rest_of b k) in
      let phases = chain_of b s.first_phase in
      ap (λ (x : StationRow). record { opening = place_in (chain_of c x.first_phase) x.opening; phases = map (read_phase c (chain_of c x.first_phase)) (chain_of c x.first_phase) }) (moved.stations k is)
      ∙ ap (λ ks. record { opening = place_in ks (ρ s.opening); phases = map (read_phase c ks) ks }) (chain_same s.first_phase)
      ∙ ap₂ (λ (p : ℕ) (fs : List Phase). record { opening = p; phases = fs }) (place_same phases s.opening)
      (mapped_same (read_phase c (map ρ phases)) (read_phase b phases) ρ phases (All-weaker _ _ (phase_same ofk phases) phases (ofk.phases k is)))

  model_same : ChainsOfKinds b → read_model c ≡ read_model b
  model_same ofk =
      let stations : map (read_station c) (chain_of c (two c 6)) ≡ map (read_station b) (chain_of b (two b 6)) =
      ap (λ k. map (read_station c) (chain_of c k)) moved.first_station
      ∙ ap (map (read_station c)) (chain_same (two b 6))
      ∙ mapped_same (read_station c) (read_station b) ρ (chain_of b (two b 6)) (All-weaker _ _ (station_same ofk) (chain_of b (two b 6)) ofk.stations) in
      let paths : map (read_path c) (chain_of c (two c 8)) ≡ map (read_path b) (chain_of b (two b 8)) =
      ap (λ k. map (read_path c) (chain_of c k)) moved.first_path
      ∙ ap (map (read_path c)) (chain_same (two b 8))
      ∙ mapped_same (read_path c) (read_path b) ρ (chain_of b (two b 8)) (All-weaker _ _ moved.paths (chain_of b (two b 8)) ofk.paths) in
      ap₂ (λ (o : Order) (ss : List Station). record { order = o; stations = ss; paths = map (read_path c) (chain_of c (two c 8)) }) moved.order stations
      ∙ ap (λ (ps : List Path). record { order = read_order b; stations = map (read_station b) (chain_of b (two b 6)); paths = ps }) paths

pub numbers_do_not_matter : NumbersDoNotMatter
numbers_do_not_matter ρ b c moved ofk =
    let same = model_same ρ b c moved ofk in
    record { same_tree = same; same_bytes = ap printed_book same }
