-- What is told of a phase, and where a word leads from it.
use Rattle.std.proofs.Common.{◌≡◌, ℕ, suc, ◌+◌, ◌<◌, Bool, true, false, cond, ◌&&◌, List, [], map, length, drop, Some, None, Option, sym, ap, ◌∙◌, subst, ap₂, arith}
use Rattle.std.specs.Option.{option_map}
use Rattle.std.specs.List.{ContainsAt as Has, AllByRecursion}
use Rattle.std.proofs.lemmas.List.{drop-map}
use Rattle.book.specs.Chains.{chain_of}
use Rattle.book.specs.declared.record.Edge.{Edge as EdgeRecord}
use Rattle.book.specs.declared.record.Phase.{Phase as PhaseRecord}
use Rattle.book.specs.declared.term.BookKind.TheVariants.{Model}
use Rattle.records.specs.Fits.{Bytes}
use Rattle.fields.specs.Fields.{phase_at, edge_at, lifetime_at, is_endless}
use Rattle.semantics.specs.Times.{Fraction, Order, inside, counts, itself}
use Rattle.semantics.specs.Trees.{lifetime_of, edges_of}
use Rattle.semantics.specs.Books.{place_in, read_order, read_word, read_edge}
use Rattle.semantics.specs.Scales.{ticks}
use Rattle.semantics.specs.Fits.{word_fits, edge_fits, first}
use Rattle.semantics.specs.declared.state.Move.{Move}
use Rattle.semantics.specs.Meanings.{stance_number, move_with, quiet_stance, busy_stance}
use Rattle.semantics.specs.LawfulModels.{LawfulEdge}
use Rattle.machine.specs.Stances.{told}
use Rattle.machine.specs.declared.stance.StanceInfo.{StanceInfo}
use Rattle.kept_rules.proofs.Everywhere.{all_members, mapped_has}
use Rattle.accepted.specs.Accepted.{accepts}
use Rattle.places.specs.declared.table.Places.{Places}
use Rattle.places.specs.Tables.{places_of, place_of}
use Rattle.places.specs.Standing.{phases_of, PhaseOf}
use Rattle.places.specs.Firsts.{first_at}
use Rattle.places.proofs.Firsts.{first_read, first_has}
use Rattle.model.specs.Records.{phase_tree, words_at}
use Rattle.model.proofs.Trees.{lasting_read, endless_read, life_read, edges_read}
use Rattle.model.proofs.Lawful.{lawful_phase, next_placed, placed}

abbrev info : ℕ → ℕ → Bool → Option ℕ → Option Move → StanceInfo
info phase sent busy lifetime move = record { phase = phase; sent = sent; busy = busy; lifetime = lifetime; next_move = move }

module _ (b : List ℕ) (bytes : Bytes b) (accepted : accepts b Model ≡ true) (t : Places) (et : t ≡ places_of b) (i k : ℕ) (p : PhaseOf b i k) where
  abbrev next : ℕ
  next = (phase_at b k).next_phase

  abbrev all_words : List ℕ
  all_words = chain_of b (phase_at b k).first_word

  -- the move of a phase that lasts
  same_move : is_endless (phase_at b k).lifetime ≡ false → (place sent : ℕ)
      → move_with place sent (place_of t next) (map (read_word b) (drop sent (words_at b k))) ≡ move_with place sent (place_in (phases_of b i) next) (drop sent (map (read_word b) all_words))
  same_move lasts place sent =
      ap (λ n. move_with place sent n (map (read_word b) (drop sent (words_at b k)))) (next_placed b bytes accepted i k p t et lasts)
      ∙ ap (λ e. move_with place sent (place_in (phases_of b i) next) (map (read_word b) (drop sent (cond e [] all_words)))) lasts
      ∙ ap (move_with place sent (place_in (phases_of b i) next)) (sym (drop-map (read_word b) sent all_words))

  pub quiet_told : (o : Order) (scale place life : ℕ) (m : Move) → is_endless (phase_at b k).lifetime ≡ false → life ≡ ticks scale (phase_at b k).lifetime
      → m ≡ move_with place 0 (place_of t next) (map (read_word b) (drop 0 (words_at b k)))
      → info (place + 1) 0 false (Some life) (Some m) ≡ told (quiet_stance o scale place (phase_tree b i k))
  quiet_told o scale place life m lasts el em =
      let z : place + 1 ≡ suc place = omega arith in
      ap (λ n. info n 0 false (Some life) (Some m)) z
      ∙ ap₂ (λ l x. info (suc place) 0 false (Some l) (Some x)) el (em ∙ same_move lasts place 0)
      ∙ sym (ap (λ f. told (quiet_stance o scale place f)) (lasting_read b (phases_of b i) k lasts))

  pub busy_told : (place sent : ℕ) (m : Move) → is_endless (phase_at b k).lifetime ≡ false
      → m ≡ move_with place sent (place_of t next) (map (read_word b) (drop sent (words_at b k)))
      → info (place + 1) sent true None (Some m) ≡ told (busy_stance place sent (phase_tree b i k))
  busy_told place sent m lasts em =
      let z : place + 1 ≡ suc place = omega arith in
      ap₂ (λ n x. info n sent true None (Some x)) z (em ∙ same_move lasts place sent)
      ∙ sym (ap (λ f. told (busy_stance place sent f)) (lasting_read b (phases_of b i) k lasts))

  pub rests_told : (o : Order) (scale place : ℕ) → is_endless (phase_at b k).lifetime ≡ true
      → info (place + 1) 0 false None None ≡ told (quiet_stance o scale place (phase_tree b i k))
  rests_told o scale place rests =
      let z : place + 1 ≡ suc place = omega arith in
      ap (λ n. info n 0 false None None) z ∙ sym (ap (λ f. told (quiet_stance o scale place f)) (endless_read b (phases_of b i) k rests))

  -- which edges take a word, as their records tell
  abbrev pub taking : Order → Option Fraction → ℕ → ℕ → Fraction → EdgeRecord → Bool
  taking o life port value at e = word_fits e.port e.lowest e.highest port value && (inside itself e.window at && counts o life at)

  module _ (o : Order) (life : Option Fraction) (f : PhaseRecord) (port value : ℕ) (at : Fraction)
      (eo : o ≡ read_order b) (el : life ≡ lifetime_at b k) (ef : f ≡ phase_at b k) where
    abbrev ks : List ℕ
    ks = chain_of b (phase_at b k).first_edge

    abbrev goal : ℕ → ℕ
    goal e = stance_number (place_in (phases_of b i) (edge_at b e).goal) 0

    all_taking : first (edge_fits (read_order b) (lifetime_of (phase_tree b i k)) port value at) (λ x. stance_number x.goal 0) (edges_of (phase_tree b i k))
        ≡ option_map goal (first_at (λ _ e. taking o life port value at (edge_at b e)) 0 (chain_of b f.first_edge))
    all_taking =
        ap₂ (λ l es. first (edge_fits (read_order b) l port value at) (λ x. stance_number x.goal 0) es) (life_read b (phases_of b i) k) (edges_read b (phases_of b i) k)
        ∙ first_read (edge_fits (read_order b) (lifetime_at b k) port value at) (λ x. stance_number x.goal 0) (read_edge b (phases_of b i)) 0 ks
        ∙ ap₂ (λ x l. option_map goal (first_at (λ _ e. taking x l port value at (edge_at b e)) 0 ks)) (sym eo) (sym el)
        ∙ ap (λ (x : PhaseRecord). option_map goal (first_at (λ _ e. taking o life port value at (edge_at b e)) 0 (chain_of b x.first_edge))) (sym ef)

    pub heard_none : None ≡ first_at (λ _ e. taking o life port value at (edge_at b e)) 0 (chain_of b f.first_edge)
        → None ≡ first (edge_fits (read_order b) (lifetime_of (phase_tree b i k)) port value at) (λ x. stance_number x.goal 0) (edges_of (phase_tree b i k))
    heard_none none = ap (option_map goal) none ∙ sym all_taking

    goal_here : (e : ℕ) → Has ks e → place_in (phases_of b i) (edge_at b e).goal < length (phases_of b i)
    goal_here e h =
        (mapped_has (LawfulEdge (length (phases_of b i))) (read_edge b (phases_of b i)) ks
        (subst (AllByRecursion (LawfulEdge (length (phases_of b i)))) (edges_read b (phases_of b i) k) (lawful_phase b bytes accepted i k p).edges_fit) e h).goal_here

    pub heard_some : (e n : ℕ) → Some e ≡ first_at (λ _ e. taking o life port value at (edge_at b e)) 0 (chain_of b f.first_edge) → n ≡ stance_number (place_of t (edge_at b e).goal) 0
        → Some n ≡ first (edge_fits (read_order b) (lifetime_of (phase_tree b i k)) port value at) (λ x. stance_number x.goal 0) (edges_of (phase_tree b i k))
    heard_some e n some en =
        let chain_is : chain_of b f.first_edge ≡ ks = ap (λ (x : PhaseRecord). chain_of b x.first_edge) ef in
        let found : Some e ≡ first_at (λ _ x. taking o life port value at (edge_at b x)) 0 ks = some ∙ ap (first_at (λ _ x. taking o life port value at (edge_at b x)) 0) chain_is in
        let here = first_has (λ x. place_in (phases_of b i) (edge_at b x).goal < length (phases_of b i)) (λ _ x. taking o life port value at (edge_at b x)) 0 ks e found
        (all_members _ ks goal_here) in
        let number : n ≡ goal e = en ∙ ap (λ x. stance_number x 0) (placed b bytes accepted i p.station_there t (edge_at b e).goal et here) in
        ap Some number ∙ ap (option_map goal) some ∙ sym all_taking
