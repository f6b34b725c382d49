-- The move of a location, and where a word leads from it.
use Rattle.std.proofs.Common.{◌≡◌, ℕ, suc, Bool, true, cond, ◌&&◌, List, [], ◌∷◌, map, Some, None, Option, sym, refl, ap, ◌∙◌, ap₂}
use Rattle.std.specs.Option.{option_map}
use Rattle.std.specs.List.{ContainsAt as Has}
use Rattle.std.proofs.ByRecursion.{all_has_itself}
use Rattle.book.specs.Chains.{chain_of}
use Rattle.book.specs.declared.record.Location.{Location as LocationRecord}
use Rattle.book.specs.declared.record.Transition.{Transition as TransitionRecord}
use Rattle.book.specs.declared.term.BookKind.TheVariants.{Automaton}
use Rattle.records.specs.Fits.{Bytes}
use Rattle.fields.specs.Fields.{location_at, transition_at}
use Rattle.semantics.specs.Times.{Fraction, inside, whole}
use Rattle.semantics.specs.Trees.{Word, Label, Silent, Hears, Sends}
use Rattle.semantics.specs.Books.{place_in, read_transition}
use Rattle.semantics.specs.Fits.{label_fits, transition_fits, first}
use Rattle.semantics.specs.LawfulAutomata.{is_move}
use Rattle.semantics.specs.declared.state.Move.{Move}
use Rattle.semantics.specs.Machine.{move_to}
use Rattle.semantics.specs.Meanings.{label_move, move_among}
use Rattle.accepted.specs.Accepted.{accepts}
use Rattle.places.specs.declared.table.Places.{Places}
use Rattle.places.specs.Tables.{places_of, place_of}
use Rattle.places.specs.Standing.{phases_of, PhaseOf}
use Rattle.places.specs.Firsts.{first_at}
use Rattle.places.proofs.Firsts.{first_read, first_has}
use Rattle.automaton.specs.Records.{location_tree, word_sent}
use Rattle.automaton.proofs.Trees.{goal_placed}

-- the move among transitions that are read from records is that of the first record that does not hear
module _ (b ls : List ℕ) where
  abbrev moved : ℕ → Move
  moved k = move_to (word_sent (transition_at b k).label) (place_in ls (transition_at b k).goal)

  among_read : (i : ℕ) (ks : List ℕ) → move_among (map (read_transition b ls) ks) ≡ option_map moved (first_at (λ _ k. is_move (transition_at b k).label) i ks)
  among_read i [] = refl
  among_read i (k ∷ ks) = go (transition_at b k).label refl (among_read (suc i) ks)
    where
      go : (l : Label) → (transition_at b k).label ≡ l
          → move_among (map (read_transition b ls) ks) ≡ option_map moved (first_at (λ _ x. is_move (transition_at b x).label) (suc i) ks)
          → label_move l (place_in ls (transition_at b k).goal) (move_among (map (read_transition b ls) ks))
          ≡ option_map moved (cond (is_move l) (Some k) (first_at (λ _ x. is_move (transition_at b x).label) (suc i) ks))
      go Silent e rec = ap (λ l. Some (move_to (word_sent l) (place_in ls (transition_at b k).goal))) (sym e)
      go (Hears port lowest highest) e rec = rec
      go (Sends port value) e rec = ap (λ l. Some (move_to (word_sent l) (place_in ls (transition_at b k).goal))) (sym e)

module _ (b : List ℕ) (bytes : Bytes b) (accepted : accepts b Automaton ≡ true) (t : Places) (et : t ≡ places_of b) (i k : ℕ) (p : PhaseOf b i k)
    (f : LocationRecord) (ef : f ≡ location_at b k) where
  abbrev ks : List ℕ
  ks = chain_of b (location_at b k).first_transition

  abbrev told : (ℕ → Bool) → Option ℕ
  told passes = first_at (λ _ x. passes x) 0 (chain_of b f.first_transition)

  own : (passes : ℕ → Bool) → told passes ≡ first_at (λ _ x. passes x) 0 ks
  own passes = ap (λ (x : LocationRecord). first_at (λ _ y. passes y) 0 (chain_of b x.first_transition)) ef

  -- the goal of the record that is found has its place in the table
  found_placed : (passes : ℕ → Bool) (x : ℕ) → Some x ≡ told passes → place_of t (transition_at b x).goal ≡ place_in (phases_of b i) (transition_at b x).goal
  found_placed passes x some =
      goal_placed b bytes accepted i k p t et x (first_has (Has ks) (λ _ y. passes y) 0 ks x (some ∙ own passes) (all_has_itself ks))

  abbrev moving : ℕ → Bool
  moving x = is_move (transition_at b x).label

  pub move_none : None ≡ told moving → None ≡ move_among (location_tree b i k).transitions
  move_none none = ap (option_map (moved b (phases_of b i))) (none ∙ own moving) ∙ sym (among_read b (phases_of b i) 0 ks)

  pub move_some : (x n : ℕ) (w : Option Word) (r : TransitionRecord) → Some x ≡ told moving → r ≡ transition_at b x → w ≡ word_sent r.label → n ≡ place_of t r.goal
      → Some (move_to w n) ≡ move_among (location_tree b i k).transitions
  move_some x n w r some er ew en =
      let w-is = ew ∙ ap (λ (y : TransitionRecord). word_sent y.label) er in
      let n-is = en ∙ ap (λ (y : TransitionRecord). place_of t y.goal) er ∙ found_placed moving x some in
      ap Some (ap₂ move_to w-is n-is) ∙ ap (option_map (moved b (phases_of b i))) (some ∙ own moving) ∙ sym (among_read b (phases_of b i) 0 ks)

  module _ (port value : ℕ) (at : Fraction) where
    abbrev taking : ℕ → Bool
    taking x = label_fits (transition_at b x).label port value && inside whole (transition_at b x).guard at

    abbrev answer : Option ℕ
    answer = first (transition_fits port value at) (λ x. x.goal) (location_tree b i k).transitions

    all_taking : answer ≡ option_map (λ x. place_in (phases_of b i) (transition_at b x).goal) (first_at (λ _ x. taking x) 0 ks)
    all_taking = first_read (transition_fits port value at) (λ x. x.goal) (read_transition b (phases_of b i)) 0 ks

    pub heard_none : None ≡ told taking → None ≡ answer
    heard_none none = ap (option_map (λ x. place_in (phases_of b i) (transition_at b x).goal)) (none ∙ own taking) ∙ sym all_taking

    pub heard_some : (x n : ℕ) → Some x ≡ told taking → n ≡ place_of t (transition_at b x).goal → Some n ≡ answer
    heard_some x n some en =
        ap Some (en ∙ found_placed taking x some) ∙ ap (option_map (λ y. place_in (phases_of b i) (transition_at b y).goal)) (some ∙ own taking) ∙ sym all_taking
