-- Shared moments: no two transitions of a location meet exactly if at most one of them takes a word at a moment.
use Rattle.std.proofs.Common.{◌≡◌, ℕ, true, false, ◌&&◌, ltb, ◌↔◌, List, map, Some, None, Decides, Option, sym, refl, ap, ◌∙◌, ap₂}
use Rattle.std.specs.List.{ContainsAt as Has}
use Rattle.std.proofs.lemmas.Bool.{both_ways}
use Rattle.std.proofs.lemmas.Bool.Decides.{Decides-like}
use Rattle.book.specs.Chains.{whole_records}
use Rattle.links.specs.Queues.{Distinct}
use Rattle.semantics.specs.Books.{read_transition}
use Rattle.semantics.specs.Fits.{transition_fits, within_bound}
use Rattle.semantics.specs.Limits.{AtMostOne}
use Rattle.semantics.specs.Times.{Fraction, Proper, whole}
use Rattle.semantics.specs.Trees.{Transition}
use Rattle.spans.specs.declared.hearing.Hearing.{Hearing}
use Rattle.spans.specs.Hearings.{heard, meet}
use Rattle.spans.specs.Taking.{taken}
use Rattle.spans.proofs.Holding.{holds_exactly}
use Rattle.spans.proofs.Taking.{takes_as_cut}
use Rattle.visits.specs.Visits.{edges}
use Rattle.fields.specs.Fields.{location_at}
use Rattle.automaton_windows.specs.Rules.{hearing_at, both_take, shared_moment}
use Rattle.tree_laws.proofs.Apart.{Share, apart}
use Rattle.lawful_automata.proofs.Reading.{transitions_of, all_transitions}

-- at a moment up to and with the bound
abbrev Within : Option ℕ → Fraction → Type 0
Within bound t = Proper t × (within_bound bound t ≡ true)

-- a transition that takes a word hears
module _ (bound : Option ℕ) (x y : Transition) where
  silent_takes_none : (z : Transition) → heard bound z.guard z.label ≡ None → (p v : ℕ) (t : Fraction) → Within bound t → transition_fits p v t z ≡ true → ⊥
  silent_takes_none z e p v t within fits =
      both_ways false refl (ap (λ o. taken o p v t) (sym e) ∙ takes_as_cut.transitions bound z p v t within.0 ∙ ap₂ ◌&&◌ fits within.1)

  shares : Decides (both_take (heard bound x.guard x.label) (heard bound y.guard y.label)) (Share (Within bound) transition_fits x y)
  shares = go (heard bound x.guard x.label) (heard bound y.guard y.label) refl refl
    where
      never : {P : Type 0} → (P → ⊥) → Decides false P
      never none = (λ e. absurd (both_ways false refl e), λ p. absurd (none p))

      go : (o q : Option (Hearing ℕ)) → heard bound x.guard x.label ≡ o → heard bound y.guard y.label ≡ q → Decides (both_take o q) (Share (Within bound) transition_fits x y)
      go None q ex ey = never (λ m. silent_takes_none x ex m.0 m.1.0 m.1.1.0 m.1.1.1.0 m.1.1.1.1.0)
      go (Some h) None ex ey = never (λ m. silent_takes_none y ey m.0 m.1.0 m.1.1.0 m.1.1.1.0 m.1.1.1.1.1)
      go (Some h) (Some k) ex ey =
          Decides-like (meet whole h k)
          (λ m. (m.0, (m.1.0, (m.1.1.0, ((m.1.1.1.0, m.1.1.1.1.0), m.1.1.1.1.1)))))
          (λ m. (m.0, (m.1.0, (m.1.1.0, (m.1.1.1.0.0, (m.1.1.1.0.1, m.1.1.1.1))))))
          (holds_exactly.transitions bound x y h k ex ey)

module _ (b : List ℕ) (short : ltb 2000 (whole_records b) ≡ false) (l : ℕ) (locations : List ℕ) (distinct : Distinct (transitions_of b l)) where
  pub moments_apart : ((t : ℕ) → Has (transitions_of b l) t → shared_moment b l t ≡ false) ↔
      ((p v : ℕ) (x : Fraction) → Proper x → within_bound (location_at b l).bound x ≡ true →
      AtMostOne (transition_fits p v x) (map (read_transition b locations) (transitions_of b l)))
  moments_apart =
      let bound = (location_at b l).bound in
      let reading = read_transition b locations in
      let exactly =
      apart (Within bound) transition_fits reading (λ t u. both_take (hearing_at b l t) (hearing_at b l u)) (transitions_of b l) (edges b l) (all_transitions b short l)
      (λ t u ht hu. shares bound (reading t) (reading u)) distinct in
      (λ none p v x proper within. exactly.0 none p v x (proper, within), λ few. exactly.1 (λ p v x now. few p v x now.0 now.1))
