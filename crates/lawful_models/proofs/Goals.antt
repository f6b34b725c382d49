-- Goals: a record is a phase of its station exactly if it has a place among them.
use Rattle.std.proofs.Common.{◌≡◌, ℕ, ◌<◌, Bool, true, false, cond, not, ◌||◌, eqb, ltb, ◌↔◌, List, length, refl}
use Rattle.std.specs.List.{ContainsAt as Has}
use Rattle.std.proofs.lemmas.Bool.{not-false, not_from_true, or_parts, or_from, eqb-true, eq-eqb, both_ways}
use Rattle.book.specs.Bytes.{two, row}
use Rattle.book.specs.Chains.{whole_records}
use Rattle.book.specs.declared.term.BookKind.TheVariants.{Model}
use Rattle.visits.specs.Visits.{phases}
use Rattle.fields.specs.Fields.{station_at, phase_at, edge_at, is_endless}
use Rattle.model_rules.specs.Rules.{outside, wrong_next, goals}
use Rattle.semantics.specs.Books.{place_in}
use Rattle.tree_records.specs.TreeRecords.{stations_in, phases_in, edges_in, words_in}
use Rattle.lawful_models.specs.Accepted.{Rests}
use Rattle.kept_rules.proofs.Everywhere.{all_at_has, all_at_members, never_passed}
use Rattle.kept_rules.proofs.ByChains.{followed_is, Kept}
use Rattle.tree_laws.proofs.Chains.{not_outside}
use Rattle.lawful_models.proofs.Reading.{model_chains}

-- a phase of the station s
abbrev pub Here : List ℕ → ℕ → ℕ → Type 0
Here b s k = place_in (phases_in b s) k < length (phases_in b s)

abbrev next_of : List ℕ → ℕ → ℕ
next_of b p = (phase_at b p).next_phase

abbrev word_of : List ℕ → ℕ → ℕ
word_of b p = (phase_at b p).first_word

abbrev left_over : List ℕ → ℕ → Bool
left_over b p = not (eqb (next_of b p) 0) || not (eqb (word_of b p) 0)

module _ (b : List ℕ) (few : ltb 2000 (whole_records b) ≡ false) where
  inside : (s k : ℕ) → outside b s k ≡ false ↔ Here b s k
  inside s = not_outside (phases b s) (phases_in b s) (followed_is b few (two (row b s) 4))

  next_right : (s p : ℕ) → wrong_next b s (phase_at b p) ≡ false ↔ Rests b p × (is_endless (phase_at b p).lifetime ≡ false → Here b s (phase_at b p).next_phase)
  next_right s p = go (is_endless (phase_at b p).lifetime) refl
    where
      go : (t : Bool) → is_endless (phase_at b p).lifetime ≡ t → cond t (left_over b p) (outside b s (next_of b p)) ≡ false ↔ Rests b p × (is_endless (phase_at b p).lifetime ≡ false → Here b s (next_of b p))
      go true is = (
        λ e.
            let parts = or_parts (not (eqb (next_of b p) 0)) (not (eqb (word_of b p) 0)) e in (
              record { no_next = λ _. eqb-true (next_of b p) 0 (not-false _ parts.0); no_word = λ _. eqb-true (word_of b p) 0 (not-false _ parts.1) },
              λ ends. absurd (both_ways _ ends is),
            ),
        λ h. or_from (not (eqb (next_of b p) 0)) (not (eqb (word_of b p) 0)) (not_from_true _ (eq-eqb (next_of b p) 0 (h.0.no_next is))) (not_from_true _ (eq-eqb (word_of b p) 0 (h.0.no_word is))),
      )
      go false is = (
        λ e. (record { no_next = λ ever. absurd (both_ways _ is ever); no_word = λ ever. absurd (both_ways _ is ever) }, λ _. (inside s (next_of b p)).0 e),
        λ h. (inside s (next_of b p)).1 (h.1 is),
      )

  -- openings, next phases and goals are in their stations, and endless phases rest
  pub record GoalsRight : Type 0 where
    pub opening : (s : ℕ) → Has (stations_in b) s → Here b s (station_at b s).opening
    pub rests : (s : ℕ) → Has (stations_in b) s → (p : ℕ) → Has (phases_in b s) p → Rests b p
    pub next : (s : ℕ) → Has (stations_in b) s → (p : ℕ) → Has (phases_in b s) p → is_endless (phase_at b p).lifetime ≡ false → Here b s (phase_at b p).next_phase
    pub goal : (s : ℕ) → Has (stations_in b) s → (p : ℕ) → Has (phases_in b s) p → (e : ℕ) → Has (edges_in b p) e → Here b s (edge_at b e).goal

  pub goals_kept : Kept (model_chains b) (goals b) ↔ GoalsRight
  goals_kept = (
    λ k.
        let phase : (s : ℕ) → Has (stations_in b) s → (p : ℕ) → Has (phases_in b s) p → Rests b p × (is_endless (phase_at b p).lifetime ≡ false → Here b s (phase_at b p).next_phase) =
        λ s hs p hp. (next_right s p).0 (all_at_has (λ _ x. wrong_next b s (phase_at b x) ≡ false) 0 (phases_in b s) (k.phase s hs) p hp).1 in
        record {
          opening = λ s hs. (inside s _).0 (all_at_has (λ _ x. outside b x (station_at b x).opening ≡ false) 0 (stations_in b) k.station s hs).1;
          rests = λ s hs p hp. (phase s hs p hp).0;
          next = λ s hs p hp. (phase s hs p hp).1;
          goal = λ s hs p hp e he. (inside s _).0 (k.edge s hs p hp e he);
        },
    λ g. record {
      station = all_at_members _ 0 (stations_in b) (λ _ s hs. (inside s _).1 (g.opening s hs));
      phase = λ s hs. all_at_members _ 0 (phases_in b s) (λ _ p hp. (next_right s p).1 (g.rests s hs p hp, g.next s hs p hp));
      edge = λ s hs p hp e he. (inside s _).1 (g.goal s hs p hp e he);
      word = λ s hs p hp. never_passed (words_in Model b p);
    },
  )
