-- Limits: times are small, values in order, and chains short.
use Rattle.std.proofs.Common.{◌≡◌, ℕ, ◌≤◌, Bool, true, false, cond, not, ◌&&◌, ◌||◌, eqb, ltb, ◌↔◌, List, length, Some, None, refl, arith}
use Rattle.std.specs.List.{ContainsAt as Has}
use Rattle.std.proofs.lemmas.Bool.{or_parts, or_from, eqb-false, ne_eqb, ltb-false, le-ltb}
use Rattle.book.specs.declared.record.Edge.{Edge}
use Rattle.book.specs.declared.term.BookKind.TheVariants.{Model}
use Rattle.records.specs.Fits.{HighFits}
use Rattle.fields.specs.Fields.{phase_at, edge_at, is_endless, lifetime_at}
use Rattle.model_rules.specs.Rules.{wrong_time, wrong_lifetime, wrong_high, wrong_edge, limits}
use Rattle.semantics.specs.Times.{Fraction, HighEnd, Closed, Open, Absent}
use Rattle.semantics.specs.LawfulModels.{SmallTime, SmallLife}
use Rattle.tree_records.specs.TreeRecords.{stations_in, phases_in, edges_in, words_in}
use Rattle.kept_rules.proofs.Everywhere.{all_at_has, all_at_within, at_most_many}
use Rattle.kept_rules.proofs.ByChains.{Kept}
use Rattle.tree_laws.proofs.Tests.{none_of_three}
use Rattle.lawful_models.proofs.Reading.{model_chains}

small_time : (t : Fraction) → wrong_time t ≡ false ↔ SmallTime t
small_time t =
    let tests = none_of_three (ltb 1000000 t.numerator) (ltb 1000 t.denominator) (eqb t.denominator 0) in (
      λ e.
          let none = tests.0 e in
          let some = eqb-false t.denominator 0 none.2 in
          record { numerator_fits = ltb-false 1000000 t.numerator none.0; proper = omega arith; denominator_fits = ltb-false 1000 t.denominator none.1 },
      λ h.
          let low = h.proper in
          tests.1 (le-ltb 1000000 t.numerator h.numerator_fits, le-ltb 1000 t.denominator h.denominator_fits, ne_eqb t.denominator 0 (λ z. absurd (omega arith))),
    )

small_life : (t : Fraction) → wrong_lifetime t ≡ false ↔ SmallLife (cond (is_endless t) None (Some t))
small_life t = go (is_endless t)
  where
    go : (e : Bool) → (not e && wrong_time t) ≡ false ↔ SmallLife (cond e None (Some t))
    go true = (λ _. tt, λ _. refl)
    go false = small_time t

small_high : (h : HighEnd Fraction) → wrong_high h ≡ false ↔ HighFits SmallTime h
small_high (Closed t) = small_time t
small_high (Open t) = small_time t
small_high Absent = (λ _. tt, λ _. refl)

-- an edge within the limits
pub record SmallEdge (e : Edge) : Type 0 where
  pub values_ordered : e.lowest ≤ e.highest
  pub low_fits : SmallTime e.window.low
  pub high_fits : HighFits SmallTime e.window.high

small_edge : (e : Edge) → wrong_edge e ≡ false ↔ SmallEdge e
small_edge e =
    let tests = none_of_three (wrong_time e.window.low) (wrong_high e.window.high) (ltb e.highest e.lowest) in (
      λ f.
          let none = tests.0 f in
          record {
            values_ordered = ltb-false e.highest e.lowest none.2;
            low_fits = (small_time e.window.low).0 none.0;
            high_fits = (small_high e.window.high).0 none.1;
          },
      λ h. tests.1 ((small_time e.window.low).1 h.low_fits, (small_high e.window.high).1 h.high_fits, le-ltb e.highest e.lowest h.values_ordered),
    )

module _ (b : List ℕ) where
  pub record LimitsRight : Type 0 where
    pub stations_few : length (stations_in b) ≤ 16
    pub phases_few : (s : ℕ) → Has (stations_in b) s → length (phases_in b s) ≤ 200
    pub life : (s : ℕ) → Has (stations_in b) s → (p : ℕ) → Has (phases_in b s) p → SmallLife (lifetime_at b p)
    pub edge : (s : ℕ) → Has (stations_in b) s → (p : ℕ) → Has (phases_in b s) p → (e : ℕ) → Has (edges_in b p) e → SmallEdge (edge_at b e)
    pub words_few : (s : ℕ) → Has (stations_in b) s → (p : ℕ) → Has (phases_in b s) p → length (words_in Model b p) ≤ 4

  abbrev late : ℕ → Bool
  late i = eqb i 200

  abbrev long : ℕ → Bool
  long p = wrong_lifetime (phase_at b p).lifetime

  pub limits_kept : Kept (model_chains b) (limits b) ↔ LimitsRight
  limits_kept = (
    λ k. record {
      stations_few = (at_most_many 16 (stations_in b)).0 k.station;
      phases_few = λ s hs.
          (at_most_many 200 (phases_in b s)).0
          (all_at_within (λ i p. (late i || long p) ≡ false) (λ i p. late i ≡ false) 0 (phases_in b s) (λ i p hp e. (or_parts (late i) (long p) e).0) (k.phase s hs));
      life = λ s hs p hp.
          let at = all_at_has (λ i x. (late i || long x) ≡ false) 0 (phases_in b s) (k.phase s hs) p hp in
          (small_life (phase_at b p).lifetime).0 (or_parts (late at.0) (long p) at.1).1;
      edge = λ s hs p hp e he. (small_edge (edge_at b e)).0 (k.edge s hs p hp e he);
      words_few = λ s hs p hp. (at_most_many 4 (words_in Model b p)).0 (k.word s hs p hp);
    },
    λ l. record {
      station = (at_most_many 16 (stations_in b)).1 l.stations_few;
      phase = λ s hs.
          all_at_within (λ i p. late i ≡ false) (λ i p. (late i || long p) ≡ false) 0 (phases_in b s)
          (λ i p hp e. or_from (late i) (long p) e ((small_life (phase_at b p).lifetime).1 (l.life s hs p hp))) ((at_most_many 200 (phases_in b s)).1 (l.phases_few s hs));
      edge = λ s hs p hp e he. (small_edge (edge_at b e)).1 (l.edge s hs p hp e he);
      word = λ s hs p hp. (at_most_many 4 (words_in Model b p)).1 (l.words_few s hs p hp);
    },
  )
