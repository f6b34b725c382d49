-- A phase of the tree is lawful exactly if its record, its words and its edges are right.
use Rattle.std.proofs.Common.{◌≡◌, ℕ, ◌<◌, ◌≤◌, Bool, true, false, cond, List, map, length, Some, None, Option, sym, refl, subst, arith}
use Rattle.std.specs.List.{ContainsAt as Has, AllByRecursion}
use Rattle.std.proofs.lemmas.List.{length-map}
use Rattle.std.proofs.lemmas.Bool.{both_ways}
use Rattle.book.specs.declared.term.BookKind.TheVariants.{Model}
use Rattle.records.specs.Fits.{Bytes}
use Rattle.fields.specs.Fields.{phase_at, edge_at, is_endless, lifetime_at}
use Rattle.semantics.specs.Times.{Fraction, Proper, Order}
use Rattle.semantics.specs.Trees.{Edge, Word, Phase, endless, lasting}
use Rattle.semantics.specs.Fits.{edge_fits}
use Rattle.semantics.specs.Limits.{AtMostOne}
use Rattle.semantics.specs.LawfulModels.{SmallLife, LawfulWord, LawfulEdge, WindowHolds, LawfulPhase}
use Rattle.semantics.specs.Books.{place_in, read_word, read_edge}
use Rattle.tree_records.specs.TreeRecords.{edges_in, words_in}
use Rattle.kept_rules.proofs.Everywhere.{all_mapped, mapped_has}
use Rattle.tree_laws.proofs.Records.{rest_byte}
use Rattle.lawful_models.proofs.Reading.{tree_phase}
use Rattle.lawful_models.proofs.Limits.{SmallEdge}

-- what is asked of the phase in record p, in a station with the phases ps
pub record PhaseRight (o : Order) (b ps : List ℕ) (p : ℕ) : Type 0 where
  pub life : SmallLife (lifetime_at b p)
  pub next : is_endless (phase_at b p).lifetime ≡ false → place_in ps (phase_at b p).next_phase < length ps
  pub words_few : is_endless (phase_at b p).lifetime ≡ false → length (words_in Model b p) ≤ 4
  pub edge : (e : ℕ) → Has (edges_in b p) e → SmallEdge (edge_at b e)
  pub goal : (e : ℕ) → Has (edges_in b p) e → place_in ps (edge_at b e).goal < length ps
  pub window : (e : ℕ) → Has (edges_in b p) e → WindowHolds o (lifetime_at b p) (read_edge b ps e)
  pub apart : (q v : ℕ) (t : Fraction) → Proper t → AtMostOne (edge_fits o (lifetime_at b p) q v t) (map (read_edge b ps) (edges_in b p))

module _ (o : Order) (n : ℕ) (l : Fraction) (ws : List Word) (next : ℕ) (es : List Edge) where
  abbrev either : Bool → Phase
  either t = cond t (endless es) (lasting l ws next es)

  abbrev life_by : Bool → Option Fraction
  life_by t = cond t None (Some l)

  build : (t : Bool) → SmallLife (life_by t) → (t ≡ false → next < n) → (t ≡ false → length ws ≤ 4) → AllByRecursion LawfulWord ws → AllByRecursion (LawfulEdge n) es →
      AllByRecursion (WindowHolds o (life_by t)) es → ((q v : ℕ) (x : Fraction) → Proper x → AtMostOne (edge_fits o (life_by t) q v x) es) → LawfulPhase o n (either t)
  build true life here few words edges windows apart = record {
    life_fits = tt;
    next_here = tt;
    few_words = omega arith;
    words_fit = tt;
    edges_fit = edges;
    windows_hold = windows;
    edges_apart = apart;
  }
  build false life here few words edges windows apart = record {
    life_fits = life;
    next_here = here refl;
    few_words = few refl;
    words_fit = words;
    edges_fit = edges;
    windows_hold = windows;
    edges_apart = apart;
  }

  life_of : (t : Bool) → LawfulPhase o n (either t) → SmallLife (life_by t)
  life_of true h = tt
  life_of false h = h.life_fits

  next_of : (t : Bool) → LawfulPhase o n (either t) → t ≡ false → next < n
  next_of true h e = absurd (both_ways true e refl)
  next_of false h e = h.next_here

  few_of : (t : Bool) → LawfulPhase o n (either t) → t ≡ false → length ws ≤ 4
  few_of true h e = absurd (both_ways true e refl)
  few_of false h e = h.few_words

  edges_fit_of : (t : Bool) → LawfulPhase o n (either t) → AllByRecursion (LawfulEdge n) es
  edges_fit_of true h = h.edges_fit
  edges_fit_of false h = h.edges_fit

  windows_of : (t : Bool) → LawfulPhase o n (either t) → AllByRecursion (WindowHolds o (life_by t)) es
  windows_of true h = h.windows_hold
  windows_of false h = h.windows_hold

  apart_of : (t : Bool) → LawfulPhase o n (either t) → (q v : ℕ) (x : Fraction) → Proper x → AtMostOne (edge_fits o (life_by t) q v x) es
  apart_of true h = h.edges_apart
  apart_of false h = h.edges_apart

module _ (o : Order) (b ps : List ℕ) (p : ℕ) where
  abbrev n : ℕ
  n = length ps

  abbrev t : Bool
  t = is_endless (phase_at b p).lifetime

  abbrev l : Fraction
  l = (phase_at b p).lifetime

  abbrev ws : List Word
  ws = map (read_word b) (words_in Model b p)

  abbrev follower : ℕ
  follower = place_in ps (phase_at b p).next_phase

  abbrev es : List Edge
  es = map (read_edge b ps) (edges_in b p)

  pub to_phase : Bytes b → PhaseRight o b ps p → LawfulPhase o (length ps) (tree_phase b ps p)
  to_phase bytes r =
      build o n l ws follower es t r.life r.next
      (λ e. subst (λ k. k ≤ 4) (sym (length-map (words_in Model b p) (read_word b))) (r.words_few e))
      (all_mapped LawfulWord (read_word b) (words_in Model b p) (λ w hw. (rest_byte b bytes w 0, rest_byte b bytes w 1)))
      (all_mapped (LawfulEdge n) (read_edge b ps) (edges_in b p) (λ e he. record {
        goal_here = r.goal e he;
        port_width = rest_byte b bytes e 2;
        values_ordered = (r.edge e he).values_ordered;
        value_width = rest_byte b bytes e 4;
        low_fits = (r.edge e he).low_fits;
        high_fits = (r.edge e he).high_fits;
      }))
      (all_mapped (WindowHolds o (lifetime_at b p)) (read_edge b ps) (edges_in b p) r.window)
      r.apart

  pub from_phase : LawfulPhase o (length ps) (tree_phase b ps p) → PhaseRight o b ps p
  from_phase h =
      let edge : (e : ℕ) → Has (edges_in b p) e → LawfulEdge n (read_edge b ps e) = mapped_has (LawfulEdge n) (read_edge b ps) (edges_in b p) (edges_fit_of o n l ws follower es t h) in
      record {
        life = life_of o n l ws follower es t h;
        next = next_of o n l ws follower es t h;
        words_few = λ e. subst (λ k. k ≤ 4) (length-map (words_in Model b p) (read_word b)) (few_of o n l ws follower es t h e);
        edge = λ e he. let x = edge e he in record { values_ordered = x.values_ordered; low_fits = x.low_fits; high_fits = x.high_fits };
        goal = λ e he. (edge e he).goal_here;
        window = mapped_has (WindowHolds o (lifetime_at b p)) (read_edge b ps) (edges_in b p) (windows_of o n l ws follower es t h);
        apart = apart_of o n l ws follower es t h;
      }
