-- A making, refused or done.
use Rattle.std.proofs.Common.{◌≡◌, ℕ, zero, suc, ◌-◌, ◌<◌, ◌≤◌, Bool, true, false, ◌||◌, eqb, ltb, ◌⊎◌, List, [], ◌∷◌, ◌++◌, map, length, take, drop, replicate, Some, None, Ok, Err, Option, sym, refl, ap, ◌∙◌, ap₂, arith, length-append}
use lib.ListN.{length-map, length-replicate}
use Rattle.std.proofs.lemmas.List.{take-append-le, take_all}
use Rattle.std.proofs.lemmas.Bool.{lt-ltb, le-ltb}
use Rattle.std.proofs.lemmas.Bool.Decides.{nat_tests}
use Rattle.book.specs.Refusals.{refused}
use Rattle.book.specs.declared.refusal.Fault.TheVariants.{Scale, Paths, Room, Parts}
use Rattle.book.specs.declared.term.Order.{Order}
use Rattle.book.specs.declared.term.Path.{Path}
use Rattle.book.specs.declared.event.Event.{Event}
use Rattle.semantics.specs.declared.state.StationState.{StationState}
use Rattle.semantics.specs.Events.{event, Created}
use Rattle.semantics.specs.Machine.{StationMeaning, Meaning, net_scale, factor, gear, geared}
use Rattle.semantics.specs.Net.{in_stance}
use Rattle.semantics.specs.Calls.{Answer, unless, at_zero, first_bad, bad_paths, misfit, created, make}
use Rattle.delivery.specs.Known.{only_known, learned}
use Rattle.making.specs.Opening.{opened, opened_table}
use Rattle.making.proofs.Openings.{length_created}
use Rattle.net.specs.Invariant.{Within}

-- the four refusals in their order, and then the events
abbrev make_by : Meaning → Option ℕ → Option ℕ → Bool → Bool → Answer
make_by ms misfits paths short wrong =
    unless misfits (λ k. Err (refused Scale k))
    (unless paths (λ k. Err (refused Paths k))
    (unless (at_zero short) (λ k. Err (refused Room k))
    (unless (at_zero wrong) (λ k. Err (refused Parts k))
    (Ok (created 1 ms)))))

module _ (ms : Meaning) (ps : List Path) (o : Order) (q slots : ℕ) (fit : first_bad (misfit (net_scale ms)) 1 ms ≡ None) where
  make_is : (paths : Option ℕ) (short wrong : Bool) → paths ≡ bad_paths (length ms) ps → short ≡ ltb slots (length ms) → wrong ≡ (eqb q 0 || ltb 1000 q) →
      make_by ms None paths short wrong ≡ (make ms ps o q slots).answer
  make_is paths short wrong a b c =
      ap₂ (λ x y. make_by ms None x y wrong) a b
      ∙ ap₂ (λ x y. make_by ms x (bad_paths (length ms) ps) (ltb slots (length ms)) y) (sym fit) c

  pub make_at_paths : (k : ℕ) → Some k ≡ bad_paths (length ms) ps → Err (refused Paths k) ≡ (make ms ps o q slots).answer
  make_at_paths k a = make_is (Some k) (ltb slots (length ms)) (eqb q 0 || ltb 1000 q) a refl refl

  pub make_at_room : None ≡ bad_paths (length ms) ps → slots < length ms → Err (refused Room 0) ≡ (make ms ps o q slots).answer
  make_at_room a h = make_is None true (eqb q 0 || ltb 1000 q) a (sym (lt-ltb slots (length ms) h)) refl

  pub make_at_parts : None ≡ bad_paths (length ms) ps → length ms ≤ slots → true ≡ (eqb q 0 || ltb 1000 q) → Err (refused Parts 0) ≡ (make ms ps o q slots).answer
  make_at_parts a h c = make_is None false true a (sym (le-ltb slots (length ms) h)) c

  pub make_goes : None ≡ bad_paths (length ms) ps → length ms ≤ slots → false ≡ (eqb q 0 || ltb 1000 q) → Ok (created 1 ms) ≡ (make ms ps o q slots).answer
  make_goes a h c = make_is None false false a (sym (le-ltb slots (length ms) h)) c

-- too few parts, or too many
pub wrong_parts : (q : ℕ) → (q ≡ 0) ⊎ (1000 < q) → true ≡ (eqb q 0 || ltb 1000 q)
wrong_parts q h = grind (arith, nat_tests)

pub right_parts : (q : ℕ) → 1 ≤ q → q ≤ 1000 → false ≡ (eqb q 0 || ltb 1000 q)
right_parts q some few = grind (arith, nat_tests)

-- Gearing changes no opening stance, and no phase.
opened_geared : (f : StationMeaning → ℕ) (ms : Meaning) → opened (map (λ m. gear (f m) m) ms) ≡ opened ms
opened_geared f [] = refl
opened_geared f (m ∷ ms) = ap (λ σ. in_stance m.opening 0 ∷ σ) (opened_geared f ms)

created_geared : (f : StationMeaning → ℕ) (k : ℕ) (ms : Meaning) → created k (map (λ m. gear (f m) m) ms) ≡ created k ms
created_geared f k [] = refl
created_geared f k (m ∷ ms) = ap (λ es. event Created k 0 (m.stance m.opening).phase ∷ es) (created_geared f (suc k) ms)

module _ (ms finer : Meaning) (same : finer ≡ geared ms) where
  pub as_many : length finer ≡ length ms
  as_many = ap length same ∙ length-map ms (λ m. gear (factor (net_scale ms) m) m)

  same_opened : opened finer ≡ opened ms
  same_opened = ap opened same ∙ opened_geared (factor (net_scale ms)) ms

  same_created : created 1 finer ≡ created 1 ms
  same_created = ap (created 1) same ∙ created_geared (factor (net_scale ms)) 1 ms

  -- the slots are as they are defined
  pub created_written : (es : List Event) → created 1 finer ++ drop (length finer) es ≡ created 1 ms ++ drop (length (created 1 ms)) es
  created_written es = ap₂ (λ xs n. xs ++ drop n es) same_created (as_many ∙ sym (length_created 1 ms))

  -- the table's front is the first states
  pub opened_front : (table : List StationState) → table ≡ opened_table finer → take (length (learned finer)) table ≡ opened ms
  opened_front table e =
      let long : length (opened finer) ≡ length (learned finer) = length-map finer (λ m. in_stance m.opening 0) ∙ sym (length-map finer only_known) in
      ap (take (length (learned finer))) e
      ∙ take-append-le (length (learned finer)) (opened finer) (replicate (16 - length finer) (in_stance 0 0)) (omega arith)
      ∙ take_all (length (learned finer)) (opened finer) (omega arith)
      ∙ same_opened

pub table_long : (ms : Meaning) → length ms ≤ 16 → length (opened_table ms) ≡ 16
table_long ms few = let n = length-map ms (λ m. in_stance m.opening 0) in simp (length-append, length-replicate) (omega arith)

blank_within : (k : ℕ) → Within (replicate k (in_stance 0 0)) 0
blank_within zero i = omega arith
blank_within (suc k) zero = omega arith
blank_within (suc k) (suc i) = blank_within k i

pub opened_within : (k : ℕ) (ms : Meaning) → Within (opened ms ++ replicate k (in_stance 0 0)) 0
opened_within k [] i = blank_within k i
opened_within k (m ∷ ms) zero = omega arith
opened_within k (m ∷ ms) (suc i) = opened_within k ms i
