-- Takers that meet, one after another of a list, and in a table that was filled from a chain.
use Rattle.std.proofs.Common.{◌≡◌, ℕ, suc, Bool, true, false, not, ◌&&◌, ◌||◌, eqb, List, [], ◌∷◌, ◌++◌, map, refl, ap, ◌∙◌}
use Rattle.std.specs.Bool.{then_some}
use Rattle.std.specs.Prelude.{min}
use Rattle.std.specs.List.{reduce, filter_map, cons_option}
use Rattle.semantics.specs.Times.{Fraction}
use Rattle.visits.specs.Smallest.{smallest, only_if, along}
use Rattle.visits.proofs.Least.{min_smallest}
use Rattle.chains.specs.Some.{some_at, some}
use Rattle.pairs.specs.declared.taker.Taker.{Taker}
use Rattle.pairs.specs.Pairs.{Heard, both_take, some_meets, meeting}

module _ {T : Type 0} (time : T → Fraction) where
  module _ (ys : List (Taker T)) where
    -- the edges of those that meet one of ys
    all_met : (xs : List (Taker T)) → filter_map (λ x. then_some (some_meets time x ys) x.edge) xs ≡ meeting time ys xs
    all_met [] = refl
    all_met (x ∷ xs) = go (some_meets time x ys) (all_met xs)
      where
        more : List ℕ
        more = filter_map (λ z. then_some (some_meets time z ys) z.edge) xs

        go : (t : Bool) → more ≡ meeting time ys xs → cons_option (then_some t x.edge) more ≡ only_if t x.edge ++ meeting time ys xs
        go true e = ap (λ l. x.edge ∷ l) e
        go false e = e

    pub first_met : (xs : List (Taker T)) → reduce min (filter_map (λ x. then_some (some_meets time x ys) x.edge) xs) ≡ smallest (meeting time ys xs)
    first_met xs = min_smallest (filter_map (λ x. then_some (some_meets time x ys) x.edge) xs) ∙ ap smallest (all_met xs)

  module _ (heard : ℕ → Heard T) where
    abbrev taker : ℕ → Taker T
    taker e = record { edge = e; hearing = heard e }

    -- f is another edge than e, and both take some word at some moment
    abbrev apart : ℕ → ℕ → Bool
    apart e f = not (eqb f e) && both_take time (heard e) (heard f)

    some_taker : (e i : ℕ) (fs : List ℕ) → some_meets time (taker e) (map taker fs) ≡ some_at (λ j f. apart e f) i fs
    some_taker e i [] = refl
    some_taker e i (f ∷ fs) = ap (λ t. apart e f || t) (some_taker e (suc i) fs)

    -- the edges that meet in the table are those of the chain that share a moment
    pub in_table : (fs : List ℕ) (i : ℕ) (es : List ℕ)
        → meeting time (map taker fs) (map taker es) ≡ along (λ j e. only_if (some (apart e) fs) e) i es
    in_table fs i [] = refl
    in_table fs i (e ∷ es) =
        ap (λ t. only_if t e ++ meeting time (map taker fs) (map taker es)) (some_taker e 0 fs)
        ∙ ap (λ l. only_if (some (apart e) fs) e ++ l) (in_table fs (suc i) es)
