use Rattle.std.proofs.Common.{ℕ, zero, suc, ◌<◌, Some, refl, inl, arith}
use Rattle.semantics.specs.Runs.{lowest_busy, lowest_due, done, elsewhere, outside, heard, one_word, ended, goes_on, delayed, worded, stepped}
use Rattle.semantics.proofs.relay_runs.Goals as goal

only : (P : ℕ → Type 0) → P 0 → (i : ℕ) → i < 1 → P i
only P h zero l = h
only P h (suc i) l = absurd (omega arith)

none_below : (P : ℕ → Type 0) → (i : ℕ) → i < 0 → P i
none_below P i l = absurd (omega arith)

pub returns : goal.returns
returns c = record {
  by_model = (
    _,
    goes_on (worded (only _ refl) (λ _. only _ refl) (heard 0 _ refl refl (omega arith) (refl, inl (refl, refl)) (elsewhere refl done)))
        (goes_on (delayed (omega arith) (only _ refl) (only _ refl))
        (goes_on (delayed (omega arith) (only _ refl) (only _ refl))
        (goes_on (stepped 0 (Some (record { port = 2; value = 7 })) _ (lowest_due (only _ refl) (omega arith) refl (none_below _)) (refl, refl) (one_word (elsewhere refl (outside refl refl done))))
        (goes_on (stepped 0 (Some (record { port = 2; value = 8 })) _ (lowest_busy (omega arith) refl (none_below _)) (refl, refl) (one_word (elsewhere refl (outside refl refl done))))
        ended)))),
  );
  by_automaton = (
    _,
    goes_on (worded (only _ refl) (λ _. only _ refl) (heard 0 _ refl refl (omega arith) (inl (refl, refl)) (elsewhere refl done)))
        (goes_on (delayed (omega arith) (only _ refl) (only _ refl))
        (goes_on (delayed (omega arith) (only _ refl) (only _ refl))
        (goes_on (stepped 0 (Some (record { port = 2; value = 7 })) _ (lowest_due (only _ refl) (omega arith) refl (none_below _)) (inl (refl, refl, refl)) (one_word (elsewhere refl (outside refl refl done))))
        (goes_on (stepped 0 (Some (record { port = 2; value = 8 })) _ (lowest_busy (omega arith) refl (none_below _)) (inl (refl, refl, refl)) (one_word (elsewhere refl (outside refl refl done))))
        ended)))),
  );
}
