-- The marks of a window, written and read.
use Rattle.std.proofs.Common.{◌≡◌, ℕ, zero, suc, ◌+◌, ◌≤◌, Bool, true, false, leb, refl, ap, ◌∙◌, arith}
use Rattle.std.proofs.lemmas.Bool.{and_parts, leb-true, both_ways}
use Rattle.book.specs.declared.record.HighEnd.{HighEnd}
use Rattle.book.specs.declared.record.HighEnd.TheVariants.{Closed, Open, Absent}
use Rattle.book.specs.declared.record.Window.{Window}
use Rattle.records.specs.Fields.{marked, bit, high_end, high_marks, high_or, window, window_laid, window_marks}

-- a number up to 7
pub eight_cases : (P : ℕ → Type 0) → P 0 → P 1 → P 2 → P 3 → P 4 → P 5 → P 6 → P 7 → (m : ℕ) → m ≤ 7 → P m
eight_cases P p0 p1 p2 p3 p4 p5 p6 p7 zero h = p0
eight_cases P p0 p1 p2 p3 p4 p5 p6 p7 (suc zero) h = p1
eight_cases P p0 p1 p2 p3 p4 p5 p6 p7 (suc (suc zero)) h = p2
eight_cases P p0 p1 p2 p3 p4 p5 p6 p7 (suc (suc (suc zero))) h = p3
eight_cases P p0 p1 p2 p3 p4 p5 p6 p7 (suc (suc (suc (suc zero)))) h = p4
eight_cases P p0 p1 p2 p3 p4 p5 p6 p7 (suc (suc (suc (suc (suc zero))))) h = p5
eight_cases P p0 p1 p2 p3 p4 p5 p6 p7 (suc (suc (suc (suc (suc (suc zero)))))) h = p6
eight_cases P p0 p1 p2 p3 p4 p5 p6 p7 (suc (suc (suc (suc (suc (suc (suc zero))))))) h = p7
eight_cases P p0 p1 p2 p3 p4 p5 p6 p7 (suc (suc (suc (suc (suc (suc (suc (suc m)))))))) h = absurd (omega arith)

module _ {T : Type 0} (none : T) where
  high_back : (o : Bool) (h : HighEnd T) → high_end (bit o 1 + high_marks h) (high_or none h) ≡ h
  high_back true (Closed x) = refl
  high_back true (Open x) = refl
  high_back true Absent = refl
  high_back false (Closed x) = refl
  high_back false (Open x) = refl
  high_back false Absent = refl

  low_back : (o : Bool) (h : HighEnd T) → marked (bit o 1 + high_marks h) 1 ≡ o
  low_back true (Closed x) = refl
  low_back true (Open x) = refl
  low_back true Absent = refl
  low_back false (Closed x) = refl
  low_back false (Open x) = refl
  low_back false Absent = refl

  -- a window that is written is read as it was
  pub window_back : (w : Window T) → window (window_marks w) w.low (high_or none w.high) ≡ w
  window_back w =
      ap (λ o. record { low = w.low; low_open = o; high = high_end (window_marks w) (high_or none w.high) }) (low_back w.low_open w.high)
      ∙ ap (λ h. record { low = w.low; low_open = w.low_open; high = h }) (high_back w.low_open w.high)

  laid_back : (z : HighEnd T → Bool) → z Absent ≡ true → (o : Bool) (h : HighEnd T) → window_laid (bit o 1 + high_marks h) (z h) ≡ true
  laid_back z e true (Closed x) = refl
  laid_back z e true (Open x) = refl
  laid_back z e true Absent = e
  laid_back z e false (Closed x) = refl
  laid_back z e false (Open x) = refl
  laid_back z e false Absent = e

  -- and is laid out as it should be, where no high end is written as zeros
  pub window_laid_back : (z : HighEnd T → Bool) → z Absent ≡ true → (w : Window T) → window_laid (window_marks w) (z w.high) ≡ true
  window_laid_back z e w = laid_back z e w.low_open w.high

  none_of : {A : Type 0} → ◌≡◌ {A = Bool} false true → A
  none_of {A} e = absurd (both_ways false refl e)

  -- marks that are read are written as they were
  pub marks_again : (m : ℕ) (z : Bool) (low high : T) → window_laid m z ≡ true → window_marks (window m low high) ≡ m
  marks_again m z low high e =
      eight_cases (λ n. window_laid n z ≡ true → window_marks (window n low high) ≡ n)
      (λ _. refl) (λ _. refl) (λ _. refl) (λ _. refl) (λ _. refl) (λ _. refl) none_of none_of
      m (leb-true m 7 (and_parts (leb m 7) _ e).0) e

  -- and so is the high end, where its bytes are zero if it is absent
  pub high_again : (m : ℕ) (z : Bool) (low high : T) → window_laid m z ≡ true → (z ≡ true → none ≡ high) → high_or none (window m low high).high ≡ high
  high_again m z low high e f =
      eight_cases (λ n. window_laid n z ≡ true → high_or none (window n low high).high ≡ high)
      (λ _. refl) (λ _. refl) (λ _. refl) (λ _. refl) f f none_of none_of
      m (leb-true m 7 (and_parts (leb m 7) _ e).0) e
