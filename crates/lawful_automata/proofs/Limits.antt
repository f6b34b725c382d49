-- Limits: the widths of fields, and the tests of scales, bounds, guards and values.
use Rattle.std.proofs.Common.{◌≡◌, ℕ, ◌*◌, ◌≤◌, Bool, true, false, cond, eqb, ltb, ◌↔◌, List, Some, None, Option, refl, arith}
use Rattle.std.proofs.lemmas.Bool.{or_parts, or_from, ltb-false, le-ltb, eqb-false, ne_eqb}
use Rattle.book.specs.Bytes.{at}
use Rattle.book.specs.declared.record.HighEnd.{HighEnd}
use Rattle.book.specs.declared.record.HighEnd.TheVariants.{Closed, Open, Absent}
use Rattle.book.specs.declared.record.Label.{Label}
use Rattle.book.specs.declared.record.Label.TheVariants.{Silent, Hears, Sends}
use Rattle.book.specs.declared.record.Transition.{Transition}
use Rattle.records.specs.Fits.{Bytes, Two, HighFits, LabelFits}
use Rattle.semantics.specs.LawfulAutomata.{LawfulLabel, BoundFits}
use Rattle.fields.specs.Fields.{rest_of, location_at, transition_at}
use Rattle.automaton_rules.specs.Rules.{wrong_scale, wrong_bound, wrong_high, wrong_values, wrong_transition}
use Rattle.tree_laws.proofs.Tests.{none_of_three}
use Rattle.tree_laws.proofs.Records.{rest_byte}

-- the fields of a record have their widths
module _ (b : List ℕ) (bytes : Bytes b) (k : ℕ) where
  pub phase_fits : Two (location_at b k).phase
  phase_fits = let high = rest_byte b bytes k 2 in let low = rest_byte b bytes k 3 in omega arith

  pub label_fits : LabelFits (transition_at b k).label
  label_fits = go (eqb (at (rest_of b k) 2) 0) (eqb (at (rest_of b k) 2) 1)
    where
      go : (s h : Bool) →
          LabelFits (cond s Silent (cond h (Hears (at (rest_of b k) 3) (at (rest_of b k) 4) (at (rest_of b k) 5)) (Sends (at (rest_of b k) 3) (at (rest_of b k) 4))))
      go true h = tt
      go false true = (rest_byte b bytes k 3, rest_byte b bytes k 4, rest_byte b bytes k 5)
      go false false = (rest_byte b bytes k 3, rest_byte b bytes k 4)

pub scale_right : (s : ℕ) → wrong_scale s ≡ false ↔ ((1 ≤ s) × (s ≤ 1000000))
scale_right s = (
  λ e.
      let parts = or_parts (eqb s 0) _ e in
      let some = eqb-false s 0 parts.0 in
      (omega arith, ltb-false 1000000 s parts.1),
  λ h. or_from (eqb s 0) _ (ne_eqb s 0 (λ z. absurd (let a = h.0 in omega arith))) (le-ltb 1000000 s h.1),
)

pub bound_right : (scale : ℕ) (bound : Option ℕ) → wrong_bound (1000000 * scale) bound ≡ false ↔ BoundFits scale bound
bound_right scale None = (λ e. tt, λ h. refl)
bound_right scale (Some x) = (λ e. ltb-false (1000000 * scale) x e, λ h. le-ltb (1000000 * scale) x h)

high_right : (most : ℕ) (high : HighEnd ℕ) → wrong_high most high ≡ false ↔ HighFits (λ h. h ≤ most) high
high_right most (Closed x) = (λ e. ltb-false most x e, λ h. le-ltb most x h)
high_right most (Open x) = (λ e. ltb-false most x e, λ h. le-ltb most x h)
high_right most Absent = (λ e. tt, λ h. refl)

label_right : (l : Label) → LabelFits l → wrong_values l ≡ false ↔ LawfulLabel l
label_right Silent w = (λ e. tt, λ h. refl)
label_right (Hears port lowest highest) w = (λ e. (w.0, (ltb-false highest lowest e, w.2)), λ h. le-ltb highest lowest h.1.0)
label_right (Sends port value) w = (λ e. w, λ h. refl)

-- a transition's guard and values are within the limits
pub limits_right : (most : ℕ) (t : Transition) → LabelFits t.label →
    wrong_transition most t ≡ false ↔ ((t.guard.low ≤ most) × HighFits (λ h. h ≤ most) t.guard.high × LawfulLabel t.label)
limits_right most t w =
    let tests = none_of_three (ltb most t.guard.low) (wrong_high most t.guard.high) (wrong_values t.label) in
    let high = high_right most t.guard.high in
    let label = label_right t.label w in (
      λ e. let none = tests.0 e in (ltb-false most t.guard.low none.0, high.0 none.1, label.0 none.2),
      λ h. tests.1 (le-ltb most t.guard.low h.0, high.1 h.1, label.1 h.2),
    )
