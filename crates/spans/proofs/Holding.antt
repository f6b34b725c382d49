-- The tests of cut windows, as lawful trees ask for them.
use Rattle.std.proofs.Common.{◌≡◌, ℕ, Bool, true, false, not, ◌&&◌, Some, Decides, Option, sym, refl, ap, ◌∙◌, ap₂}
use Rattle.std.proofs.lemmas.Bool.{false≢true}
use Rattle.records.specs.Fits.{WindowFits}
use Rattle.semantics.specs.Times.{Fraction, Proper, Window, Order, inside, counts, itself, whole}
use Rattle.semantics.specs.Trees.{Edge, Transition}
use Rattle.semantics.specs.Fits.{transition_fits, within_bound}
use Rattle.spans.specs.Spans.{counted, bounded, no_time, lifetime_end}
use Rattle.spans.specs.Hearings.{Hearing, hearing, heard, takes, meet}
use Rattle.spans.specs.Meaning.{ProperLife, EndsProper}
use Rattle.spans.specs.Taking.{taken}
use Rattle.spans.specs.Holding.{GuardHolds, EdgesShare, TransitionsShare, HoldsExactly}
use Rattle.spans.proofs.Windows.{and_first, and_second, not_true, windows_mean, windows_count, guards_count, cut_proper, life_fits, whole_window}
use Rattle.spans.proofs.Taking.{meet_exactly, takes_as_cut}

module _ {T : Type 0} (time : T → Fraction) (c w : Window T) (in-time : Fraction → Bool) (pc : EndsProper time c)
    (same : (t : Fraction) → Proper t → inside time c t ≡ (inside time w t && in-time t)) where
  cut_holds : Decides (not (no_time time c)) ((t : Fraction) × (Proper t × ((inside time w t && in-time t) ≡ true)))
  cut_holds = (found, λ m. told (no_time time c) refl m.0 m.1.0 m.1.1)
    where
      found : not (no_time time c) ≡ true → (t : Fraction) × (Proper t × ((inside time w t && in-time t) ≡ true))
      found e =
          let at = (windows_mean time).one_inside c pc (not_true (no_time time c) e) in
          (at.0, (at.1.0, sym (same at.0 at.1.0) ∙ at.1.1))

      told : (b : Bool) → no_time time c ≡ b → (t : Fraction) → Proper t → (inside time w t && in-time t) ≡ true → not b ≡ true
      told false e t pt h = refl
      told true e t pt h = absurd (false≢true (sym ((windows_mean time).none_inside c pc e t pt) ∙ same t pt ∙ h))

counted_proper : (o : Order) (life : Option Fraction) (w : Window Fraction) → ProperLife life → WindowFits Proper w →
    WindowFits Proper (counted itself o life w)
counted_proper o life w pl pw = cut_proper itself (lifetime_end o life) w (life_fits o life pl) pw

guards_hold : (bound : Option ℕ) (g : Window ℕ) → Decides (not (no_time whole (bounded whole bound g))) (GuardHolds bound g)
guards_hold bound g =
    let d = cut_holds whole (bounded whole bound g) g (within_bound bound) (whole_window (bounded whole bound g)) (guards_count bound g) in (
      λ e.
          let m = d.0 e in
          (m.0, (m.1.0, (and_first (inside whole g m.0) (within_bound bound m.0) m.1.1, and_second (inside whole g m.0) (within_bound bound m.0) m.1.1))),
      λ m. d.1 (m.0, (m.1.0, ap₂ ◌&&◌ m.1.1.0 m.1.1.1)),
    )

edges_share : (o : Order) (life : Option Fraction) (e f : Edge) →
    ProperLife life → WindowFits Proper e.window → WindowFits Proper f.window →
    Decides
    (meet itself (hearing e.port e.lowest e.highest (counted itself o life e.window)) (hearing f.port f.lowest f.highest (counted itself o life f.window)))
    (EdgesShare o life e f)
edges_share o life e f pl pe pf =
    let d = meet_exactly itself
    (hearing e.port e.lowest e.highest (counted itself o life e.window))
    (hearing f.port f.lowest f.highest (counted itself o life f.window))
    (counted_proper o life e.window pl pe) (counted_proper o life f.window pl pf) in
    let as-edge = takes_as_cut.edges o life in (
      λ h.
          let m = d.0 h in
          let p = m.0 in
          let v = m.1.0 in
          let t = m.1.1.0 in
          let pt = m.1.1.1.0 in
          (p, (v, (t, (pt, (sym (as-edge e p v t pt pl pe) ∙ m.1.1.1.1.0, sym (as-edge f p v t pt pl pf) ∙ m.1.1.1.1.1))))),
      λ m.
          let p = m.0 in
          let v = m.1.0 in
          let t = m.1.1.0 in
          let pt = m.1.1.1.0 in
          d.1 (p, (v, (t, (pt, (as-edge e p v t pt pl pe ∙ m.1.1.1.1.0, as-edge f p v t pt pl pf ∙ m.1.1.1.1.1))))),
    )

-- what a hearing transition takes is what its hearing takes
as_heard : (bound : Option ℕ) (x : Transition) (h : Hearing ℕ) → heard bound x.guard x.label ≡ Some h →
    (p v : ℕ) (t : Fraction) → Proper t → takes whole h p v t ≡ (transition_fits p v t x && within_bound bound t)
as_heard bound x h e p v t pt = ap (λ o. taken o p v t) (sym e) ∙ takes_as_cut.transitions bound x p v t pt

transitions_share : (bound : Option ℕ) (x y : Transition) (h k : Hearing ℕ) →
    heard bound x.guard x.label ≡ Some h → heard bound y.guard y.label ≡ Some k →
    Decides (meet whole h k) (TransitionsShare bound x y)
transitions_share bound x y h k ex ey =
    let d = meet_exactly whole h k (whole_window h.window) (whole_window k.window) in (
      λ e.
          let m = d.0 e in
          let p = m.0 in
          let v = m.1.0 in
          let t = m.1.1.0 in
          let pt = m.1.1.1.0 in
          let fx = sym (as_heard bound x h ex p v t pt) ∙ m.1.1.1.1.0 in
          let fy = sym (as_heard bound y k ey p v t pt) ∙ m.1.1.1.1.1 in
          let first = transition_fits p v t x in
          let second = transition_fits p v t y in
          let bounded-by = within_bound bound t in
          (p, (v, (t, (pt, (and_second first bounded-by fx, (and_first first bounded-by fx, and_first second bounded-by fy)))))),
      λ m.
          let p = m.0 in
          let v = m.1.0 in
          let t = m.1.1.0 in
          let pt = m.1.1.1.0 in
          let in-bound = m.1.1.1.1.0 in
          d.1 (
            p,
            (
              v,
              (
                t,
                (
                  pt,
                  (
                    as_heard bound x h ex p v t pt ∙ ap₂ ◌&&◌ m.1.1.1.1.1.0 in-bound,
                    as_heard bound y k ey p v t pt ∙ ap₂ ◌&&◌ m.1.1.1.1.1.1 in-bound,
                  ),
                ),
              ),
            ),
          ),
    )

pub holds_exactly : HoldsExactly
holds_exactly = record {
  windows = λ o life e pl pe.
      cut_holds itself (counted itself o life e.window) e.window (counts o life)
      (counted_proper o life e.window pl pe) (λ t pt. windows_count o life e.window t pt pl pe);
  guards = guards_hold;
  edges = edges_share;
  transitions = transitions_share;
}
