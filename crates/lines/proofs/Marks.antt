-- What a line tells is known by its bytes.
use Rattle.std.proofs.Common.{◌≡◌, ℕ, ◌^◌, ◌<◌, cond, eqb, List, [], ◌∷◌, Some, sym, refl, ap, ◌∙◌, arith}
use Rattle.book.specs.Events.{event_letter, event_of_letter}
use Rattle.book.specs.Refusals.{fault_number}
use Rattle.book.specs.declared.event.Event.{Event}
use Rattle.book.specs.declared.event.EventKind.{EventKind}
use Rattle.book.specs.declared.event.EventKind.TheVariants.{Arrival, External, Output, Internal, Created}
use Rattle.book.specs.declared.refusal.Refusal.{Refusal}
use Rattle.book.specs.declared.refusal.Fault.{Fault}
use Rattle.book.specs.declared.refusal.Fault.TheVariants as fault
use Rattle.lines.specs.declared.line.Line.{Line}
use Rattle.lines.specs.declared.line.Line.TheVariants as line
use Rattle.lines.specs.declared.line.Telling.{Telling}
use Rattle.lines.specs.Lines.{ended, line_bytes, Fits, LinesDiffer}
use Rattle.lines.specs.Numbers.{Are}
use Rattle.lines.proofs.Numbers.{same_numbers}

-- no letter is the mark of a refusal or of a telling
not_refusal : (k : EventKind) → event_letter k ≡ 45 → ⊥
not_refusal Arrival e = omega arith
not_refusal External e = omega arith
not_refusal Output e = omega arith
not_refusal Internal e = omega arith
not_refusal Created e = omega arith

not_telling : (k : EventKind) → event_letter k ≡ 61 → ⊥
not_telling Arrival e = omega arith
not_telling External e = omega arith
not_telling Output e = omega arith
not_telling Internal e = omega arith
not_telling Created e = omega arith

-- equal lines have equal marks, and equal bytes behind them
mark : {m n : ℕ} {k l : List ℕ} → ◌≡◌ {A = List ℕ} (m ∷ k) (n ∷ l) → m ≡ n
mark e = cc

behind : {m n : ℕ} {k l : List ℕ} → ◌≡◌ {A = List ℕ} (m ∷ k) (n ∷ l) → l ≡ k
behind e = cc

-- the number of a fault is small
small_number : (f : Fault) → fault_number f < 19
small_number f = elim f as (λ g. fault_number g < 19) [
  | fault.Length ↦ omega arith
  | fault.Head ↦ omega arith
  | fault.Layout ↦ omega arith
  | fault.Links ↦ omega arith
  | fault.Goals ↦ omega arith
  | fault.Limits ↦ omega arith
  | fault.Scale ↦ omega arith
  | fault.EmptyWindow ↦ omega arith
  | fault.SharedMoment ↦ omega arith
  | fault.Paths ↦ omega arith
  | fault.Location ↦ omega arith
  | fault.Room ↦ omega arith
  | fault.Parts ↦ omega arith
  | fault.Busy ↦ omega arith
  | fault.Due ↦ omega arith
  | fault.Lifetime ↦ omega arith
  | fault.Total ↦ omega arith
  | fault.Idle ↦ omega arith
]

-- the lists of numbers that lines of each kind have
event_are : (e : Event) (l : List ℕ) → Fits (line.Event e) → l ≡ ended (e.station ∷ e.port ∷ e.value ∷ []) → Are l (e.station ∷ e.port ∷ e.value ∷ [])
event_are e l f q = ((omega (arith, f.0), (omega (arith, f.1), (omega (arith, f.2), tt))), q)

refusal_are : (r : Refusal) (l : List ℕ) → Fits (line.Refusal r) → l ≡ ended (fault_number r.fault ∷ r.place ∷ []) → Are l (fault_number r.fault ∷ r.place ∷ [])
refusal_are r l f q = let s = small_number r.fault in ((omega arith, (f, tt)), q)

telling_are : (t : Telling) (l : List ℕ) → Fits (line.Telling t) → l ≡ ended (t.phase ∷ t.sent ∷ t.elapsed ∷ []) → Are l (t.phase ∷ t.sent ∷ t.elapsed ∷ [])
telling_are t l f q = ((omega (arith, f.0), (omega (arith, f.1), (f.2, tt))), q)

-- no line of a kind begins with its mark and goes on like this, if no numbers of that kind do
pub no_event : (kind : EventKind) (l : List ℕ) → ((s p v : ℕ) → s < 2 ^ 8 → p < 2 ^ 8 → v < 2 ^ 16 → Are l (s ∷ p ∷ v ∷ []) → ⊥) →
    (x : Line) → Fits x → line_bytes x ≡ event_letter kind ∷ l → ⊥
no_event kind l none (line.Event e) f q =
    none e.station e.port e.value f.0 f.1 f.2 (event_are e l f (behind q))
no_event kind l none (line.Refusal r) f q = not_refusal kind (sym (mark q))
no_event kind l none (line.Telling t) f q = not_telling kind (sym (mark q))

pub no_refusal : (l : List ℕ) → ((f : Fault) (p : ℕ) → fault_number f < 19 → Are l (fault_number f ∷ p ∷ []) → ⊥) → (x : Line) → Fits x → line_bytes x ≡ 45 ∷ l → ⊥
no_refusal l none (line.Event e) f q = not_refusal e.kind (mark q)
no_refusal l none (line.Refusal r) f q = none r.fault r.place (small_number r.fault) (refusal_are r l f (behind q))
no_refusal l none (line.Telling t) f q = let e = mark q in omega arith

pub no_telling : (l : List ℕ) → ((p s t : ℕ) → p < 2 ^ 16 → s < 2 ^ 8 → Are l (p ∷ s ∷ t ∷ []) → ⊥) → (x : Line) → Fits x → line_bytes x ≡ 61 ∷ l → ⊥
no_telling l none (line.Event e) f q = not_telling e.kind (mark q)
no_telling l none (line.Refusal r) f q = let e = mark q in omega arith
no_telling l none (line.Telling t) f q = none t.phase t.sent t.elapsed f.0 f.1 (telling_are t l f (behind q))

-- the fault that has a number
fault_of : ℕ → Fault
fault_of n =
    cond (eqb n 1) fault.Length (cond (eqb n 2) fault.Head (cond (eqb n 3) fault.Layout (cond (eqb n 4) fault.Links (cond (eqb n 5) fault.Goals (cond (eqb n 6) fault.Limits
    (cond (eqb n 7) fault.Scale (cond (eqb n 8) fault.EmptyWindow (cond (eqb n 9) fault.SharedMoment (cond (eqb n 10) fault.Paths (cond (eqb n 11) fault.Location (cond (eqb n 12) fault.Room
    (cond (eqb n 13) fault.Parts (cond (eqb n 14) fault.Busy (cond (eqb n 15) fault.Due (cond (eqb n 16) fault.Lifetime (cond (eqb n 17) fault.Total fault.Idle))))))))))))))))

fault_back : (f : Fault) → fault_of (fault_number f) ≡ f
unfolding fault_of
fault_back f = elim f as (λ g. fault_of (fault_number g) ≡ g) [
  | fault.Length ↦ refl
  | fault.Head ↦ refl
  | fault.Layout ↦ refl
  | fault.Links ↦ refl
  | fault.Goals ↦ refl
  | fault.Limits ↦ refl
  | fault.Scale ↦ refl
  | fault.EmptyWindow ↦ refl
  | fault.SharedMoment ↦ refl
  | fault.Paths ↦ refl
  | fault.Location ↦ refl
  | fault.Room ↦ refl
  | fault.Parts ↦ refl
  | fault.Busy ↦ refl
  | fault.Due ↦ refl
  | fault.Lifetime ↦ refl
  | fault.Total ↦ refl
  | fault.Idle ↦ refl
]

same_fault : (f g : Fault) → fault_number f ≡ fault_number g → f ≡ g
same_fault f g e = sym (fault_back f) ∙ ap fault_of e ∙ fault_back g

letter_back : (k : EventKind) → event_of_letter (event_letter k) ≡ Some k
letter_back Arrival = refl
letter_back External = refl
letter_back Output = refl
letter_back Internal = refl
letter_back Created = refl

same_kind : (j k : EventKind) → event_letter j ≡ event_letter k → j ≡ k
same_kind j k e =
    let p = letter_back j in
    let q = letter_back k in
    let r : event_of_letter (event_letter j) ≡ event_of_letter (event_letter k) = ap event_of_letter e in
    cc

pub differ : LinesDiffer
differ (line.Event e) (line.Event g) f h q =
    let k = same_kind e.kind g.kind (mark q) in
    let l = ended (e.station ∷ e.port ∷ e.value ∷ []) in
    let s = same_numbers l (e.station ∷ e.port ∷ e.value ∷ []) (g.station ∷ g.port ∷ g.value ∷ []) (event_are e l f refl) (event_are g l h (sym (behind q))) in
    let a : e.station ≡ g.station = cc in
    let b : e.port ≡ g.port = cc in
    let c : e.value ≡ g.value = cc in
    ap line.Event (λ i. record { kind = k i; station = a i; port = b i; value = c i })
differ (line.Refusal r) (line.Refusal g) f h q =
    let l = ended (fault_number r.fault ∷ r.place ∷ []) in
    let s = same_numbers l (fault_number r.fault ∷ r.place ∷ []) (fault_number g.fault ∷ g.place ∷ []) (refusal_are r l f refl) (refusal_are g l h (sym (behind q))) in
    let n : fault_number r.fault ≡ fault_number g.fault = cc in
    let k = same_fault r.fault g.fault n in
    let p : r.place ≡ g.place = cc in
    ap line.Refusal (λ i. record { fault = k i; place = p i })
differ (line.Telling t) (line.Telling g) f h q =
    let l = ended (t.phase ∷ t.sent ∷ t.elapsed ∷ []) in
    let s = same_numbers l (t.phase ∷ t.sent ∷ t.elapsed ∷ []) (g.phase ∷ g.sent ∷ g.elapsed ∷ []) (telling_are t l f refl) (telling_are g l h (sym (behind q))) in
    let a : t.phase ≡ g.phase = cc in
    let b : t.sent ≡ g.sent = cc in
    let c : t.elapsed ≡ g.elapsed = cc in
    ap line.Telling (λ i. record { phase = a i; sent = b i; elapsed = c i })
differ (line.Event e) (line.Refusal g) f h q = absurd (not_refusal e.kind (mark q))
differ (line.Event e) (line.Telling g) f h q = absurd (not_telling e.kind (mark q))
differ (line.Refusal r) (line.Event g) f h q = absurd (not_refusal g.kind (sym (mark q)))
differ (line.Telling t) (line.Event g) f h q = absurd (not_telling g.kind (sym (mark q)))
differ (line.Refusal r) (line.Telling g) f h q = absurd (let e = mark q in omega arith)
differ (line.Telling t) (line.Refusal g) f h q = absurd (let e = mark q in omega arith)
