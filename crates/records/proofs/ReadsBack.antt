-- What is written of a record is read back.
use Rattle.std.proofs.Common.{◌≡◌, ℕ, ◌+◌, Bool, true, false, cond, eqb, leb, List, [], ◌∷◌, ◌++◌, replicate, Some, None, Option, refl, ap, ◌∙◌, lit<}
use Rattle.std.proofs.lemmas.Bool.{and_from, eq-eqb}
use Rattle.book.specs.Bytes.{eight_bytes}
use Rattle.book.specs.declared.record.Fraction.{Fraction}
use Rattle.book.specs.declared.record.HighEnd.{HighEnd}
use Rattle.book.specs.declared.record.HighEnd.TheVariants.{Closed, Open, Absent}
use Rattle.book.specs.declared.record.Edge.{Edge}
use Rattle.book.specs.declared.record.Location.{Location}
use Rattle.book.specs.declared.record.Label.{Label}
use Rattle.book.specs.declared.record.Label.TheVariants.{Silent, Hears, Sends}
use Rattle.book.specs.declared.record.Transition.{Transition}
use Rattle.book.specs.declared.record.ModelBody.{ModelBody}
use Rattle.book.specs.declared.record.ModelBody.TheVariants as model
use Rattle.book.specs.declared.record.AutomatonBody.{AutomatonBody}
use Rattle.book.specs.declared.record.AutomatonBody.TheVariants as automata
use Rattle.records.specs.Fields.{fraction_bytes, high_or, window, window_marks, bit, marked, zeros_in, given, with_next}
use Rattle.records.specs.Fits.{Two, Eight, FractionFits, HighFits, ModelFits, AutomatonFits, BoundFits}
use Rattle.records.specs.Model.{decoded_model, encoded_model, model_rest, no_fraction, edge_in, edge_laid}
use Rattle.records.specs.Automaton.{decoded_automaton, encoded_automaton, automaton_rest, automaton_marks, label_in, label_laid, label_byte, label_port, label_lowest, label_highest, location_in, location_laid, transition_in, transition_laid, bound_marks, bound_ticks}
use Rattle.records.specs.Returns.{IsReadBack}
use Rattle.records.proofs.Numbers.{two_back, four_back, eight_back}
use Rattle.records.proofs.Same.{same_two, same_four}
use Rattle.records.proofs.Windows.{window_back, window_laid_back}

-- the fraction that stands for a high end fits
high_fits : {T : Type 0} (fits : T → Type 0) (none : T) → fits none → (h : HighEnd T) → HighFits fits h → fits (high_or none h)
high_fits fits none f (Closed x) g = g
high_fits fits none f (Open x) g = g
high_fits fits none f Absent g = f

edge_back : (e : Edge) → ModelFits (model.Edge e) → edge_in (window_marks e.window) (model_rest (model.Edge e)) ≡ e
edge_back e f =
    let h : Fraction = high_or no_fraction e.window.high in
    let fh : FractionFits h = high_fits FractionFits no_fraction (lit< tt, lit< tt) e.window.high f.4.1 in
    rw (two_back e.goal f.0, four_back e.window.low.numerator f.4.0.0, four_back e.window.low.denominator f.4.0.1, four_back h.numerator fh.0, four_back h.denominator fh.1)
    (ap (λ w. record { goal = e.goal; port = e.port; lowest = e.lowest; highest = e.highest; window = w }) (window_back no_fraction e.window))

edge_laid_back : (e : Edge) → edge_laid (window_marks e.window) (model_rest (model.Edge e)) ≡ true
edge_laid_back e =
    and_from _ _
    (window_laid_back no_fraction (λ h. zeros_in (replicate 16 0 ++ (fraction_bytes (high_or no_fraction h) ++ replicate 4 0)) 20 28) refl e.window)
    refl

-- a row whose fields and layout are known is read as their record
read_as : {B X : Type 0} (make : X → B) (m n : ℕ) (t : Bool) (x y : X) → m ≡ n → t ≡ true → x ≡ y → with_next m (given t (make x)) ≡ Some (record { next = n; body = make y })
read_as make m n t x y a b c = ap (λ k. with_next k (given t (make x))) a ∙ ap (λ u. with_next n (given u (make x))) b ∙ ap (λ z. with_next n (Some (make z))) c

model_back : (n : ℕ) (b : ModelBody) → Two n → ModelFits b → decoded_model (encoded_model (record { next = n; body = b })) ≡ Some (record { next = n; body = b })
model_back n (model.Station s) fn f = rw (two_back n fn, two_back s.first_phase f.0, two_back s.opening f.1)
model_back n (model.Phase p) fn f =
    rw (two_back n fn, two_back p.first_edge f.0, two_back p.next_phase f.1, two_back p.first_word f.2, four_back p.lifetime.numerator f.3.0, four_back p.lifetime.denominator f.3.1)
model_back n (model.Edge e) fn f = read_as model.Edge _ n _ _ e (two_back n fn) (edge_laid_back e) (edge_back e f)
model_back n (model.Word w) fn f = rw (two_back n fn)
model_back n (model.Path p) fn f = rw (two_back n fn)

pub model_reads_back : IsReadBack ModelFits decoded_model encoded_model
model_reads_back x f = model_back x.next x.body f.0 f.1

-- a bound, by the marks of its location
bound_back : (c : Bool) (b : Option ℕ) (n : ℕ) → (n ≡ bound_ticks b) → cond (marked (bit c 1 + bound_marks b) 2) (Some n) None ≡ b
bound_back true None n e = refl
bound_back false None n e = refl
bound_back true (Some b) n e = ap Some e
bound_back false (Some b) n e = ap Some e

committed_back : (c : Bool) (b : Option ℕ) → marked (bit c 1 + bound_marks b) 1 ≡ c
committed_back true None = refl
committed_back false None = refl
committed_back true (Some b) = refl
committed_back false (Some b) = refl

ticks_fit : (b : Option ℕ) → BoundFits b → Eight (bound_ticks b)
ticks_fit None f = lit< tt
ticks_fit (Some b) f = f

location_back : (l : Location) → AutomatonFits (automata.Location l) → location_in (automaton_marks (automata.Location l)) (automaton_rest (automata.Location l)) ≡ l
location_back l f =
    same_four (λ t p c b. record { first_transition = t; phase = p; sent = l.sent; committed = c; bound = b })
    (two_back l.first_transition f.0)
    (two_back l.phase f.1)
    (committed_back l.committed l.bound)
    (bound_back l.committed l.bound _ (eight_back (bound_ticks l.bound) (ticks_fit l.bound f.3)))

location_laid_back : (c : Bool) (b : Option ℕ) (t p s : ℕ) → location_laid (bit c 1 + bound_marks b) (automaton_rest (automata.Location (record { first_transition = t; phase = p; sent = s; committed = c; bound = b }))) ≡ true
location_laid_back true None t p s = refl
location_laid_back false None t p s = refl
location_laid_back true (Some b) t p s = refl
location_laid_back false (Some b) t p s = refl

-- a label, whatever stands around it
label_back : (x y : ℕ) (l : Label) (t : List ℕ) → label_in (x ∷ y ∷ label_byte l ∷ label_port l ∷ label_lowest l ∷ label_highest l ∷ t) ≡ l
label_back x y Silent t = refl
label_back x y (Hears p lo hi) t = refl
label_back x y (Sends p v) t = refl

label_laid_back : (x y : ℕ) (l : Label) (t : List ℕ) → label_laid (x ∷ y ∷ label_byte l ∷ label_port l ∷ label_lowest l ∷ label_highest l ∷ t) ≡ true
label_laid_back x y Silent t = refl
label_laid_back x y (Hears p lo hi) t = refl
label_laid_back x y (Sends p v) t = eq-eqb v v refl

reset_back : (r : Bool) → eqb (bit r 1) 1 ≡ r
reset_back true = refl
reset_back false = refl

reset_laid : (r : Bool) → leb (bit r 1) 1 ≡ true
reset_laid true = refl
reset_laid false = refl

transition_back : (t : Transition) → AutomatonFits (automata.Transition t) → transition_in (window_marks t.guard) (automaton_rest (automata.Transition t)) ≡ t
transition_back t f =
    let h : ℕ = high_or 0 t.guard.high in
    let fh : Eight h = high_fits Eight 0 (lit< tt) t.guard.high f.2.1 in
    let m = window_marks t.guard in
    same_four (λ g l r w. record { goal = g; label = l; resets = r; guard = w })
    (two_back t.goal f.0)
    (label_back 0 0 t.label [])
    (reset_back t.resets)
    (same_two (window m) (eight_back t.guard.low f.2.0) (eight_back h fh) ∙ window_back 0 t.guard)

transition_laid_back : (t : Transition) → transition_laid (window_marks t.guard) (automaton_rest (automata.Transition t)) ≡ true
transition_laid_back t =
    and_from _ _
    (window_laid_back 0 (λ h. zeros_in (replicate 16 0 ++ (eight_bytes (high_or 0 h) ++ replicate 4 0)) 20 28) refl t.guard)
    (and_from _ _ (label_laid_back 0 0 t.label []) (and_from _ _ (reset_laid t.resets) refl))

automaton_back : (n : ℕ) (b : AutomatonBody) → Two n → AutomatonFits b → decoded_automaton (encoded_automaton (record { next = n; body = b })) ≡ Some (record { next = n; body = b })
automaton_back n (automata.Automaton a) fn f = rw (two_back n fn, two_back a.first_location f.0, two_back a.opening f.1, four_back a.scale f.2)
automaton_back n (automata.Location l) fn f =
    read_as automata.Location _ n _ _ l (two_back n fn) (location_laid_back l.committed l.bound l.first_transition l.phase l.sent) (location_back l f)
automaton_back n (automata.Transition t) fn f = read_as automata.Transition _ n _ _ t (two_back n fn) (transition_laid_back t) (transition_back t f)
automaton_back n (automata.Path p) fn f = rw (two_back n fn)

pub automaton_reads_back : IsReadBack AutomatonFits decoded_automaton encoded_automaton
automaton_reads_back x f = automaton_back x.next x.body f.0 f.1
