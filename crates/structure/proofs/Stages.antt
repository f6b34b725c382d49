-- The stages of the check: what has passed, and what is left to refuse.
use Rattle.std.proofs.Common.{◌≡◌, ℕ, ◌<◌, ◌≤◌, Bool, true, false, List, Some, None, Ok, Err, Option, Result, sym, refl, ap, ◌∙◌, subst, ⊎_elim, arith}
use Rattle.std.proofs.lemmas.Bool.{both_ways, cases_lt}
use Rattle.std.specs.Option.{ok_or}
use Rattle.book.specs.Bytes.{at}
use Rattle.book.specs.Terms.{book_of_byte}
use Rattle.book.specs.declared.refusal.Fault.{Fault}
use Rattle.book.specs.declared.refusal.Fault.TheVariants.{Length, Head, Layout, Links}
use Rattle.book.specs.declared.refusal.Refusal.{Refusal}
use Rattle.book.specs.declared.term.BookKind.{BookKind}
use Rattle.structure.specs.Faults.{wrong_length, wrong_head}
use Rattle.structure.specs.Search.{first_of, Smallest, FoundOrNone}
use Rattle.structure.specs.Structure.{unless, at_0, laid_in, links_in, first_unlaid, first_ill_linked, structure_by, structure_in, structure_of}
use Rattle.structure.proofs.Searching.{search_finds_smallest}

pub no_error : {A B : Type 0} {e : Refusal} {x : B} → ◌≡◌ {A = Result B Refusal} (Err e) (Ok x) → A
no_error p = let z : ◌≡◌ {A = ℕ} 0 1 = cc in absurd (omega arith)

no_place : {A : Type 0} {p : ℕ} → ◌≡◌ {A = Option ℕ} (Some p) None → A
no_place p = let z : ◌≡◌ {A = ℕ} 0 1 = cc in absurd (omega arith)

-- what a byte tells, where it is a kind
pub kind_told : (told : Option BookKind) (kind : BookKind) → ok_or told Head ≡ Ok kind → Some kind ≡ told
kind_told None kind e = let z : ◌≡◌ {A = ℕ} 0 1 = cc in absurd (omega arith)
kind_told (Some k) kind e = cc

pub unless_ok : {A : Type 0} (found : Option ℕ) (f : Fault) (later : Result A Refusal) (x : A) → unless found f later ≡ Ok x → (found ≡ None) × (later ≡ Ok x)
unless_ok None f later x e = (refl, e)
unless_ok (Some p) f later x e = no_error e

pub at_0_none : (wrong : Bool) → at_0 wrong ≡ None → wrong ≡ false
at_0_none true e = no_place e
at_0_none false e = refl

-- where no place is found, the test fails at none
pub none_fails : (bad : ℕ → Bool) (n : ℕ) → first_of bad n ≡ None → (i : ℕ) → i ≤ n → bad i ≡ false
none_fails bad n e = subst (FoundOrNone bad n) e (search_finds_smallest bad n)

pub fails_none : (bad : ℕ → Bool) (n : ℕ) → ((i : ℕ) → i ≤ n → bad i ≡ false) → first_of bad n ≡ None
fails_none bad n each = go (first_of bad n) (search_finds_smallest bad n)
  where
    go : (found : Option ℕ) → FoundOrNone bad n found → found ≡ None
    go None f = refl
    go (Some p) f = absurd (both_ways (bad p) (each p f.within) f.fails)

-- where a place is the smallest at which the test is true, it is found
pub first_found : (bad : ℕ → Bool) (n i : ℕ) → Smallest bad n i → first_of bad n ≡ Some i
first_found bad n i s = go (first_of bad n) (search_finds_smallest bad n)
  where
    go : (found : Option ℕ) → FoundOrNone bad n found → found ≡ Some i
    go None f = absurd (both_ways (bad i) (f i s.within) s.fails)
    go (Some p) f =
        ⊎_elim
        (λ (less : p < i). absurd (both_ways (bad p) (s.first p less) f.fails))
        (λ (more : i ≤ p).
        ⊎_elim
        (λ (less : i < p). absurd (both_ways (bad i) (f.first i less) s.fails))
        (λ (again : p ≤ i). ap Some (omega arith))
        (cases_lt i p))
        (cases_lt p i)

-- what each stage has found of a book that passes
pub record Passed (b : List ℕ) (kind : BookKind) : Type 0 where
  pub length_right : wrong_length b ≡ false
  pub kind_known : book_of_byte (at b 0) ≡ Some kind
  pub head_right : wrong_head kind b ≡ false
  pub laid : first_unlaid (laid_in kind) b ≡ None
  pub linked : first_ill_linked (links_in kind) b ≡ None

pub passed : (b : List ℕ) (kind : BookKind) → structure_of b ≡ Ok kind → Passed b kind
passed b kind e =
    let one = unless_ok (at_0 (wrong_length b)) Length _ kind e in
    go (book_of_byte (at b 0)) refl (at_0_none (wrong_length b) one.0) one.1
  where
    go : (told : Option BookKind) → book_of_byte (at b 0) ≡ told → wrong_length b ≡ false → structure_in b told ≡ Ok kind → Passed b kind
    go None is long f = no_error f
    go (Some k) is long f =
        let two = unless_ok (at_0 (wrong_head k b)) Head _ kind f in
        let three = unless_ok (first_unlaid (laid_in k) b) Layout _ kind two.1 in
        let four = unless_ok (first_ill_linked (links_in k) b) Links _ kind three.1 in
        let same : k ≡ kind = cc four.1 in
        subst (Passed b) same (record { length_right = long; kind_known = is; head_right = at_0_none _ two.0; laid = three.0; linked = four.0 })

-- a stage that finds nothing
pub long_enough : (b : List ℕ) → wrong_length b ≡ false → structure_of b ≡ structure_in b (book_of_byte (at b 0))
long_enough b e = ap (λ t. unless (at_0 t) Length (structure_in b (book_of_byte (at b 0)))) e

pub passes : (b : List ℕ) (kind : BookKind) → Passed b kind → structure_of b ≡ Ok kind
passes b kind p =
    let linked : Result BookKind Refusal = unless (first_ill_linked (links_in kind) b) Links (Ok kind) in
    let laid : Result BookKind Refusal = unless (first_unlaid (laid_in kind) b) Layout linked in
    long_enough b p.length_right
    ∙ ap (structure_in b) p.kind_known
    ∙ ap (λ t. unless (at_0 t) Head laid) p.head_right
    ∙ ap (λ found. unless found Layout linked) p.laid
    ∙ ap (λ found. unless found Links (Ok kind)) p.linked

-- the length has passed, the kind is known, and the checks by that kind have answered
pub told_by : (b : List ℕ) (wrong : Bool) (found : Option ℕ) (byte : ℕ) (told kind : BookKind) (r : Result BookKind Refusal)
    → wrong ≡ wrong_length b → found ≡ at_0 wrong → Ok tt ≡ unless {A = Unit {0}} found Length (Ok tt)
    → byte ≡ at b 0 → Some told ≡ book_of_byte byte → told ≡ kind → r ≡ structure_by kind (laid_in kind) (links_in kind) b → r ≡ structure_of b
told_by b wrong found byte told kind r is place passed at_byte known same e =
    let none = (unless_ok {A = Unit {0}} found Length (Ok tt) tt (sym passed)).0 in
    let right = sym is ∙ at_0_none wrong (sym place ∙ none) in
    e ∙ sym (long_enough b right ∙ ap (λ x. structure_in b (book_of_byte x)) (sym at_byte) ∙ ap (structure_in b) (sym known) ∙ ap (λ k. structure_in b (Some k)) same)
