-- Numbers in decimal among other bytes: where one ends, and which one it is.
use Rattle.std.proofs.Common.{◌≡◌, ℕ, ◌+◌, ◌^◌, ◌<◌, ◌≤◌, ◌⊎◌, List, [], ◌∷◌, ◌++◌, length, get_or, take, drop, Ok, Err, Some, None, IsUtf8, decimal, Option, Result, sym, refl, ap, ◌∙◌, subst, ⊎_elim, arith, append_assoc, append-nil, length-append, MatchOption}
use Rattle.std.specs.Result.{result_ok, OkIff}
use Rattle.std.specs.Str.Parse.{ParsesUnsigned, digits_value}
use Rattle.std.specs.Int.{IsInRange}
use Rattle.std.proofs.lemmas.Fmt.{decimal_digit, decimal_nonempty, decimal_injective, decimal-digits_value, digits_decimal, digits_value-decimal, first_decimal, IsAscii-from_digits}
use Rattle.std.proofs.lemmas.List.{get_or_append_left, get_or-append-add, take_at, drop_at}
use Rattle.std.proofs.lemmas.Str.Parse.{IsNumeralModel, numerals_by_value, tells_by_index, parse_digits}
use Rattle.std.proofs.lemmas.Bool.{cases_order, cases_lt}
use Rattle.std.proofs.lemmas.Str.{IsUtf8-from_ascii}
use Rattle.std.proofs.lemmas.Option.{none-some, same_Some}
use Rattle.lines.specs.Lines.{ended}
use Rattle.lines.specs.Numbers.{Ends, Wide, Are}

-- each byte is a digit
abbrev pub AllDigits : List ℕ → Type 0
AllDigits ds = (k : ℕ) → k < length ds → IsInRange 48 57 (get_or ds k 0)

pub own : IsNumeralModel AllDigits (digits_value 10)
own = numerals_by_value AllDigits tells_by_index

pub decimal_digits : (n : ℕ) → n < 2 ^ 64 → AllDigits (decimal n)
decimal_digits n h = digits_decimal own n h

pub digits_utf8 : (ds : List ℕ) → AllDigits ds → IsUtf8 ds
digits_utf8 ds h = IsUtf8-from_ascii ds (IsAscii-from_digits ds (own.to ds h))

-- a zero in front of other digits is in no number
pub no_zero_first : (ds : List ℕ) → 1 < length ds → get_or ds 0 0 ≡ 48 → (n : ℕ) → n < 2 ^ 64 → ds ≡ decimal n → ⊥
no_zero_first ds long zero n fits e =
    ⊎_elim
    (λ (pos : 0 < n). let f = first_decimal n pos fits in omega (arith, ap (λ l. get_or l 0 0) e))
    (λ (none : n ≤ 0). omega (arith, ap length (e ∙ decimal_digit n (omega arith))))
    (cases_lt 0 n)

-- what is read of digits, without a zero in front of others
pub reads : {E : Type 0} (ds : List ℕ) (r : Result ℕ E) → ParsesUnsigned 64 10 ds r → AllDigits ds → (get_or ds 0 0 ≡ 48 → length ds ≤ 1) →
    MatchOption (result_ok r) ((n : ℕ) → n < 2 ^ 64 → ds ≡ decimal n → ⊥) (λ n. (n < 2 ^ 64) × (ds ≡ decimal n))
reads {E} ds r h all one = go r (parse_digits own 64 ds r h all)
  where
    go : (r : Result ℕ E) → OkIff r ((0 < length ds) × (digits_value 10 ds < 2 ^ 64)) (digits_value 10 ds) → MatchOption (result_ok r) ((n : ℕ) → n < 2 ^ 64 → ds ≡ decimal n → ⊥) (λ n. (n < 2 ^ 64) × (ds ≡ decimal n))
    go (Ok x) (p, e) = (omega (arith, p.1), sym (ap decimal e ∙ decimal-digits_value own ds all p.0 (λ z. let o = one z in omega (arith, p.0)) p.1))
    go (Err x) never = λ n fits e. never (subst (λ (l : List ℕ). 0 < length l) (sym e) (decimal_nonempty n fits), omega (arith, ap (digits_value 10) e, digits_value-decimal own n fits))

module _ (ds rest l : List ℕ) (all : AllDigits ds) (ends : Ends rest) (e : l ≡ ds ++ rest) where
  -- the digits that stand first, up to what is no digit, are just these
  pub front_is : (count : ℕ) → ((k : ℕ) → k < count → IsInRange 48 57 (get_or l k 0)) → (IsInRange 48 57 (get_or l count 0) → ⊥) → (take count l ≡ ds) × (drop count l ≡ rest)
  front_is count digits stops =
      ⊎_elim
      (λ (same : count ≡ length ds). (ap (take count) e ∙ take_at ds rest count (sym same), ap (drop count) e ∙ drop_at ds rest count (sym same)))
      (λ (apart : (count < length ds) ⊎ (length ds < count)).
      ⊎_elim
      (λ (less : count < length ds). absurd (stops (subst (IsInRange 48 57) (sym (ap (λ s. get_or s count 0) e ∙ get_or_append_left ds rest 0 count less)) (all count less))))
      (λ (more : length ds < count). absurd (ends (subst (IsInRange 48 57) (ap (λ s. get_or s (length ds) 0) e ∙ at_rest) (digits (length ds) more))))
      apart)
      (cases_order count (length ds))
    where
      at_rest : get_or (ds ++ rest) (length ds) 0 ≡ get_or rest 0 0
      at_rest = let z : length ds + 0 ≡ length ds = omega arith in ap (λ k. get_or (ds ++ rest) k 0) (sym z) ∙ get_or-append-add ds rest 0 0

-- the first `count` bytes behind the space are digits, and no more of them
module _ (bytes l : List ℕ) (space count : ℕ) (whole : bytes ≡ space ∷ l) (digits : (k : ℕ) → k < count → IsInRange 48 57 (get_or l k 0)) (stops : IsInRange 48 57 (get_or l count 0) → ⊥) where
  pub no_number : ((n : ℕ) → n < 2 ^ 64 → take count l ≡ decimal n → ⊥) → (n : ℕ) (rest : List ℕ) → n < 2 ^ 64 → Ends rest → bytes ≡ 32 ∷ (decimal n ++ rest) → ⊥
  no_number none n rest fits ends e =
      let f : l ≡ decimal n ++ rest = cc in
      none n fits (front_is (decimal n) rest l (decimal_digits n fits) ends f count digits stops).0

-- after a number and what ends it nothing else can have been meant
pub same_number : (m n : ℕ) (r s : List ℕ) → m < 2 ^ 64 → n < 2 ^ 64 → Ends r → Ends s → decimal m ++ r ≡ decimal n ++ s → (m ≡ n) × (r ≡ s)
same_number m n r s fits fits' ends ends' e =
    let l = decimal m ++ r in
    let k = length (decimal m) in
    let digits : (i : ℕ) → i < k → IsInRange 48 57 (get_or l i 0) = λ i h. subst (IsInRange 48 57) (sym (get_or_append_left (decimal m) r 0 i h)) (decimal_digits m fits i h) in
    let zero : k + 0 ≡ k = omega arith in
    let at-end : get_or l k 0 ≡ get_or r 0 0 = ap (λ i. get_or l i 0) (sym zero) ∙ get_or-append-add (decimal m) r 0 0 in
    let f = front_is (decimal n) s l (decimal_digits n fits') ends' e k digits (λ h. ends (subst (IsInRange 48 57) at-end h)) in (
      decimal_injective m n fits fits' (sym (take_at (decimal m) r k refl) ∙ f.0),
      sym (drop_at (decimal m) r k refl) ∙ f.1,
    )

-- a line's numbers are followed by a space or the line feed
pub ends_ended : (ns : List ℕ) → Ends (ended ns)
ends_ended [] h = omega (arith, h.0)
ends_ended (n ∷ ns) h = omega (arith, h.0)

-- a number was read, and the line goes on with it
module _ (bytes rest : List ℕ) (m : ℕ) (read : (m < 2 ^ 64) × Ends rest × (bytes ≡ 32 ∷ (decimal m ++ rest))) where
  pub goes_on : (n : ℕ) (ns : List ℕ) → Are bytes (n ∷ ns) → (m ≡ n) × Are rest ns
  goes_on n ns are =
      let e : bytes ≡ 32 ∷ (decimal n ++ ended ns) = are.1 in
      let w : bytes ≡ 32 ∷ (decimal m ++ rest) = read.2 in
      let f : decimal m ++ rest ≡ decimal n ++ ended ns = cc in
      let s = same_number m n rest (ended ns) read.0 are.0.0 read.1 (ends_ended ns) f in
      (s.0, (are.0.1, s.1))

  pub joined : (ns : List ℕ) → Are rest ns → Are bytes (m ∷ ns)
  joined ns are = ((read.0, are.0), read.2 ∙ ap (λ l. 32 ∷ (decimal m ++ l)) are.1)

-- the numbers of a line are known by its bytes
pub same_ended : (ms ns : List ℕ) → Wide ms → Are (ended ms) ns → ms ≡ ns
same_ended [] [] p q = refl
same_ended [] (n ∷ ns) p q = absurd (let z : ◌≡◌ {A = ℕ} 10 32 = ap (λ l. get_or l 0 0) q.1 in omega arith)
same_ended (m ∷ ms) [] p q = absurd (let z : ◌≡◌ {A = ℕ} 32 10 = ap (λ l. get_or l 0 0) q.1 in omega arith)
same_ended (m ∷ ms) (n ∷ ns) p q =
    let g = goes_on (ended (m ∷ ms)) (ended ms) m (p.0, ends_ended ms, refl) n ns q in
    let f : m ≡ n = g.0 in
    let h : ms ≡ ns = same_ended ms ns p.1 g.1 in
    cc

-- the numbers ns were read from the bytes, and the rest is left
pub record IsRead (bytes rest ns : List ℕ) : Type 0 where
  pub back : (ms : List ℕ) → Are rest ms → Are bytes (ns ++ ms)
  pub only : (ms : List ℕ) → length ns ≤ length ms → Are bytes ms → (r : List ℕ) × (ms ≡ ns ++ r) × Are rest r

pub none_read : (bytes : List ℕ) → IsRead bytes bytes []
none_read bytes = record { back = λ ms are. are; only = λ ms h are. (ms, refl, are) }

module _ (bytes rest ns : List ℕ) (read : IsRead bytes rest ns) where
  pub next_read : (behind : List ℕ) (m : ℕ) → (m < 2 ^ 64) × Ends behind × (rest ≡ 32 ∷ (decimal m ++ behind)) → IsRead bytes behind (ns ++ m ∷ [])
  next_read behind m next =
      record {
        back = λ ms are. subst (Are bytes) (sym (append_assoc ns (m ∷ []) ms)) (read.back (m ∷ ms) (joined rest behind m next ms are));
        only = λ ms h are. let o = read.only ms (omega (arith, h, length-append ns (m ∷ []))) are in go ms o.0 h o.1 o.2;
      }
    where
      go : (ms r : List ℕ) → length (ns ++ m ∷ []) ≤ length ms → ms ≡ ns ++ r → Are rest r → (r : List ℕ) × (ms ≡ (ns ++ m ∷ []) ++ r) × Are behind r
      go ms [] h e are = absurd (omega (arith, h, ap length e, length-append ns [], length-append ns (m ∷ [])))
      go ms (n ∷ r) h e are =
          let g = goes_on rest behind m next n r are in
          (r, e ∙ ap (λ k. ns ++ k ∷ r) (sym g.0) ∙ sym (append_assoc ns (m ∷ []) r), g.1)

  -- a line with more numbers has a next one
  pub has_next : (ms : List ℕ) → length ns < length ms → Are bytes ms → ((n : ℕ) (r : List ℕ) → n < 2 ^ 64 → Ends r → rest ≡ 32 ∷ (decimal n ++ r) → ⊥) → ⊥
  has_next ms h are none = let o = read.only ms (omega arith) are in go o.0 o.1 o.2
    where
      go : (r : List ℕ) → ms ≡ ns ++ r → Are rest r → ⊥
      go [] e rests = omega (arith, h, ap length e, length-append ns [])
      go (n ∷ r) e rests = none n (ended r) rests.0.0 (ends_ended r) rests.1

  -- a line with no more numbers goes on with the line feed
  pub has_end : (ms : List ℕ) → length ms ≡ length ns → Are bytes ms → rest ≡ 10 ∷ []
  has_end ms h are = let o = read.only ms (omega arith) are in go o.0 o.1 o.2
    where
      go : (r : List ℕ) → ms ≡ ns ++ r → Are rest r → rest ≡ 10 ∷ []
      go [] e rests = rests.1
      go (n ∷ r) e rests = absurd (omega (arith, h, ap length e, length-append ns (n ∷ r)))

  pub all_read : rest ≡ 10 ∷ [] → Are bytes ns
  all_read e = subst (Are bytes) (append-nil ns) (read.back [] (tt, e))

pub same_numbers : (l ms ns : List ℕ) → Are l ms → Are l ns → ms ≡ ns
same_numbers l ms ns p q = same_ended ms ns p.0 (q.0, sym p.1 ∙ q.1)

-- a number in range is converted, and to itself
module _ {E : Type 0} (P : Type 0) (v : ℕ) where
  pub converts : (r : Result ℕ E) (o : Option ℕ) → OkIff r P v → o ≡ result_ok r → o ≡ None → P → ⊥
  converts (Ok x) o made e none fits = none-some x (sym none ∙ e)
  converts (Err x) o never e none fits = never fits

  pub converted : (r : Result ℕ E) (o : Option ℕ) (x : ℕ) → OkIff r P v → o ≡ result_ok r → o ≡ Some x → x ≡ v
  converted (Ok y) o x made e some = same_Some x y (sym some ∙ e) ∙ made.1
  converted (Err y) o x never e some = absurd (none-some x (sym e ∙ some))
