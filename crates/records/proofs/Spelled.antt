-- The bytes of a record behind its next index, spelled field by field.
use Rattle.std.proofs.Common.{◌≡◌, ℕ, ◌+◌, ◌-◌, ◌*◌, ◌/◌, ◌%◌, ◌<◌, ◌≤◌, true, eqb, List, [], ◌∷◌, ◌++◌, length, take, drop, replicate, sym, refl, ap, ◌∙◌, append-nil, arith, length-drop}
use native.Mathlib.Nat.{div-div-eq-div-mul}
use Rattle.std.proofs.lemmas.List.{drop_more, drop_all, drop-drop, take-append-drop, length-take-le}
use Rattle.std.proofs.lemmas.Bool.{and_parts, eqb-true}
use Rattle.book.specs.Bytes.{at, two, four, eight, two_bytes, four_bytes, eight_bytes, all_zero, zeros}
use Rattle.records.specs.Fits.{Byte, Bytes}

-- the bytes of a number that is made of bytes
two_spelled : (a b : ℕ) → Byte a → Byte b → two_bytes (256 * a + b) ≡ a ∷ b ∷ []
two_spelled a b p q =
    let x : (256 * a + b) / 256 % 256 ≡ a = omega arith in
    let y : (256 * a + b) % 256 ≡ b = omega arith in
    ap (λ h. h ∷ ((256 * a + b) % 256) ∷ []) x ∙ ap (λ l. a ∷ l ∷ []) y

four_spelled : (a b c d : ℕ) → Byte a → Byte b → Byte c → Byte d → four_bytes (65536 * (256 * a + b) + (256 * c + d)) ≡ a ∷ b ∷ c ∷ d ∷ []
four_spelled a b c d pa pb pc pd =
    let n : ℕ = 65536 * (256 * a + b) + (256 * c + d) in
    let w : n / 16777216 % 256 ≡ a = omega arith in
    let x : n / 65536 % 256 ≡ b = omega arith in
    let y : n / 256 % 256 ≡ c = omega arith in
    let z : n % 256 ≡ d = omega arith in
    cc

eight_spelled : (h l : ℕ) → h < 4294967296 → l < 4294967296 → eight_bytes (4294967296 * h + l) ≡ four_bytes h ++ four_bytes l
eight_spelled h l ph pl =
    let n : ℕ = 4294967296 * h + l in
    let q : n / 4294967296 ≡ h = omega arith in
    let a : n / 72057594037927936 % 256 ≡ h / 16777216 % 256 = ap (λ x. x % 256) (sym (div-div-eq-div-mul n 4294967296 16777216) ∙ ap (λ x. x / 16777216) q) in
    let b : n / 281474976710656 % 256 ≡ h / 65536 % 256 = ap (λ x. x % 256) (sym (div-div-eq-div-mul n 4294967296 65536) ∙ ap (λ x. x / 65536) q) in
    let c : n / 1099511627776 % 256 ≡ h / 256 % 256 = ap (λ x. x % 256) (sym (div-div-eq-div-mul n 4294967296 256) ∙ ap (λ x. x / 256) q) in
    let d : n / 4294967296 % 256 ≡ h % 256 = ap (λ x. x % 256) q in
    let e : n / 16777216 % 256 ≡ l / 16777216 % 256 = omega arith in
    let f : n / 65536 % 256 ≡ l / 65536 % 256 = omega arith in
    let g : n / 256 % 256 ≡ l / 256 % 256 = omega arith in
    let k : n % 256 ≡ l % 256 = omega arith in
    cc

module _ (b : List ℕ) (bytes : Bytes b) where
  four_small : (i : ℕ) → four b i < 4294967296
  four_small i = omega (arith, bytes i, bytes (i + 1), bytes (i + 2), bytes (i + 3))

  -- one field more in front of what is spelled already
  pub byte_spelled : (i : ℕ) (t : List ℕ) → i < length b → t ≡ drop (i + 1) b → at b i ∷ t ≡ drop i b
  byte_spelled i t h e = ap (λ l. at b i ∷ l) e ∙ sym (drop_more b i 0 h)

  next_at : (i j : ℕ) (t : List ℕ) → i < length b → i + 1 ≡ j → t ≡ drop j b → at b i ∷ t ≡ drop i b
  next_at i j t h s e = byte_spelled i t h (e ∙ ap (λ k. drop k b) (sym s))

  pub two_field : (i : ℕ) (t : List ℕ) → i + 2 ≤ length b → t ≡ drop (i + 2) b → two_bytes (two b i) ++ t ≡ drop i b
  two_field i t h e =
      ap (λ l. l ++ t) (two_spelled (at b i) (at b (i + 1)) (bytes i) (bytes (i + 1)))
      ∙ next_at i (i + 1) (at b (i + 1) ∷ t) (omega arith) refl (next_at (i + 1) (i + 2) t (omega arith) (omega arith) e)

  pub four_field : (i : ℕ) (t : List ℕ) → i + 4 ≤ length b → t ≡ drop (i + 4) b → four_bytes (four b i) ++ t ≡ drop i b
  four_field i t h e =
      let s : i + 2 + 1 ≡ i + 3 = omega arith in
      ap (λ l. l ++ t) (four_spelled (at b i) (at b (i + 1)) (at b (i + 2)) (at b (i + 2 + 1)) (bytes i) (bytes (i + 1)) (bytes (i + 2)) (bytes (i + 2 + 1)))
      ∙ next_at i (i + 1) _ (omega arith) refl (next_at (i + 1) (i + 2) _ (omega arith) (omega arith)
      (next_at (i + 2) (i + 2 + 1) _ (omega arith) refl (next_at (i + 2 + 1) (i + 4) t (omega arith) (omega arith) e)))

  pub eight_field : (i : ℕ) (t : List ℕ) → i + 8 ≤ length b → t ≡ drop (i + 8) b → eight_bytes (eight b i) ++ t ≡ drop i b
  eight_field i t h e =
      let s : i + 4 + 4 ≡ i + 8 = omega arith in
      ap (λ l. l ++ t) (eight_spelled (four b i) (four b (i + 4)) (four_small i) (four_small (i + 4)))
      ∙ four_field i (four_bytes (four b (i + 4)) ++ t) (omega arith) (four_field (i + 4) t (omega arith) (e ∙ ap (λ k. drop k b) (sym s)))

  all_zero_is : (xs : List ℕ) → all_zero xs ≡ true → xs ≡ replicate (length xs) 0
  all_zero_is [] e = refl
  all_zero_is (x ∷ xs) e =
      let p = and_parts (eqb x 0) (all_zero xs) e in
      ap (λ y. y ∷ xs) (eqb-true x 0 p.0) ∙ ap (λ l. 0 ∷ l) (all_zero_is xs p.1)

  pub zero_field : (i k : ℕ) (t : List ℕ) → i + k ≤ length b → zeros b i (i + k) ≡ true → t ≡ drop (i + k) b → replicate k 0 ++ t ≡ drop i b
  zero_field i k t h z e =
      let w : i + k - i ≡ k = omega arith in
      let z' : all_zero (take k (drop i b)) ≡ true = ap (λ n. all_zero (take n (drop i b))) (sym w) ∙ z in
      let long : length (take k (drop i b)) ≡ k = length-take-le k (drop i b) (omega (arith, length-drop i b)) in
      let is : take k (drop i b) ≡ replicate k 0 = all_zero_is (take k (drop i b)) z' ∙ ap (λ n. replicate n 0) long in
      ap (λ l. l ++ t) (sym is) ∙ ap (λ l. take k (drop i b) ++ l) (e ∙ sym (drop-drop k i b)) ∙ take-append-drop k (drop i b)

  pub end_field : (i k : ℕ) → i + k ≡ length b → zeros b i (i + k) ≡ true → replicate k 0 ≡ drop i b
  end_field i k h z = sym (append-nil (replicate k 0)) ∙ zero_field i k [] (omega arith) z (sym (drop_all (i + k) b (omega arith)))
