-- The order of times by cross products.
use Rattle.std.proofs.Common.{◌≡◌, ◌*◌, true, false, mul-le-mul_right, lt_of_mul-lt-mul_right, mul-lt-mul_of_pos_right, mul_right_comm, le_of_mul-le-mul_right, arith}
use Rattle.std.proofs.lemmas.Bool.Decides.{nat_tests}
use Rattle.semantics.specs.Times.{Fraction, Proper, before, at_most}
use Rattle.semantics.specs.Membership.{AtMost, Before}

module _ (a b c : Fraction) (pb : Proper b) where
  left : a.numerator * b.denominator * c.denominator ≡ a.numerator * c.denominator * b.denominator
  left = mul_right_comm a.numerator b.denominator c.denominator

  middle : b.numerator * a.denominator * c.denominator ≡ b.numerator * c.denominator * a.denominator
  middle = mul_right_comm b.numerator a.denominator c.denominator

  right : c.numerator * b.denominator * a.denominator ≡ c.numerator * a.denominator * b.denominator
  right = mul_right_comm c.numerator b.denominator a.denominator

  pub le_le : AtMost a b → AtMost b c → AtMost a c
  le_le p q =
      le_of_mul-le-mul_right {k = b.denominator}
      (omega (arith, left, middle, right, mul-le-mul_right c.denominator p, mul-le-mul_right a.denominator q)) pb

  pub le_lt : Proper a → AtMost a b → Before b c → Before a c
  le_lt pa p q =
      lt_of_mul-lt-mul_right b.denominator
      (omega (arith, left, middle, right, mul-le-mul_right c.denominator p, mul-lt-mul_of_pos_right {k = a.denominator} q pa))

  pub lt_le : Proper c → Before a b → AtMost b c → Before a c
  lt_le pc p q =
      lt_of_mul-lt-mul_right b.denominator
      (omega (arith, left, middle, right, mul-lt-mul_of_pos_right {k = c.denominator} p pc, mul-le-mul_right a.denominator q))

-- The same of the tests.
module _ (a b c : Fraction) (pa : Proper a) (pb : Proper b) (pc : Proper c) where
  pub at_most_at_most : at_most a b ≡ true → at_most b c ≡ true → at_most a c ≡ true
  at_most_at_most p q = let h = le_le a b c pb in grind (arith, nat_tests)

  pub at_most_before : at_most a b ≡ true → before b c ≡ true → before a c ≡ true
  at_most_before p q = let h = le_lt a b c pb pa in grind (arith, nat_tests)

  pub before_at_most : before a b ≡ true → at_most b c ≡ true → before a c ≡ true
  before_at_most p q = let h = lt_le a b c pb pc in grind (arith, nat_tests)

pub not_at_most : (a b : Fraction) → at_most a b ≡ false → before b a ≡ true
not_at_most a b p = grind (arith, nat_tests)

pub not_before : (a b : Fraction) → before a b ≡ false → at_most b a ≡ true
not_before a b p = grind (arith, nat_tests)

pub weaker : (a b : Fraction) → before a b ≡ true → at_most a b ≡ true
weaker a b p = grind (arith, nat_tests)
