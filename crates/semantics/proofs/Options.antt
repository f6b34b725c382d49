-- Some is not None, and holds one thing.
use Rattle.std.proofs.Common.{◌≡◌, ℕ, true, false, Some, None, arith}

pub some_not_none : {A : Type 0} (x : A) → Some x ≡ None → ⊥
some_not_none x e = let z : ◌≡◌ {A = ℕ} 0 1 = cc in omega arith

pub inner : {A : Type 0} {x y : A} → Some x ≡ Some y → x ≡ y
inner e = cc

pub true_not_false : true ≡ false → ⊥
true_not_false e = let z : ◌≡◌ {A = ℕ} 0 1 = cc in omega arith
