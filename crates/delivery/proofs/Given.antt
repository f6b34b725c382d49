-- What is asked for, with a refusal where there is none.
use Rattle.std.proofs.Common.{◌≡◌, Some, None, Ok, Err, Option, refl}
use Rattle.std.specs.Option.{ok_or}

pub given : {A E : Type 0} (o : Option A) (e : E) (x : A) → Ok x ≡ ok_or o e → Some x ≡ o
given (Some y) e x h = cc
given None e x h = absurd (cc)

pub not_given : {A E : Type 0} (o : Option A) (e r : E) → Err r ≡ ok_or o e → (None ≡ o) × (r ≡ e)
not_given (Some y) e r h = absurd (cc)
not_given None e r h = (refl, cc)
