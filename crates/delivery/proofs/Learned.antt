-- What the answers of a machine tell of what is learned of it.
use Rattle.std.proofs.Common.{◌≡◌, ℕ, zero, suc, ◌*◌, ◌/◌, ◌<◌, ◌≤◌, Bool, true, false, cond, ◌&&◌, ltb, leb, [], ◌∷◌, length, Option, sym, refl, ap, ◌∙◌, mul-le-mul, le-div_iff_mul-le, arith}
use Rattle.std.specs.Bool.{then_some}
use Rattle.std.specs.Option.{option_flatten}
use Rattle.std.proofs.ByRecursion.{All-get_or}
use Rattle.std.proofs.lemmas.List.{get_or_past}
use Rattle.std.proofs.lemmas.Bool.{ltb-true, ltb-false, le-leb, and_from}
use Rattle.semantics.specs.Machine.{StationMeaning, Meaning, SoundStation, Sound, meaning_at, blank_meaning, blank_stance}
use Rattle.semantics.specs.Questions.{ask_hearing, parts_fit}
use Rattle.delivery.specs.Known.{only_known, learned}

-- past the end stands the blank, before and after
pub learned_at : (ms : Meaning) (i : ℕ) → meaning_at (learned ms) i ≡ only_known (meaning_at ms i)
learned_at [] i = refl
learned_at (m ∷ ms) zero = refl
learned_at (m ∷ ms) (suc i) = learned_at ms i

-- 1 to 1,000 parts per tick fit every scale
parts_are_few : (m : StationMeaning) → SoundStation m → (q : ℕ) → 1 ≤ q → q ≤ 1000 → parts_fit m q ≡ true
parts_are_few m sound q some few =
    let product : q * m.scale ≤ 1000 * 1000000 = mul-le-mul few sound.scale_fits in
    and_from (leb 1 q) _ (le-leb 1 q some) (le-leb q (1000000000 / m.scale) ((le-div_iff_mul-le sound.some_scale).1 (omega arith)))

pub heard_told : (ms : Meaning) → Sound ms → (i k s p v e q : ℕ) → k ≡ suc i → 1 ≤ q → q ≤ 1000 → (o : Option (Option ℕ)) → o ≡ ask_hearing ms k s p v e q →
    option_flatten o ≡ ((meaning_at (learned ms) i).stance s).hears p v e q
heard_told ms sound i k s p v e q z some few o is =
    ap option_flatten (is ∙ ap (λ j. ask_hearing ms j s p v e q) z) ∙ go (ltb i (length ms)) refl ∙ ap (λ m. (m.stance s).hears p v e q) (sym (learned_at ms i))
  where
    go : (b : Bool) → ltb i (length ms) ≡ b →
        option_flatten (then_some ((b && (meaning_at ms i).known s) && parts_fit (meaning_at ms i) q) (((meaning_at ms i).stance s).hears p v e q)) ≡ ((only_known (meaning_at ms i)).stance s).hears p v e q
    go true h =
        let l : i < length ms = ltb-true _ _ h in
        ap (λ b. option_flatten (then_some ((meaning_at ms i).known s && b) (((meaning_at ms i).stance s).hears p v e q)))
        (parts_are_few (meaning_at ms i) (All-get_or SoundStation ms i blank_meaning l sound.stations) q some few)
        ∙ known ((meaning_at ms i).known s)
      where
        known : (b : Bool) → option_flatten (then_some (b && true) (((meaning_at ms i).stance s).hears p v e q)) ≡ (cond b ((meaning_at ms i).stance s) blank_stance).hears p v e q
        known true = refl
        known false = refl
    go false h = ap (λ m. ((only_known m).stance s).hears p v e q) (sym (get_or_past ms i blank_meaning (ltb-false _ _ h)))
