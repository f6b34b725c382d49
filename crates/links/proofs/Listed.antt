-- A walk that has answered a number has listed the chain.
use Rattle.std.proofs.Common.{◌≡◌, ℕ, Bool, true, false, cond, List, length, take, drop, Ok, Err, Result, sym, refl, arith}
use Rattle.std.proofs.lemmas.List.{take_at}
use Rattle.book.specs.Chains.{chain_of}
use Rattle.book.specs.Refusals.{refused}
use Rattle.book.specs.declared.refusal.Fault.TheVariants.{Room}
use Rattle.book.specs.declared.refusal.Refusal.{Refusal}
use Rattle.links.specs.Walks.{filled, short, walk_answer, walk_list}

pub no_ok : {A B : Type 0} {e : Refusal} {x : B} → ◌≡◌ {A = Result B Refusal} (Err e) (Ok x) → A
no_ok p = let z : ◌≡◌ {A = ℕ} 0 1 = cc in absurd (omega arith)

module _ (b : List ℕ) (first : ℕ) (slots : List ℕ) where
  abbrev all : List ℕ
  all = chain_of b first

  pub walk_listed : (count : ℕ) → Ok count ≡ walk_answer b first slots → (count ≡ length all) × (take count (walk_list b first slots) ≡ all)
  walk_listed count e = go (short b slots) refl e
    where
      go : (t : Bool) → short b slots ≡ t → Ok count ≡ cond t (Err (refused Room 0)) (Ok (length all)) → (count ≡ length all) × (take count (cond t slots (filled all slots)) ≡ all)
      go true _ f = no_ok (sym f)
      go false _ f = let same : count ≡ length all = cc f in (same, take_at all (drop (length all) slots) count (sym same))

  -- and so the list had room
  pub walk_had_room : (count : ℕ) → Ok count ≡ walk_answer b first slots → short b slots ≡ false
  walk_had_room count e = go (short b slots) refl e
    where
      go : (t : Bool) → short b slots ≡ t → Ok count ≡ cond t (Err (refused Room 0)) (Ok (length all)) → short b slots ≡ false
      go true _ f = no_ok (sym f)
      go false same _ = same
