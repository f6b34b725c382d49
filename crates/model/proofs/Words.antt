-- The words of a phase, by their places, and its moves.
use Rattle.std.proofs.Common.{◌≡◌, ℕ, suc, ◌+◌, ◌*◌, ◌<◌, ◌≤◌, Bool, true, false, cond, eqb, ltb, List, [], ◌∷◌, map, length, get_or, drop, Some, None, Option, sym, refl, ap, ◌∙◌, ap₂, arith}
use Rattle.std.specs.Bool.{then_some}
use Rattle.std.specs.Option.{is_some, option_map}
use Rattle.std.proofs.lemmas.List.{drop_more, drop_all}
use Rattle.std.proofs.lemmas.Bool.{ltb-true, ltb-false, lt-ltb}
use Rattle.book.specs.Chains.{chain_of}
use Rattle.book.specs.declared.record.Phase.{Phase as PhaseRecord}
use Rattle.fields.specs.Fields.{phase_at, is_endless}
use Rattle.semantics.specs.Trees.{Word}
use Rattle.semantics.specs.Books.{read_word}
use Rattle.semantics.specs.declared.state.Move.{Move}
use Rattle.semantics.specs.Machine.{move_to}
use Rattle.semantics.specs.Meanings.{stance_number, move_with}
use Rattle.places.specs.Firsts.{first_at}
use Rattle.places.proofs.Firsts.{first_place}
use Rattle.model.specs.Records.{words_at}

-- what a test lets through, worked on
mapped_when : {X Y : Type 0} (f : X → Y) (t : Bool) (x : X) → option_map f (then_some t x) ≡ then_some t (f x)
mapped_when f true x = refl
mapped_when f false x = refl

-- a phase that was read, and that lasts
pub lasts_read : (b : List ℕ) (k : ℕ) (p : PhaseRecord) → p ≡ phase_at b k → false ≡ is_endless p.lifetime → is_endless (phase_at b k).lifetime ≡ false
lasts_read b k p same lasts = sym (lasts ∙ ap (λ (x : PhaseRecord). is_endless x.lifetime) same)

module _ (b : List ℕ) (k : ℕ) where
  -- the word at a place
  abbrev pub told_at : ℕ → Option Word
  told_at n = then_some (ltb n (length (words_at b k))) (read_word b (get_or (words_at b k) n 0))

  pub word_told : (n : ℕ) (p : PhaseRecord) (found : Option ℕ) → p ≡ phase_at b k → false ≡ is_endless p.lifetime
      → found ≡ first_at (λ i _. eqb i n) 0 (chain_of b p.first_word) → option_map (read_word b) found ≡ told_at n
  word_told n p found same lasts e =
      let words : chain_of b p.first_word ≡ words_at b k =
      ap (λ (x : PhaseRecord). chain_of b x.first_word) same
      ∙ sym (ap (λ t. cond t [] (chain_of b (phase_at b k).first_word)) (lasts_read b k p same lasts)) in
      ap (option_map (read_word b)) (e ∙ ap (first_at (λ i _. eqb i n) 0) words ∙ first_place n 0 n (words_at b k) (omega arith))
      ∙ mapped_when (read_word b) (ltb n (length (words_at b k))) (get_or (words_at b k) n 0)

  -- the move with n words sent, by the word at n and whether there is one at n + 1
  module _ (i n next : ℕ) (w : Option Word) (here : w ≡ told_at n) where
    abbrev ws : List ℕ
    ws = words_at b k

    abbrev moved : List ℕ → Move
    moved l = move_with i n next (map (read_word b) l)

    more : is_some (told_at (n + 1)) ≡ ltb (n + 1) (length ws)
    more = go (ltb (n + 1) (length ws))
      where
        go : (t : Bool) → is_some (then_some t (read_word b (get_or ws (n + 1) 0))) ≡ t
        go true = refl
        go false = refl

    pub move_more : is_some (told_at (n + 1)) ≡ true → move_to w (4 * i + n + 1) ≡ moved (drop n ws)
    move_more e =
        let l : n + 1 < length ws = ltb-true (n + 1) (length ws) (sym more ∙ e) in
        let h : n < length ws = omega arith in
        let is : w ≡ Some (read_word b (get_or ws n 0)) = here ∙ ap (λ t. then_some t (read_word b (get_or ws n 0))) (lt-ltb n (length ws) h) in
        let split : drop n ws ≡ get_or ws n 0 ∷ get_or ws (n + 1) 0 ∷ drop (n + 1 + 1) ws = drop_more ws n 0 h ∙ ap (λ r. get_or ws n 0 ∷ r) (drop_more ws (n + 1) 0 l) in
        let number : 4 * i + n + 1 ≡ 4 * i + suc n = omega arith in
        ap₂ move_to is number ∙ sym (ap moved split)

    pub move_last : (m : ℕ) → m ≡ stance_number next 0 → is_some (told_at (n + 1)) ≡ false → move_to w m ≡ moved (drop n ws)
    move_last m number e = go (ltb n (length ws)) refl
      where
        past : length ws ≤ n + 1
        past = ltb-false (n + 1) (length ws) (sym more ∙ e)

        go : (t : Bool) → ltb n (length ws) ≡ t → move_to w m ≡ moved (drop n ws)
        go true h =
            let l : n < length ws = ltb-true n (length ws) h in
            let is : w ≡ Some (read_word b (get_or ws n 0)) = here ∙ ap (λ t. then_some t (read_word b (get_or ws n 0))) h in
            let split : drop n ws ≡ get_or ws n 0 ∷ [] = drop_more ws n 0 l ∙ ap (λ r. get_or ws n 0 ∷ r) (drop_all (n + 1) ws past) in
            ap₂ move_to is number ∙ sym (ap moved split)
        go false h =
            let l : length ws ≤ n = ltb-false n (length ws) h in
            let is : w ≡ None = here ∙ ap (λ t. then_some t (read_word b (get_or ws n 0))) h in
            ap₂ move_to is number ∙ sym (ap moved (drop_all n ws l))
