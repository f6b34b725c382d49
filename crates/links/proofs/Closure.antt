-- The records that are met are those that are reached, and no set with the head that is closed under naming lacks one.
use Rattle.std.proofs.Common.{◌≡◌, ℕ, zero, suc, ◌+◌, ◌<◌, ◌≤◌, Bool, true, false, cond, ◌||◌, eqb, ltb, List, [], ◌∷◌, ◌++◌, length, get_or, sym, refl, ap, ◌∙◌, subst, inl, inr, ⊎_elim, append_assoc, append-nil, arith}
use Rattle.std.specs.List.{AllByRecursion}
use Rattle.std.proofs.lemmas.List.{get_or_append_left}
use Rattle.std.proofs.ByRecursion.{All-push, All-get_or}
use Rattle.std.proofs.lemmas.Bool.{or_parts, or_cases, or_right, eqb-false, eq-eqb, ne_eqb, le-ltb, ltb-false, both_ways, cases_eq, cases_lt}
use Rattle.links.specs.declared.link.Link.{Link}
use Rattle.links.specs.Naming.{member, met, met_all, spread, reached}
use Rattle.links.specs.Queues.{Apart}
use Rattle.links.specs.Reached.{Names, Reached, head, named, Closed, ReachIsLeast}
use Rattle.links.proofs.Members.{member_push, member_front, place, apart_push, apart_head, apart_few}
use Rattle.links.proofs.Meeting.{spread_done, spread_more}

-- t is s and more
Extends : List ℕ → List ℕ → Type 0
Extends s t = (more : List ℕ) × (t ≡ s ++ more)

extends_self : (s : List ℕ) → Extends s s
unfolding Extends
extends_self s = ([], sym (append-nil s))

extends_both : (s t u : List ℕ) → Extends s t → Extends t u → Extends s u
unfolding Extends
extends_both s t u a b = (a.0 ++ b.0, b.1 ∙ ap (λ l. l ++ b.0) a.1 ∙ append_assoc s a.0 b.0)

keeps : (x : ℕ) (s t : List ℕ) → Extends s t → member x s ≡ true → member x t ≡ true
unfolding Extends
keeps x s t a e = subst (λ l. member x l ≡ true) (sym a.1) (member_front x s a.0 e)

stays : (s t : List ℕ) (q : ℕ) → Extends s t → q < length s → get_or t q 0 ≡ get_or s q 0
unfolding Extends
stays s t q a h = ap (λ l. get_or l q 0) a.1 ∙ get_or_append_left s a.0 0 q h

-- a record is passed over that is 0, past n, or met already; any other is met
module _ (n : ℕ) (s : List ℕ) (x : ℕ) where
  abbrev over : Bool
  over = eqb x 0 || (ltb n x || member x s)

  met_cases : (P : List ℕ → Type 0) → (over ≡ true → P s) → (1 ≤ x → x ≤ n → member x s ≡ false → P (s ++ x ∷ [])) → P (met n s x)
  met_cases P old new = go over refl
    where
      go : (t : Bool) → over ≡ t → P (cond t s (s ++ x ∷ []))
      go true e = old e
      go false e =
          let p = or_parts (eqb x 0) (ltb n x || member x s) e in
          let q = or_parts (ltb n x) (member x s) p.1 in
          let some = eqb-false x 0 p.0 in
          new (omega arith) (ltb-false n x q.0) q.1

  met_extends : Extends s (met n s x)
  unfolding Extends
  met_extends = met_cases (λ l. Extends s l) (λ _. extends_self s) (λ _ _ _. (x ∷ [], refl))

  met_has : 1 ≤ x → x ≤ n → member x (met n s x) ≡ true
  met_has low high =
      met_cases (λ l. member x l ≡ true)
      (λ e. ⊎_elim (λ h. absurd (both_ways _ (ne_eqb x 0 (λ z. absurd (omega arith))) h)) (λ h. ⊎_elim (λ g. absurd (both_ways _ (le-ltb n x high) g)) (λ g. g) (or_cases (ltb n x) (member x s) h)) (or_cases (eqb x 0) _ e))
      (λ _ _ _. member_push x s x ∙ or_right (member x s) _ (eq-eqb x x refl))

  met_apart : Apart n s → Apart n (met n s x)
  met_apart a = met_cases (Apart n) (λ _. a) (λ _ high new. apart_push n s x a high new)

module _ (n : ℕ) where
  all_extends : (ls : List Link) (s : List ℕ) → Extends s (met_all n s ls)
  all_extends [] s = extends_self s
  all_extends (l ∷ ls) s = extends_both s _ _ (met_extends n s l.to) (all_extends ls (met n s l.to))

  all_has : (ls : List Link) (s : List ℕ) (j : ℕ) → Names ls j → 1 ≤ j → j ≤ n → member j (met_all n s ls) ≡ true
  all_has [] s j e low high = absurd e
  all_has (l ∷ ls) s j e low high =
      ⊎_elim
      (λ (same : l.to ≡ j). keeps j (met n s l.to) _ (all_extends ls (met n s l.to)) (subst (λ x. member j (met n s x) ≡ true) (sym same) (met_has n s j low high)))
      (λ (h : Names ls j). all_has ls (met n s l.to) j h low high)
      e

  all_apart : (ls : List Link) (s : List ℕ) → Apart n s → Apart n (met_all n s ls)
  all_apart [] s a = a
  all_apart (l ∷ ls) s a = all_apart ls (met n s l.to) (met_apart n s l.to a)

module _ (links : ℕ → List Link) (n : ℕ) where
  -- the records at the first p places name only records that are met
  abbrev Looked : ℕ → List ℕ → Type 0
  Looked p s = (q : ℕ) → q < p → q < length s → (j : ℕ) → Names (links (get_or s q 0)) j → 1 ≤ j → j ≤ n → member j s ≡ true

  closes : (k p : ℕ) (s : List ℕ) → k + p ≡ n + 1 → Apart n s → Looked p s → (t : List ℕ) × Extends s t × (t ≡ spread links n k p s) × Looked (length t) t
  closes zero p s e a c = (s, extends_self s, refl, λ q h _. c q (omega (arith, apart_few n s a)) h)
  closes (suc k) p s e a c =
      ⊎_elim {C = (t : List ℕ) × Extends s t × (t ≡ spread links n (suc k) p s) × Looked (length t) t}
      (λ (inside : p < length s).
      let x = get_or s p 0 in
      let m = met_all n s (links x) in
      let grows = all_extends n (links x) s in
      let rest = closes k (p + 1) m (omega arith) (all_apart n (links x) s a) (λ q h within j names low high. ⊎_elim
      (λ (same : q ≡ p). all_has n (links x) s j (subst (λ y. Names (links y) j) (stays s m q grows (omega arith) ∙ ap (λ i. get_or s i 0) same) names) low high)
      (λ (ne : q ≡ p → ⊥). keeps j s m grows (c q (omega arith) (omega arith) j (subst (λ y. Names (links y) j) (stays s m q grows (omega arith)) names) low high))
      (cases_eq q p)) in
      (rest.0, extends_both s m rest.0 grows rest.1, rest.2 ∙ sym (spread_more links n k p s inside), rest.3))
      (λ (outside : length s ≤ p). (s, extends_self s, sym (spread_done links n (suc k) p s outside), λ q h _. c q (omega arith) h))
      (cases_lt p (length s))

  closed : Closed links n (λ k. member k (reached links n))
  closed =
      let all = closes (n + 1) 0 (0 ∷ []) (omega arith) (apart_head n) (λ q h. absurd (omega arith)) in
      let t = all.0 in
      subst (λ l. Closed links n (λ k. member k l)) all.2 (record {
        head_in = keeps 0 (0 ∷ []) t all.1 refl;
        named_in = λ i j has names low high. let p = place i t has in all.3 p.0 p.1 p.1 j (subst (λ y. Names (links y) j) (sym p.2) names) low high;
      })

  -- a closed set has each record that is reached
  reached_in : (has : ℕ → Bool) → Closed links n has → (i : ℕ) → Reached links n i → has i ≡ true
  reached_in has c i head = c.head_in
  reached_in has c i (named {i = h} r names low high) = c.named_in h i (reached_in has c h r) names low high

  all_sound : (ls : List Link) (s : List ℕ) → AllByRecursion (Reached links n) s → ((j : ℕ) → Names ls j → 1 ≤ j → j ≤ n → Reached links n j) → AllByRecursion (Reached links n) (met_all n s ls)
  all_sound [] s a r = a
  all_sound (l ∷ ls) s a r =
      all_sound ls (met n s l.to)
      (met_cases n s l.to (AllByRecursion (Reached links n)) (λ _. a) (λ low high _. All-push (Reached links n) s l.to a (r l.to (inl refl) low high)))
      (λ j names. r j (inr names))

  spread_sound : (k p : ℕ) (s : List ℕ) → AllByRecursion (Reached links n) s → AllByRecursion (Reached links n) (spread links n k p s)
  spread_sound zero p s a = a
  spread_sound (suc k) p s a =
      ⊎_elim
      (λ (inside : p < length s).
      subst (AllByRecursion (Reached links n)) (sym (spread_more links n k p s inside))
      (spread_sound k (p + 1) _ (all_sound (links (get_or s p 0)) s a (λ j names low high. named (All-get_or (Reached links n) s p 0 inside a) names low high))))
      (λ (outside : length s ≤ p). subst (AllByRecursion (Reached links n)) (sym (spread_done links n (suc k) p s outside)) a)
      (cases_lt p (length s))

  sound : (i : ℕ) → member i (reached links n) ≡ true → Reached links n i
  sound i e =
      let all = spread_sound (n + 1) 0 (0 ∷ []) (head, tt) in
      let p = place i (reached links n) e in
      subst (Reached links n) p.2 (All-get_or (Reached links n) (reached links n) p.0 0 p.1 all)

pub reach_is_least : ReachIsLeast
reach_is_least links n = record {
  lists = λ k. (sound links n k, reached_in links n (λ i. member i (reached links n)) (closed links n) k);
  closed = closed links n;
  least = λ has c k e. reached_in links n has c k (sound links n k e);
}
