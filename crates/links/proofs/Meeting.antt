-- One turn of the search for what is reached: the queue and its marks.
use Rattle.std.proofs.Common.{◌≡◌, ℕ, zero, suc, ◌+◌, ◌-◌, ◌<◌, ◌≤◌, Bool, true, false, cond, ◌||◌, eqb, leb, List, [], ◌∷◌, ◌++◌, length, get_or, take, drop, set, replicate, Ok, Err, Result, sym, refl, ap, ◌∙◌, subst, ⊎_elim, arith, length-set}
use Rattle.std.proofs.lemmas.List.FromFn.{fill_by_all, length-map-range_with_len}
use Rattle.std.proofs.lemmas.List.{get_or-set_same, get_or-set_other, get_or_append_left, get_or-replicate, get_or-take, take_more_set, take-append-drop, drop-set-lt, drop-drop, drop_at, length-take-le, length-append, length-drop, length-replicate}
use Rattle.std.proofs.lemmas.Bool.{cases_eq, eq-eqb, ne_eqb, le-ltb, lt-ltb, lt-leb, or_from, or_right}
use Rattle.book.specs.declared.refusal.Refusal.{Refusal}
use Rattle.book.specs.declared.refusal.Fault.TheVariants.{Room}
use Rattle.book.specs.Refusals.{refused}
use Rattle.book.specs.Chains.{whole_records}
use Rattle.links.specs.declared.link.Link.{Link}
use Rattle.links.specs.Fields.{links_of}
use Rattle.links.specs.Naming.{member, met, met_all, spread, reached}
use Rattle.links.specs.Naming.{marks as marks_of}
use Rattle.links.specs.Walks.{filled}
use Rattle.links.specs.Reaches.{reached_in, reach_answer, reach_list, reach_marks}
use Rattle.links.specs.Queues.{Apart, Queue, Grown}
use Rattle.links.proofs.Counting.{one_less}
use Rattle.links.proofs.Members.{or_none, member_push, apart_push, apart_room, apart_few, apart_head}

-- what lies behind more slots is as it was, too
pub drop_further : {X : Type 0} (m r : ℕ) (xs ys : List X) → m ≤ r → drop m xs ≡ drop m ys → drop r xs ≡ drop r ys
drop_further m r xs ys h e =
    let far : m + (r - m) ≡ r = omega arith in
    subst (λ k. drop k xs ≡ drop k ys) far (sym (drop-drop (r - m) m xs) ∙ ap (drop (r - m)) e ∙ drop-drop (r - m) m ys)

pub met_new : (n : ℕ) (seen : List ℕ) (x : ℕ) → (x ≡ 0 → ⊥) → x ≤ n → member x seen ≡ false → met n seen x ≡ seen ++ x ∷ []
met_new n seen x some low new = ap (λ t. cond t seen (seen ++ x ∷ [])) (or_from _ _ (ne_eqb x 0 some) (or_from _ _ (le-ltb n x low) new))

module _ (n count : ℕ) (list : List ℕ) (marks : List Bool) (q : Queue n count list marks) where
  pub queue_few : count ≤ n + 1
  queue_few = omega (arith, length-take-le count list q.within, apart_few n (take count list) q.apart)

  pub queue_room : (x : ℕ) → x ≤ n → get_or marks x false ≡ false → count < length list
  queue_room x low new =
      let few = apart_room n (take count list) x q.apart low (sym (q.marked x low) ∙ new) in
      omega (arith, few, length-take-le count list q.within, q.room)

  pub grown_same : Grown n count list marks (take count list) count list marks
  grown_same = record { grows = omega arith; slots = refl; queue = q; later = refl; marks_later = refl }

  marked_push : (x : ℕ) → x ≤ n → (k : ℕ) → k ≤ n → get_or (set marks x true) k false ≡ member k (take count list ++ x ∷ [])
  marked_push x low k h =
      let seen = take count list in
      ⊎_elim
      (λ (same : k ≡ x).
      subst (λ j. get_or (set marks x true) j false ≡ member j (seen ++ x ∷ [])) (sym same)
      (get_or-set_same marks x true false (omega (arith, q.marks_room)) ∙ sym (member_push x seen x ∙ or_right (member x seen) _ (eq-eqb x x refl))))
      (λ (other : k ≡ x → ⊥).
      get_or-set_other marks x k true false other
      ∙ q.marked k h
      ∙ sym (member_push k seen x ∙ ap (λ t. member k seen || t) (ne_eqb x k (λ e. other (sym e))) ∙ or_none (member k seen)))
      (cases_eq k x)

  pub queue_push : (x : ℕ) → x ≤ n → get_or marks x false ≡ false → Queue n (count + 1) (set list count x) (set marks x true)
  queue_push x low new =
      let seen = take count list in
      let fits = queue_room x low new in
      let slots : take (count + 1) (set list count x) ≡ seen ++ x ∷ [] = take_more_set list count x fits in
      record {
        within = omega (arith, fits, length-set list count x);
        room = omega (arith, q.room, length-set list count x);
        marks_room = omega (arith, q.marks_room, length-set marks x true);
        apart = subst (Apart n) (sym slots) (apart_push n seen x q.apart low (sym (q.marked x low) ∙ new));
        marked = λ k h. marked_push x low k h ∙ ap (member k) (sym slots);
      }

  pub grown_new : (x : ℕ) → (x ≡ 0 → ⊥) → x ≤ n → get_or marks x false ≡ false → Grown n count list marks (met n (take count list) x) (count + 1) (set list count x) (set marks x true)
  grown_new x some low new =
      let seen = take count list in
      record {
        grows = omega arith;
        slots = take_more_set list count x (queue_room x low new) ∙ sym (met_new n seen x some low (sym (q.marked x low) ∙ new));
        queue = queue_push x low new;
        later = drop-set-lt (count + 1) list count x (omega arith);
        marks_later = drop-set-lt (n + 1) marks x true (omega arith);
      }

-- the same, where a place of the marks goes by another name
pub grown_at : (n count : ℕ) (list : List ℕ) (marks : List Bool) → Queue n count list marks → (x k : ℕ) → k ≡ x → (k ≡ 0 → ⊥) → k ≤ n → get_or marks k false ≡ false → Grown n count list marks (met n (take count list) x) (count + 1) (set list count x) (set marks k true)
grown_at n count list marks q x k same some low new =
    subst (λ y. Grown n count list marks (met n (take count list) y) (count + 1) (set list count y) (set marks k true)) same (grown_new n count list marks q k some low new)

-- and where what it holds goes by another name
pub grown_is : {n count : ℕ} {list : List ℕ} {marks : List Bool} {seen : List ℕ} {more : ℕ} {list' : List ℕ} {marks' : List Bool} {seen' : List ℕ}
    → Grown n count list marks seen more list' marks' → seen ≡ seen' → Grown n count list marks seen' more list' marks'
grown_is g e = record { grows = g.grows; slots = g.slots ∙ e; queue = g.queue; later = g.later; marks_later = g.marks_later }

-- growing twice
pub grown_twice : (n a : ℕ) (list : List ℕ) (marks : List Bool) (seen : List ℕ) (b : ℕ) (list' : List ℕ) (marks' : List Bool) (seen' : List ℕ) (c : ℕ) (list'' : List ℕ) (marks'' : List Bool)
    → Grown n a list marks seen b list' marks' → Grown n b list' marks' seen' c list'' marks'' → Grown n a list marks seen' c list'' marks''
grown_twice n a list marks seen b list' marks' seen' c list'' marks'' one two =
    record {
      grows = omega (arith, one.grows, two.grows);
      slots = two.slots;
      queue = two.queue;
      later = two.later ∙ drop_further b c list' list two.grows one.later;
      marks_later = two.marks_later ∙ one.marks_later;
    }

-- what is looked at in the search, before the record at place p is: `old` and `old-marks` are the lists before it
pub record Reaching (links : ℕ → List Link) (n : ℕ) (old : List ℕ) (old-marks : List Bool) (p count : ℕ) (list : List ℕ) (marks : List Bool) : Type 0 where
  pub some : 0 < count
  pub queue : Queue n count list marks
  pub spreads : spread links n (n + 1 - p) p (take count list) ≡ reached links n
  pub later : drop count list ≡ drop count old
  pub marks_later : drop (n + 1) marks ≡ drop (n + 1) old-marks

module _ (links : ℕ → List Link) (n : ℕ) where
  pub spread_done : (k p : ℕ) (seen : List ℕ) → length seen ≤ p → spread links n k p seen ≡ seen
  spread_done zero p seen h = refl
  spread_done (suc k) p seen h = ap (λ t. cond t (spread links n k (p + 1) (met_all n seen (links (get_or seen p 0)))) seen) (le-ltb p (length seen) h)

  pub spread_more : (k p : ℕ) (seen : List ℕ) → p < length seen → spread links n (suc k) p seen ≡ spread links n k (p + 1) (met_all n seen (links (get_or seen p 0)))
  spread_more k p seen h = ap (λ t. cond t (spread links n k (p + 1) (met_all n seen (links (get_or seen p 0)))) seen) (lt-ltb p (length seen) h)

-- the search begins with the head alone, in an unmarked list
module _ (links : ℕ → List Link) (n : ℕ) (old : List ℕ) (old-marks : List Bool) (room : n < length old) (marks_room : n < length old-marks) where
  abbrev list₀ : List ℕ
  list₀ = set old 0 0

  abbrev unmarked : List Bool
  unmarked = filled (replicate (n + 1) false) old-marks

  abbrev marks₀ : List Bool
  marks₀ = set unmarked 0 true

  first : take 1 list₀ ≡ 0 ∷ []
  first = take_more_set old 0 0 (omega arith)

  wide : length unmarked ≡ length old-marks
  wide =
      let clear : List Bool = replicate (n + 1) false in
      omega (arith, length-append clear (drop (length clear) old-marks), length-drop (length clear) old-marks, length-replicate (n + 1) false)

  marked_none : (k : ℕ) → k ≤ n → get_or marks₀ k false ≡ member k (take 1 list₀)
  marked_none k h =
      let clear : List Bool = replicate (n + 1) false in
      let long : length clear ≡ n + 1 = length-replicate (n + 1) false in
      ⊎_elim
      (λ (at_head : k ≡ 0).
      subst (λ j. get_or marks₀ j false ≡ member j (take 1 list₀)) (sym at_head)
      (get_or-set_same unmarked 0 true false (omega (arith, wide)) ∙ ap (member 0) (sym first)))
      (λ (other : k ≡ 0 → ⊥).
      get_or-set_other unmarked 0 k true false other
      ∙ get_or_append_left clear (drop (length clear) old-marks) false k (omega arith)
      ∙ get_or-replicate (n + 1) k false false (omega arith)
      ∙ sym (ap (member k) first ∙ or_from (eqb 0 k) false (ne_eqb 0 k (λ e. other (sym e))) refl))
      (cases_eq k 0)

  reaching_none : Reaching links n list₀ marks₀ 0 1 list₀ marks₀
  reaching_none =
      let all : n + 1 - 0 ≡ n + 1 = omega arith in
      record {
        some = omega arith;
        queue = record {
          within = omega (arith, length-set old 0 0);
          room = omega (arith, length-set old 0 0);
          marks_room = omega (arith, length-set unmarked 0 true, wide);
          apart = subst (Apart n) (sym first) (apart_head n);
          marked = marked_none;
        };
        spreads = ap (λ s. spread links n (n + 1 - 0) 0 s) first ∙ ap (λ k. spread links n k 0 (0 ∷ [])) all;
        later = refl;
        marks_later = refl;
      }

  -- what lies behind is then as it was before the beginning
  reaching_from : (p count : ℕ) (list : List ℕ) (marks : List Bool) → Reaching links n list₀ marks₀ p count list marks → Reaching links n old old-marks p count list marks
  reaching_from p count list marks r =
      let clear : List Bool = replicate (n + 1) false in
      let long : length clear ≡ n + 1 = length-replicate (n + 1) false in
      record {
        some = r.some;
        queue = r.queue;
        spreads = r.spreads;
        later = r.later ∙ drop-set-lt count old 0 0 (omega (arith, r.some));
        marks_later = r.marks_later
            ∙ drop-set-lt (n + 1) unmarked 0 true (omega arith)
            ∙ drop_at clear (drop (length clear) old-marks) (n + 1) long
            ∙ ap (λ k. drop k old-marks) long;
      }

  -- the same, with a name for the unmarked list
  pub reaching_start : (m : List Bool) → m ≡ unmarked → Reaching links n list₀ (set m 0 true) 0 1 list₀ (set m 0 true)
  reaching_start m e = subst (λ m. Reaching links n list₀ (set m 0 true) 0 1 list₀ (set m 0 true)) (sym e) reaching_none

  pub reaching_whole : (m : List Bool) → m ≡ unmarked → (p count : ℕ) (list : List ℕ) (marks : List Bool) → Reaching links n list₀ (set m 0 true) p count list marks → Reaching links n old old-marks p count list marks
  reaching_whole m e p count list marks r = reaching_from p count list marks (subst (λ m. Reaching links n list₀ (set m 0 true) p count list marks) e r)

module _ (links : ℕ → List Link) (n : ℕ) (old : List ℕ) (old-marks : List Bool) where
  -- one record more is looked at
  pub reaching_more : (p count : ℕ) (list : List ℕ) (marks : List Bool) (ls : List Link) (more : ℕ) (list' : List ℕ) (marks' : List Bool)
      → Reaching links n old old-marks p count list marks → p < count → ls ≡ links (get_or list p 0) → Grown n count list marks (met_all n (take count list) ls) more list' marks'
      → Reaching links n old old-marks (p + 1) more list' marks'
  reaching_more p count list marks ls more list' marks' r h is g =
      let seen = take count list in
      let long : length seen ≡ count = length-take-le count list r.queue.within in
      let few : count ≤ n + 1 = queue_few n count list marks r.queue in
      record {
        some = omega (arith, g.grows, r.some);
        queue = g.queue;
        spreads = ap (spread links n (n + 1 - (p + 1)) (p + 1)) (g.slots ∙ ap (met_all n seen) (is ∙ ap links (sym (get_or-take count list p 0 h))))
            ∙ sym (ap (λ k. spread links n k p seen) (one_less (n + 1) p (omega arith)) ∙ spread_more links n _ p seen (omega arith))
            ∙ r.spreads;
        later = g.later ∙ drop_further count more list old g.grows r.later;
        marks_later = g.marks_later ∙ r.marks_later;
      }

  -- each of those met has been looked at
  pub reaching_all : (p count : ℕ) (list : List ℕ) (marks : List Bool) → Reaching links n old old-marks p count list marks → count ≤ p
      → (count ≡ length (reached links n)) × (list ≡ filled (reached links n) old) × (marks ≡ filled (marks_of (reached links n) n) old-marks)
  reaching_all p count list marks r h =
      let seen = take count list in
      let all = reached links n in
      let q = r.queue in
      let long : length seen ≡ count = length-take-le count list q.within in
      let whole : seen ≡ all = sym (spread_done links n (n + 1 - p) p seen (omega arith)) ∙ r.spreads in
      let front : take (n + 1) marks ≡ marks_of all n = fill_by_all (λ k. member k all) (take (n + 1) marks) (n + 1) false (length-take-le (n + 1) marks (omega (arith, q.marks_room)))
      (λ k low. get_or-take (n + 1) marks k false low ∙ q.marked k (omega arith) ∙ ap (member k) whole) in
      let wide : n + 1 ≡ length (marks_of all n) = sym (length-map-range_with_len (λ k. member k all) 0 (n + 1)) in
      let count_is : count ≡ length all = sym long ∙ ap length whole in (
        count_is,
        sym (take-append-drop count list) ∙ ap (λ l. l ++ drop count list) whole ∙ ap (λ l. all ++ l) r.later ∙ ap (λ k. all ++ drop k old) count_is,
        sym (take-append-drop (n + 1) marks) ∙ ap (λ l. l ++ drop (n + 1) marks) front ∙ ap (λ l. marks_of all n ++ l) r.marks_later ∙ ap (λ k. marks_of all n ++ drop k old-marks) wide,
      )

-- the same for a book of n records, as the search tells it
pub record Told (links : List ℕ → List Link) (b old : List ℕ) (old-marks : List Bool) (count : ℕ) (list : List ℕ) (marks : List Bool) : Type 0 where
  pub answer : ◌≡◌ {A = Result ℕ Refusal} (Ok count) (reach_answer links b old old-marks)
  pub slots : list ≡ reach_list links b old old-marks
  pub flags : marks ≡ reach_marks links b old old-marks
  pub within : count ≤ length list

pub reach_told : (links : List ℕ → List Link) (b : List ℕ) (n : ℕ) (old : List ℕ) (old-marks : List Bool) (p count : ℕ) (list : List ℕ) (marks : List Bool)
    → n ≡ whole_records b → n < length old → n < length old-marks → Reaching (links_of links b) n old old-marks p count list marks → count ≤ p
    → Told links b old old-marks count list marks
reach_told links b n old old-marks p count list marks same room marks_room r h =
    let whole = whole_records b in
    let all = reached_in links b in
    let enough : (leb (length old) whole || leb (length old-marks) whole) ≡ false = or_from (leb (length old) whole) _ (lt-leb (length old) whole (omega arith)) (lt-leb (length old-marks) whole (omega arith)) in
    let done = reaching_all (links_of links b) n old old-marks p count list marks r h in
    let moved : reached (links_of links b) n ≡ all = ap (reached (links_of links b)) same in
    record {
      answer = ap (λ k. Ok k) (done.0 ∙ ap length moved) ∙ sym (ap (λ t. cond t (Err (refused Room 0)) (Ok (length all))) enough);
      slots = done.1 ∙ ap (λ l. filled l old) moved ∙ sym (ap (λ t. cond t old (filled all old)) enough);
      flags = done.2
          ∙ ap (λ l. filled (marks_of l n) old-marks) moved
          ∙ ap (λ k. filled (marks_of all k) old-marks) same
          ∙ sym (ap (λ t. cond t old-marks (filled (marks_of all whole) old-marks)) enough);
      within = r.queue.within;
    }
