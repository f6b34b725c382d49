-- The states that stations open in, and the events that tell of it.
use Rattle.std.proofs.Common.{◌≡◌, ℕ, zero, suc, ◌+◌, ◌-◌, ◌<◌, ◌≤◌, cond, List, [], ◌∷◌, ◌++◌, length, get_or, take, drop, set, replicate, sym, refl, ap, ◌∙◌, ap₂, arith, take-append-drop, length-append, ◌⊎◌, inl, inr}
use lib.ListN.{length-map, length-replicate}
use Rattle.std.proofs.lemmas.Bool.{cases_lt}
use Rattle.std.proofs.ByRecursion.{All-get_or}
use Rattle.std.proofs.lemmas.List.{take_more, take_more_set, take_all, drop-set-lt, get_or-map, get_or_append_left, get_or-append_right, get_or-replicate, get_or_past, same_lists}
use Rattle.book.specs.declared.event.Event.{Event}
use Rattle.semantics.specs.declared.state.StationState.{StationState}
use Rattle.semantics.specs.Events.{event, Created}
use Rattle.semantics.specs.Machine.{SoundStation, Meaning, Sound, meaning_at, blank_meaning, blank_stance}
use Rattle.semantics.specs.Net.{in_stance}
use Rattle.semantics.specs.Calls.{created}
use Rattle.machine.specs.declared.stance.StanceInfo.{StanceInfo}
use Rattle.machine.specs.Stances.{told}
use Rattle.delivery.specs.Known.{learned}
use Rattle.delivery.proofs.Learned.{learned_at}
use Rattle.delivery.proofs.Telling.{drop_on}
use Rattle.making.specs.Opening.{opened, opened_table}

-- what stands at a place of the table
opened_at : (ms : Meaning) (k : ℕ) (d : StationState) → length ms ≤ 16 → k < 16 → get_or (opened_table ms) k d ≡ in_stance (meaning_at ms k).opening 0
opened_at ms k d few l = go (cases_lt k (length ms))
  where
    go : (k < length ms) ⊎ (length ms ≤ k) → get_or (opened_table ms) k d ≡ in_stance (meaning_at ms k).opening 0
    go (inl h) =
        let long = length-map ms (λ m. in_stance m.opening 0) in
        get_or_append_left (opened ms) (replicate (16 - length ms) (in_stance 0 0)) d k (omega arith) ∙ get_or-map (λ m. in_stance m.opening 0) ms k blank_meaning d h
    go (inr h) =
        get_or-append_right (opened ms) (replicate (16 - length ms) (in_stance 0 0)) (length ms) k d (length-map ms (λ m. in_stance m.opening 0)) h
        ∙ get_or-replicate (16 - length ms) (k - length ms) (in_stance 0 0) d (omega arith)
        ∙ ap (λ m. in_stance m.opening 0) (sym (get_or_past ms k blank_meaning h))

-- a table with the opening state at each place
pub opened_all : (ms : Meaning) (t : List StationState) → length ms ≤ 16 → length t ≡ 16 →
    ((k : ℕ) (d : StationState) → k < 16 → get_or t k d ≡ in_stance (meaning_at ms k).opening 0) → t ≡ opened_table ms
opened_all ms t few long at =
    let n : length (opened_table ms) ≡ 16 = length-append (opened ms) (replicate (16 - length ms) (in_stance 0 0)) ∙ ap₂ ◌+◌ (length-map ms (λ m. in_stance m.opening 0)) (length-replicate (16 - length ms) (in_stance 0 0)) ∙ omega arith in
    same_lists t (opened_table ms) (long ∙ sym n) (λ k d l. at k d (omega arith) ∙ sym (opened_at ms k d few (omega arith)))

pub length_created : (k : ℕ) (ms : Meaning) → length (created k ms) ≡ length ms
length_created k [] = refl
length_created k (m ∷ ms) = ap suc (length_created (suc k) ms)

created_at : (k : ℕ) (ms : Meaning) (i : ℕ) (d : Event) → i < length ms →
    get_or (created k ms) i d ≡ event Created (k + i) 0 ((meaning_at ms i).stance (meaning_at ms i).opening).phase
created_at k [] i d l = absurd (omega arith)
created_at k (m ∷ ms) zero d l = let z : k ≡ k + 0 = omega arith in ap (λ j. event Created j 0 (m.stance m.opening).phase) z
created_at k (m ∷ ms) (suc i) d l =
    let z : suc k + i ≡ k + suc i = omega arith in
    created_at (suc k) ms i d (omega arith) ∙ ap (λ j. event Created j 0 ((meaning_at ms i).stance (meaning_at ms i).opening).phase) z

-- a station's opening stance is known, so what is told of it is what is meant
pub opening_told : (ms : Meaning) → Sound ms → (i s : ℕ) (x : StanceInfo) → i < length ms → s ≡ (meaning_at ms i).opening →
    x ≡ told ((meaning_at (learned ms) i).stance s) → x.phase ≡ ((meaning_at ms i).stance (meaning_at ms i).opening).phase
opening_told ms sound i s x l is e =
    let m = meaning_at ms i in
    let station = All-get_or SoundStation ms i blank_meaning l sound.stations in
    ap (λ y. y.phase) (e ∙ ap₂ (λ m s. told (m.stance s)) (learned_at ms i) is)
    ∙ ap (λ b. (cond b (m.stance m.opening) blank_stance).phase) station.opening_known

-- The events of the stations before i stand in the slots; later slots are as they were.
pub record Telling (ms : Meaning) (before es : List Event) (i : ℕ) : Type 0 where
  pub under : i ≤ length ms
  pub news : take i es ≡ take i (created 1 ms)
  pub rest : drop i es ≡ drop i before

module _ (ms : Meaning) (before es : List Event) (i : ℕ) (t : Telling ms before es i) where
  pub telling_more : (k v : ℕ) → i < length ms → i < length es → k ≡ 1 + i → v ≡ ((meaning_at ms i).stance (meaning_at ms i).opening).phase →
      Telling ms before (set es i (event Created k 0 v)) (i + 1)
  telling_more k v l room z is = record {
    under = omega arith;
    news =
        let d = event Created k 0 v in
        take_more_set es i d room
        ∙ ap₂ (λ xs x. xs ++ x ∷ []) t.news (ap₂ (λ k v. event Created k 0 v) z is ∙ sym (created_at 1 ms i d l))
        ∙ sym (take_more (created 1 ms) i d (let n = length_created 1 ms in omega arith));
    rest = drop-set-lt (i + 1) es i (event Created k 0 v) (omega arith) ∙ drop_on es before i (i + 1) (omega arith) t.rest;
  }

  pub telling_all : length ms ≤ i → es ≡ created 1 ms ++ drop (length ms) before
  telling_all past =
      let e : i ≡ length ms = omega (arith, t.under) in
      sym (take-append-drop i es) ∙ ap₂ ◌++◌ (t.news ∙ take_all i (created 1 ms) (let n = length_created 1 ms in omega arith)) t.rest
      ∙ ap (λ k. created 1 ms ++ drop k before) e
