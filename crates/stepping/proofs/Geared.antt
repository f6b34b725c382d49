-- A net over a sound machine: its stations, geared, its making, and its first state.
use Rattle.std.proofs.Common.{◌≡◌, ℕ, zero, suc, ◌*◌, ◌<◌, ◌≤◌, Bool, false, cond, ◌||◌, eqb, ltb, List, [], ◌∷◌, map, length, Some, None, Ok, Option, sym, refl, ap, ◌∙◌, subst, ap₂, arith}
use Prim.Native.Nat.{◌∣◌}
use native.Mathlib.Nat.{div-mul_cancel}
use lib.ListN.{length-map}
use Rattle.std.specs.Option.{option_map}
use Rattle.std.specs.List.{AllByRecursion}
use Rattle.std.proofs.ByRecursion.{All-get_or, All-from_get_or, All-weaker}
use Rattle.std.proofs.lemmas.List.{get_or-map}
use Rattle.std.proofs.lemmas.Bool.{le-ltb, lt-ltb, ne_eqb, or_from}
use Rattle.semantics.specs.Times.{Order}
use Rattle.semantics.specs.Trees.{Path}
use Rattle.semantics.specs.Limits.{LawfulPath}
use Rattle.semantics.specs.Machine.{Stance, StationMeaning, Meaning, meaning_at, blank_meaning, SoundStance, SoundStation, Sound, gear, gear_stance, net_scale, factor, geared}
use Rattle.semantics.specs.declared.state.StationState.{StationState}
use Rattle.semantics.specs.Net.{Net, NetState, in_stance, state_at, stance_at}
use Rattle.semantics.specs.Calls.{make, at_zero, first_bad, bad_path, bad_paths, misfit, created, telling}
use Rattle.semantics.proofs.Lcm.{least_common}
use Rattle.stepping.proofs.Whole.{SteadyStance, Steady, Whole}

pub none_bad : {A : Type 0} (bad : A → Bool) (k : ℕ) (xs : List A) → AllByRecursion (λ x. bad x ≡ false) xs → first_bad bad k xs ≡ None
none_bad bad k [] h = refl
none_bad bad k (x ∷ xs) h = ap (λ b. cond b (Some k) (first_bad bad (suc k) xs)) h.0 ∙ none_bad bad (suc k) xs h.1

pub paths_good : (n : ℕ) (ps : List Path) → AllByRecursion (LawfulPath n) ps → bad_paths n ps ≡ None
paths_good n ps h =
    none_bad (bad_path n) 1 ps
    (All-weaker (LawfulPath n) _
    (λ p l. or_from _ _ (or_from _ _ (le-ltb n p.sender l.sender_known) (le-ltb n p.hearer l.hearer_known)) (ne_eqb p.sender p.hearer l.ends_differ))
    ps h)

factor_some : (f s L : ℕ) → 1 ≤ L → f * s ≡ L → 1 ≤ f
factor_some zero s L some e = absurd (omega arith)
factor_some (suc f) s L some e = omega arith

not_zero : (f : ℕ) → 1 ≤ f → eqb f 0 ≡ false
not_zero f some = ne_eqb f 0 (λ (z : f ≡ 0). omega arith)

endless_too : (f : ℕ) (l : Option ℕ) → l ≡ None → option_map (λ x. x * f) l ≡ None
endless_too f l e = ap (option_map (λ x. x * f)) e

gear_steady : (f : ℕ) (m : StationMeaning) (x : Stance) → SoundStance m x → SteadyStance (gear f m) (gear_stance f x)
gear_steady f m x h = record {
  move_known = h.move_known;
  hearing_known = λ p v e q s r. h.hearing_known p v e (q * f) s r;
  rests = λ e. ((h.rests.0 e).0, endless_too f x.lifetime (h.rests.0 e).1);
}

scale_at : (P : ℕ → Type 0) (ms : Meaning) → AllByRecursion P (map (λ m. m.scale) ms) → (i : ℕ) → i < length ms → P (meaning_at ms i).scale
scale_at P [] h i l = absurd (omega arith)
scale_at P (m ∷ ms) h zero l = h.0
scale_at P (m ∷ ms) h (suc i) l = scale_at P ms h.1 i (omega arith)

module _ (ms : Meaning) (sound : Sound ms) where
  abbrev L : ℕ
  L = net_scale ms

  pub scaled : 1 ≤ L
  scaled = (least_common (map (λ m. m.scale) ms)).some

  pub long : length (geared ms) ≡ length ms
  long = length-map ms _

  pub gear_at : (i : ℕ) → i < length ms → meaning_at (geared ms) i ≡ gear (factor L (meaning_at ms i)) (meaning_at ms i)
  gear_at i l = get_or-map (λ m. gear (factor L m) m) ms i blank_meaning blank_meaning l

  station_sound : (i : ℕ) → i < length ms → SoundStation (meaning_at ms i)
  station_sound i l = All-get_or SoundStation ms i blank_meaning l sound.stations

  pub exact : (i : ℕ) → i < length ms → factor L (meaning_at ms i) * (meaning_at ms i).scale ≡ L
  exact i l =
      div-mul_cancel (meaning_at ms i).scale
      (scale_at (λ d. 1 ≤ d → d ∣ L) ms (least_common (map (λ m. m.scale) ms)).common i l (station_sound i l).some_scale)

  pub some_factor : (i : ℕ) → i < length ms → 1 ≤ factor L (meaning_at ms i)
  some_factor i l = factor_some _ (meaning_at ms i).scale L scaled (exact i l)

  pub steady : Steady (geared ms)
  steady i l s k =
      let h : i < length ms = subst (λ n. i < n) long l in
      let e = gear_at i h in
      subst (λ m. SteadyStance m (m.stance s)) (sym e)
      (gear_steady (factor L (meaning_at ms i)) (meaning_at ms i) ((meaning_at ms i).stance s)
      ((station_sound i h).stances s (sym (ap (λ m. m.known s) e) ∙ k)))

  module _ (ps : List Path) (o : Order) (q : ℕ) where
    abbrev start : List StationState
    start = (make ms ps o q 0).state.stations

    pub start_at : (i : ℕ) → i < length ms → state_at start i ≡ in_stance (meaning_at ms i).opening 0
    start_at i l = get_or-map (λ m. in_stance m.opening 0) ms i blank_meaning (in_stance 0 0) l

    pub start_whole : Whole (geared ms) start
    start_whole = record {
      long = length-map ms _ ∙ sym long;
      known = λ i l.
          let h : i < length ms = subst (λ n. i < n) long l in
          ap₂ (λ m (x : StationState). m.known x.stance) (gear_at i h) (start_at i h) ∙ (station_sound i h).opening_known;
    }

    -- a making with everything in range succeeds
    pub makes : (slots : ℕ) → L ≤ 1000000 → bad_paths (length ms) ps ≡ None → length ms ≤ slots → 1 ≤ q → q ≤ 1000 → (make ms ps o q slots).answer ≡ Ok (created 1 ms)
    makes slots fits fine room some few =
        let a : first_bad (misfit L) 1 ms ≡ None =
        none_bad (misfit L) 1 ms (All-from_get_or _ ms blank_meaning (λ i l.
        or_from _ _ (not_zero (factor L (meaning_at ms i)) (some_factor i l))
        (le-ltb 1000000 _ (let e = exact i l in omega arith)))) in
        let b : at_zero (ltb slots (length ms)) ≡ None = ap at_zero (le-ltb slots (length ms) room) in
        let c : at_zero (eqb q 0 || ltb 1000 q) ≡ None = ap at_zero (or_from _ _ (not_zero q some) (le-ltb 1000 q few)) in
        simp (a, fine, b, c)

-- what a station of the net tells
pub telling_at : (net : Net) (s : NetState) (i : ℕ) → i < length net.stations →
    telling net s (suc i) ≡ ((stance_at net.stations s.stations i).phase, (stance_at net.stations s.stations i).sent, (state_at s.stations i).elapsed)
telling_at net s i l = ap (λ b. cond b ((stance_at net.stations s.stations i).phase, (stance_at net.stations s.stations i).sent, (state_at s.stations i).elapsed) (0, 0, 0)) (lt-ltb i (length net.stations) l)
