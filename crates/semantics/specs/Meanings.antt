-- What the two kinds of station mean as machines: a station of a model net, and a timed automaton.
use Rattle.std.specs.Prelude.{ℕ, zero, suc, ◌+◌, ◌*◌, ◌/◌, ◌%◌, Bool, true, false, cond, ◌&&◌, ◌||◌, List, [], ◌∷◌, map, length, drop, Some, None, Option, ◌==◌, nat_lt}
use Rattle.semantics.specs.Times.{fraction, Order}
use Rattle.semantics.specs.Trees.{Word, Phase, endless, lasting, lifetime_of, words_of, edges_of, next_of, phase_at, Station, ModelNet, Label, Silent, Hears, Sends, Transition, Location, location_at, Automaton, AutomatonNet}
use Rattle.semantics.specs.Scales.{scale_of, life_ticks}
use Rattle.semantics.specs.Fits.{edge_fits, transition_fits, within_bound, first}
use Rattle.semantics.specs.Machine.{Move, move_to, Stance, StationMeaning, Meaning}

-- A model station's stance is a phase, by its place, with so many words sent: 0, or fewer than it has. A phase has 4
-- words at most, so its number can be 4 × phase + words sent; only these three definitions say so.
abbrev pub stance_number : ℕ → ℕ → ℕ
stance_number i j = 4 * i + j

abbrev pub phase_of : ℕ → ℕ
phase_of s = s / 4

abbrev pub sent_of : ℕ → ℕ
sent_of s = s % 4

-- With these words still to send, the move sends the first of them; after the last, or silently if there is none, the
-- next phase follows.
abbrev pub move_with : ℕ → ℕ → ℕ → List Word → Move
move_with i j next [] = move_to None (stance_number next 0)
move_with i j next (w ∷ []) = move_to (Some w) (stance_number next 0)
move_with i j next (w ∷ x ∷ xs) = move_to (Some w) (stance_number i (suc j))

abbrev pub first_move : ℕ → Phase → Option Move
first_move i (endless edges) = None
first_move i (lasting lifetime words next edges) = Some (move_with i 0 next words)

-- The phase f at the place i, with no word sent. It hears by the edge that the word fits, e parts of the age being
-- e / (q × scale) seconds.
abbrev pub quiet_stance : Order → ℕ → ℕ → Phase → Stance
quiet_stance o scale i f = record {
  phase = suc i;
  sent = 0;
  busy = false;
  lifetime = life_ticks scale (lifetime_of f);
  move = first_move i f;
  hears = λ p v e q.
      first (edge_fits o (lifetime_of f) p v (fraction e (q * scale))) (λ x. stance_number x.goal 0) (edges_of f);
}

-- The same phase in the midst of sending, with j words sent: it hears nothing, and no time is set for its next move.
abbrev pub busy_stance : ℕ → ℕ → Phase → Stance
busy_stance i j f = record {
  phase = suc i;
  sent = j;
  busy = true;
  lifetime = None;
  move = Some (move_with i j (next_of f) (drop j (words_of f)));
  hears = λ p v e q. None;
}

abbrev pub model_stance : Order → ℕ → List Phase → ℕ → ℕ → Stance
model_stance o scale phases i zero = quiet_stance o scale i (phase_at phases i)
model_stance o scale phases i (suc j) = busy_stance i (suc j) (phase_at phases i)

abbrev pub model_known : List Phase → ℕ → ℕ → Bool
model_known phases i j = nat_lt i (length phases) && (j == 0 || nat_lt j (length (words_of (phase_at phases i))))

abbrev pub station_meaning : Order → Station → StationMeaning
station_meaning o st = record {
  scale = scale_of st.phases;
  opening = stance_number st.opening 0;
  known = λ s. model_known st.phases (phase_of s) (sent_of s);
  stance = λ s. model_stance o (scale_of st.phases) st.phases (phase_of s) (sent_of s);
}

-- An automaton's stance is a location, by its place: busy if committed, with the bound as its lifetime.
-- Its move is the transition that does not hear.
abbrev pub label_move : Label → ℕ → Option Move → Option Move
label_move Silent goal otherwise = Some (move_to None goal)
label_move (Hears port lowest highest) goal otherwise = otherwise
label_move (Sends port value) goal otherwise = Some (move_to (Some (record { port = port; value = value })) goal)

abbrev pub move_among : List Transition → Option Move
move_among [] = None
move_among (x ∷ xs) = label_move x.label x.goal (move_among xs)

-- It hears by the hearing transition that the word fits, and past the bound by none; e parts of the clock are e / q ticks.
abbrev pub location_stance : Location → Stance
location_stance l = record {
  phase = l.phase;
  sent = l.sent;
  busy = l.committed;
  lifetime = l.bound;
  move = move_among l.transitions;
  hears = λ p v e q.
      cond (within_bound l.bound (fraction e q)) (first (transition_fits p v (fraction e q)) (λ x. x.goal) l.transitions) None;
}

abbrev pub automaton_meaning : Automaton → StationMeaning
automaton_meaning a = record {
  scale = a.scale;
  opening = a.opening;
  known = λ s. nat_lt s (length a.locations);
  stance = λ s. location_stance (location_at a s);
}

-- the meanings of the two nets, each station in its own ticks
abbrev pub model_meaning : ModelNet → Meaning
model_meaning m = map (station_meaning m.order) m.stations

abbrev pub automata_meaning : AutomatonNet → Meaning
automata_meaning a = map automaton_meaning a.automata
