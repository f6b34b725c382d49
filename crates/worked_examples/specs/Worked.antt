-- Examples, worked on whole books: bytes in, and what the check, the scales, printing and a session on the net give.
use Rattle.std.specs.Prelude.{◌≡◌, ℕ, false, List, [], ◌∷◌, map, Ok, Err, codes}
use Rattle.book.specs.Events.{event_letter}
use Rattle.book.specs.Refusals.{fault_number, refused}
use Rattle.book.specs.declared.refusal.Fault.{Fault}
use Rattle.book.specs.declared.refusal.Fault.TheVariants.{Scale, EmptyWindow, SharedMoment, Busy, Lifetime}
use Rattle.book.specs.declared.term.BookKind.TheVariants.{Model, Automaton}
use Rattle.semantics.specs.Times.{Fraction, fraction, Closed, Open, Absent, Window}
use Rattle.semantics.specs.Trees.{station_at, automaton_at, location_at}
use Rattle.semantics.specs.Books.{read_model, read_automata}
use Rattle.semantics.specs.Scales.{station_scale, ticks}
use Rattle.semantics.specs.Rows.{printed_book}
use Rattle.semantics.specs.Events.{Event}
use Rattle.semantics.specs.Calls.{Answer, Call, wait, word, step, answers}
use Rattle.semantics.specs.Faithful.{model_made, automata_made}
use Rattle.semantics.specs.Relay.{session, heard, first_step, second_step, eight_events, all_told, on_model, told_by_model}
use Rattle.semantics.specs.Examples.{window}
use Rattle.model_windows.specs.Rules.{hearing_at}
use Rattle.book_check.specs.Check.{check_of}
use Rattle.worked_examples.specs.Books.{relay, word_first, quarters_and_sixths, quarters_and_sixths_printed, listener, listener_printed, listener_printed_word_first, late_listener, neighbours, touching, touching_turned, fine_scale, too_fine_scale}

abbrev pub Accepted : List ℕ → Type 0
Accepted b = check_of b ≡ Ok Model

abbrev pub Refused : List ℕ → Fault → ℕ → Type 0
Refused b f p = check_of b ≡ Err (refused f p)

-- the scale of the first station of a model book
abbrev pub first_scale : List ℕ → ℕ
first_scale b = station_scale (station_at (read_model b) 0)

-- the book that is printed from a model book
abbrev pub printed : List ℕ → List ℕ
printed b = printed_book (read_model b)

-- Of the net that is made over a model book with q parts per net tick: what calls to it are answered; all events of the
-- making and of the calls; what the first station then tells.
abbrev pub answers_on : List ℕ → ℕ → List Call → List Answer
answers_on b q calls = on_model (read_model b) q calls

abbrev pub events_on : List ℕ → ℕ → List Call → List Event
events_on b q calls = all_told ((model_made (read_model b) q 6).answer ∷ answers_on b q calls)

abbrev pub first_tells : List ℕ → ℕ → List Call → ℕ × ℕ × ℕ
first_tells b q calls = told_by_model (read_model b) q calls 1

-- all events of the net that is made over an automaton book
abbrev pub automaton_events_on : List ℕ → ℕ → List Call → List Event
automaton_events_on b q calls =
    let a = read_automata b in
    let m = automata_made a q 6 in
    all_told (m.answer ∷ answers m.net a.paths calls m.state)

-- the window that counts of the edge of record 4 in the phase of record 3
abbrev pub counts_of : List ℕ → Window Fraction
counts_of b = (hearing_at b 3 4).window

-- the guards of the second location of the first automaton of an automaton book
abbrev pub second_guards : List ℕ → List (Window ℕ)
second_guards b = map (λ t. t.guard) (location_at (automaton_at (read_automata b) 0) 1).transitions

pub record WorkedExamples : Type 0 where
  -- denominators 4 and 6: the scale is 12, and 5/6 s is 10 ticks
  pub quarters_pass : Accepted quarters_and_sixths
  pub scale_12 : first_scale quarters_and_sixths ≡ 12
  pub ten_ticks : ticks (first_scale quarters_and_sixths) (fraction 5 6) ≡ 10
  pub quarters_print : printed quarters_and_sixths ≡ quarters_and_sixths_printed
  pub quarters_printed_pass : check_of quarters_and_sixths_printed ≡ Ok Automaton
  -- lifetime 3 and the closed window from 1 to 5: it counts as [1, 3) under step first and as [1, 3] under word first
  pub listener_passes : Accepted listener
  pub listener_counts : counts_of listener ≡ window (fraction 1 1) false (Open (fraction 3 1))
  pub listener_prints : printed listener ≡ listener_printed
  pub listener_guards : second_guards (printed listener) ≡ window 1 false (Open 3) ∷ window 3 false Absent ∷ []
  pub listener_printed_passes : check_of listener_printed ≡ Ok Automaton
  pub word_first_passes : Accepted (word_first listener)
  pub word_first_counts : counts_of (word_first listener) ≡ window (fraction 1 1) false (Closed (fraction 3 1))
  pub word_first_prints : printed (word_first listener) ≡ listener_printed_word_first
  pub word_first_guards : second_guards (printed (word_first listener)) ≡ window 1 false (Closed 3) ∷ window 3 false Absent ∷ []
  pub word_first_printed_passes : check_of listener_printed_word_first ≡ Ok Automaton
  -- low end 3 with lifetime 3
  pub late_step_first : Refused late_listener EmptyWindow 4
  pub late_word_first : Accepted (word_first late_listener)
  -- [0, 2) and [2, 4] share no moment; [0, 2] and [2, 4] share 2, and the place is the smaller record in either order
  pub neighbours_pass : Accepted neighbours
  pub touching_refused : Refused touching SharedMoment 3
  pub touching_turned_refused : Refused touching_turned SharedMoment 3
  -- denominators 999 and 1,000, and 7 beside them
  pub fine_passes : Accepted fine_scale
  pub scale_999000 : first_scale fine_scale ≡ 999000
  pub too_fine : Refused too_fine_scale Scale 1
  -- The relay: its session with 1 and with 3 parts per net tick, on its own book and on the printed one; and a wait that is
  -- too long, or comes between its words.
  pub relay_passes : Accepted relay
  pub relay_events : events_on relay 1 (session 3) ≡ eight_events
  pub relay_answers : answers_on relay 1 (session 3) ≡ Ok heard ∷ Ok [] ∷ Ok first_step ∷ Ok second_step ∷ []
  pub relay_events_finer : events_on relay 3 (session 9) ≡ eight_events
  pub relay_printed_passes : check_of (printed relay) ≡ Ok Automaton
  pub relay_printed_events : automaton_events_on (printed relay) 1 (session 3) ≡ eight_events
  pub relay_printed_events_finer : automaton_events_on (printed relay) 3 (session 9) ≡ eight_events
  pub relay_tells : first_tells relay 3 (word 1 5 6 ∷ wait 9 ∷ step 6 ∷ []) ≡ (2, 1, 9)
  pub wait_too_long : answers_on relay 1 (word 1 5 6 ∷ wait 4 ∷ []) ≡ Ok heard ∷ Err (refused Lifetime 1) ∷ []
  pub wait_between :
      answers_on relay 1 (word 1 5 6 ∷ wait 3 ∷ step 6 ∷ wait 0 ∷ step 6 ∷ [])
      ≡ Ok heard ∷ Ok [] ∷ Ok first_step ∷ Err (refused Busy 1) ∷ Ok second_step ∷ []
  -- the letters of the eight events, and the numbers of the refusals above
  pub letters : map (λ e. event_letter e.kind) eight_events ≡ codes "C?EO?O?I"
  pub numbers : map fault_number (Scale ∷ EmptyWindow ∷ SharedMoment ∷ Busy ∷ Lifetime ∷ []) ≡ 7 ∷ 8 ∷ 9 ∷ 14 ∷ 16 ∷ []
