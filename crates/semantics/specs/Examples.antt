-- Examples, worked: scales, the window that counts, a scale that does not fit, and two stations with unequal scales.
use Rattle.std.specs.Prelude.{◌≡◌, ℕ, Bool, true, false, List, [], ◌∷◌, Some, None, Ok, Err}
use Rattle.book.specs.Refusals.{refused}
use Rattle.book.specs.declared.refusal.Fault.TheVariants.{Scale, Room, Parts, Due, Lifetime, Total}
use Rattle.semantics.specs.Times.{Fraction, fraction, HighEnd, Closed, Open, Absent, Window, Order, StepFirst, WordFirst}
use Rattle.semantics.specs.Trees.{Edge, Phase, endless, lasting, ModelNet}
use Rattle.semantics.specs.Scales.{scale_of, model_scale, ticks}
use Rattle.semantics.specs.Events.{Event, event, Arrival, External, Output, Internal, Created}
use Rattle.semantics.specs.Calls.{Answer, Call, wait, word, step, bad_paths}
use Rattle.semantics.specs.Print.{print, hearing_guard}
use Rattle.semantics.specs.Faithful.{model_made, automata_made}
use Rattle.semantics.specs.Relay.{relay, sends, path, on_model, on_print, told_by_model, told_by_print}

abbrev pub window : {T : Type 0} → T → Bool → HighEnd T → Window T
window low open? high = record { low = low; low_open = open?; high = high }

abbrev pub edge : ℕ → ℕ → ℕ → ℕ → Window Fraction → Edge
edge goal port lowest highest w = record { goal = goal; port = port; lowest = lowest; highest = highest; window = w }

-- a station with lifetimes of these denominators
abbrev pub lifetimes : List ℕ → List Phase
lifetimes [] = []
lifetimes (d ∷ ds) = lasting (fraction 1 d) [] 0 [] ∷ lifetimes ds

abbrev pub alone : List Phase → ModelNet
alone phases = record { order = StepFirst; stations = record { opening = 0; phases = phases } ∷ []; paths = [] }

-- the closed window from 1 to 5
abbrev pub one_to_five : Window Fraction
one_to_five = window (fraction 1 1) false (Closed (fraction 5 1))

-- Two stations. The first sends 3 on its port 1 every 1/2 s. The second hears it on its port 9, in phase 1 at any time and
-- in phase 2, which lasts 4/3 s, only after 1/3 s and up to 2/3 s.
abbrev pub pair : Order → ModelNet
pair o = record {
  order = o;
  stations =
      record { opening = 0; phases = lasting (fraction 1 2) (sends 1 3 ∷ []) 0 [] ∷ [] }
      ∷ record {
        opening = 0;
        phases =
            endless (edge 1 9 0 9 (window (fraction 0 1) false Absent) ∷ [])
            ∷ lasting (fraction 4 3) [] 0 (edge 0 9 3 3 (window (fraction 1 3) true (Closed (fraction 2 3))) ∷ [])
            ∷ [];
      }
      ∷ [];
  paths = path 1 1 2 9 ∷ [];
}

-- at 2 parts per net tick: half a second is 6 parts
abbrev pub pair_calls : List Call
pair_calls = wait 6 ∷ step 4 ∷ wait 6 ∷ step 4 ∷ wait 6 ∷ step 4 ∷ wait 7 ∷ []

abbrev pub pair_step : ℕ → List Event
pair_step phase = event Output 1 1 3 ∷ event Arrival 2 9 3 ∷ event External 2 0 phase ∷ event Internal 1 0 1 ∷ []

abbrev pub pair_answers : List Answer
pair_answers = Ok [] ∷ Ok (pair_step 2) ∷ Ok [] ∷ Ok (pair_step 1) ∷ Ok [] ∷ Ok (pair_step 2) ∷ Err (refused Lifetime 1) ∷ []

-- A station that opens in its phase 2, which lasts 3 s and hears on port 1, from 1 s to 5 s, into phase 1.
abbrev pub listener : Order → ModelNet
listener o = record {
  order = o;
  stations = record { opening = 1; phases = endless [] ∷ lasting (fraction 3 1) [] 0 (edge 0 1 0 9 one_to_five ∷ []) ∷ [] } ∷ [];
  paths = path 0 1 1 1 ∷ [];
}

-- a word after so many parts, 2 to a second
abbrev pub after : ℕ → List Call
after parts = wait parts ∷ word 1 4 4 ∷ []

abbrev pub arrives : Answer
arrives = Ok (event Arrival 1 1 4 ∷ [])

abbrev pub is_heard : Answer
is_heard = Ok (event Arrival 1 1 4 ∷ event External 1 0 1 ∷ [])

-- Station 2 sends 7 and 8 every second; station 1 hears a word into a phase that lasts 0 s.
abbrev pub hurry : ModelNet
hurry = record {
  order = StepFirst;
  stations =
      record { opening = 0; phases = endless (edge 1 1 0 9 (window (fraction 0 1) false Absent) ∷ []) ∷ lasting (fraction 0 1) [] 0 [] ∷ [] }
      ∷ record { opening = 0; phases = lasting (fraction 1 1) (sends 1 7 ∷ sends 1 8 ∷ []) 0 [] ∷ [] }
      ∷ [];
  paths = path 2 1 1 1 ∷ [];
}

-- the busy station goes before the one that is due
abbrev pub hurry_answers : List Answer
hurry_answers =
    Ok []
    ∷ Ok (event Output 2 1 7 ∷ event Arrival 1 1 7 ∷ event External 1 0 2 ∷ [])
    ∷ Ok (event Output 2 1 8 ∷ event Arrival 1 1 8 ∷ event Internal 2 0 1 ∷ [])
    ∷ Ok (event Internal 1 0 1 ∷ [])
    ∷ []

pub record ExamplesWork : Type 0 where
  -- denominators 4 and 6 give scale 12, and 5/6 is 10 ticks
  pub scale_12 : scale_of (lifetimes (4 ∷ 6 ∷ [])) ≡ 12
  pub ten_ticks : ticks 12 (fraction 5 6) ≡ 10
  -- 999 and 1,000 give 999,000; with 7 the station cannot be geared
  pub scale_999000 : scale_of (lifetimes (999 ∷ 1000 ∷ [])) ≡ 999000
  pub fits : (model_made (alone (lifetimes (999 ∷ 1000 ∷ []))) 1 1).answer ≡ Ok (event Created 1 0 1 ∷ [])
  pub fits_not : (model_made (alone (lifetimes (999 ∷ 1000 ∷ 7 ∷ []))) 1 1).answer ≡ Err (refused Scale 1)
  -- with lifetime 3 the window counts as [1, 3) under step first and as [1, 3] under word first; endless, as it is
  pub step_first_counts : hearing_guard StepFirst 1 (Some (fraction 3 1)) one_to_five ≡ window 1 false (Open 3)
  pub word_first_counts : hearing_guard WordFirst 1 (Some (fraction 3 1)) one_to_five ≡ window 1 false (Closed 3)
  pub endless_counts : hearing_guard StepFirst 1 None one_to_five ≡ window 1 false (Closed 5)
  -- two stations with scales 2 and 3 in a net of scale 6
  pub pair_scale : model_scale (pair StepFirst) ≡ 6
  pub pair_on_model : on_model (pair StepFirst) 2 pair_calls ≡ pair_answers
  pub pair_on_print : on_print (pair StepFirst) 2 pair_calls ≡ pair_answers
  pub pair_tells : told_by_model (pair StepFirst) 2 (wait 6 ∷ step 4 ∷ wait 5 ∷ []) 2 ≡ (2, 0, 5)
  pub print_tells : told_by_print (pair StepFirst) 2 (wait 6 ∷ step 4 ∷ wait 5 ∷ []) 2 ≡ (2, 0, 5)
  -- a due station keeps words out under step first, and not under word first
  pub due_first : on_model (pair StepFirst) 2 (wait 6 ∷ word 1 1 4 ∷ []) ≡ Ok [] ∷ Err (refused Due 1) ∷ []
  pub word_comes : on_print (pair WordFirst) 2 (wait 6 ∷ word 1 1 4 ∷ []) ≡ Ok [] ∷ Ok [] ∷ []
  -- a word is heard from the low end on, between whole ticks too, and at the end as the order says
  pub opens_in_2 : (automata_made (print (listener StepFirst)) 2 1).answer ≡ Ok (event Created 1 0 2 ∷ [])
  pub too_early : (on_model (listener StepFirst) 2 (after 1) ≡ Ok [] ∷ arrives ∷ []) × (on_print (listener StepFirst) 2 (after 1) ≡ Ok [] ∷ arrives ∷ [])
  pub from_low_end : (on_model (listener StepFirst) 2 (after 2) ≡ Ok [] ∷ is_heard ∷ []) × (on_print (listener StepFirst) 2 (after 2) ≡ Ok [] ∷ is_heard ∷ [])
  pub between_ticks : (on_model (listener StepFirst) 2 (after 5) ≡ Ok [] ∷ is_heard ∷ []) × (on_print (listener StepFirst) 2 (after 5) ≡ Ok [] ∷ is_heard ∷ [])
  pub at_end_step_first : (on_model (listener StepFirst) 2 (after 6) ≡ Ok [] ∷ Err (refused Due 1) ∷ []) × (on_print (listener StepFirst) 2 (after 6) ≡ Ok [] ∷ Err (refused Due 1) ∷ [])
  pub at_end_word_first : (on_model (listener WordFirst) 2 (after 6) ≡ Ok [] ∷ is_heard ∷ []) × (on_print (listener WordFirst) 2 (after 6) ≡ Ok [] ∷ is_heard ∷ [])
  -- a busy station before one that is due
  pub hurry_on_model : on_model hurry 1 (wait 1 ∷ step 4 ∷ step 4 ∷ step 4 ∷ []) ≡ hurry_answers
  pub hurry_on_print : on_print hurry 1 (wait 1 ∷ step 4 ∷ step 4 ∷ step 4 ∷ []) ≡ hurry_answers
  -- refusals of a making, and of a call without room
  pub no_parts : (model_made relay 0 1).answer ≡ Err (refused Parts 0)
  pub no_room : (model_made (pair StepFirst) 2 1).answer ≡ Err (refused Room 0)
  pub bad_path_second : bad_paths 1 (path 0 1 1 1 ∷ path 1 2 1 4 ∷ []) ≡ Some 2
  pub no_slots : on_model relay 1 (word 1 5 5 ∷ []) ≡ Err (refused Room 0) ∷ []
  pub too_far : on_model relay 1 (wait 1000000000000000 ∷ wait 1 ∷ []) ≡ Ok [] ∷ Err (refused Total 0) ∷ []
