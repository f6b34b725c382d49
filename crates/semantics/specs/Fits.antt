-- Which edge or transition a word fits: by port, value and moment, as tests that compute.
use Rattle.std.specs.Prelude.{ℕ, Bool, true, false, cond, ◌&&◌, List, [], ◌∷◌, Some, None, Option, ◌==◌, nat_le}
use Rattle.semantics.specs.Times.{Fraction, Order, inside, counts, itself, whole, at_most}
use Rattle.semantics.specs.Trees.{Edge, Label, Silent, Hears, Sends, Transition}

-- the word of value v on the port p is one of those from lowest to highest on `port`
abbrev pub word_fits : ℕ → ℕ → ℕ → ℕ → ℕ → Bool
word_fits port lowest highest p v = port == p && (nat_le lowest v && nat_le v highest)

-- an edge takes that word at the age t of a phase with this lifetime: the moment is in the window that counts
abbrev pub edge_fits : Order → Option Fraction → ℕ → ℕ → Fraction → Edge → Bool
edge_fits o life p v t e =
    word_fits e.port e.lowest e.highest p v && (inside itself e.window t && counts o life t)

-- a transition hears that word
abbrev pub label_fits : Label → ℕ → ℕ → Bool
label_fits Silent p v = false
label_fits (Hears port lowest highest) p v = word_fits port lowest highest p v
label_fits (Sends port value) p v = false

-- a transition takes that word at the time t of the clock: it hears it, and its guard holds
abbrev pub transition_fits : ℕ → ℕ → Fraction → Transition → Bool
transition_fits p v t x = label_fits x.label p v && inside whole x.guard t

-- the clock is not past the bound (invariant), if there is one
abbrev pub within_bound : Option ℕ → Fraction → Bool
within_bound None t = true
within_bound (Some b) t = at_most t (whole b)

-- where the first that fits leads
abbrev pub first : {A : Type 0} → (A → Bool) → (A → ℕ) → List A → Option ℕ
first fits goal [] = None
first fits goal (x ∷ xs) = cond (fits x) (Some (goal x)) (first fits goal xs)
