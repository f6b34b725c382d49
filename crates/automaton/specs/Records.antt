-- Where an automaton book holds what a machine is asked.
use Rattle.std.specs.Prelude.{ℕ, List, Some, None, Option}
use Rattle.semantics.specs.Books.{read_location, read_automaton}
use Rattle.semantics.specs.Trees.{Word, Label, Silent, Hears, Sends, Location, Automaton}
use Rattle.places.specs.Standing.{station_of, phases_of}

-- the automaton at place i, and the location of record k as one of its locations
abbrev pub automaton_tree : List ℕ → ℕ → Automaton
automaton_tree b i = read_automaton b (station_of b i)

abbrev pub location_tree : List ℕ → ℕ → ℕ → Location
location_tree b i k = read_location b (phases_of b i) k

-- the word that a transition with this label sends
abbrev pub word_sent : Label → Option Word
word_sent Silent = None
word_sent (Hears port lowest highest) = None
word_sent (Sends port value) = Some (record { port = port; value = value })
