-- What a net can learn of a machine. A number that is no stance of a station is told nothing of: there stands the blank.
use Rattle.std.specs.Prelude.{cond, map}
use Rattle.semantics.specs.Machine.{StationMeaning, Meaning, blank_stance}
use Rattle.semantics.specs.Net.{Net}
use Rattle.delivery.specs.declared.rules.Rules.{Rules}

abbrev pub only_known : StationMeaning → StationMeaning
only_known m = record {
  scale = m.scale;
  opening = m.opening;
  known = m.known;
  stance = λ s. cond (m.known s) (m.stance s) blank_stance;
}

abbrev pub learned : Meaning → Meaning
learned ms = map only_known ms

-- the net of which no more is meant than can be learned
abbrev pub learned_net : Net → Net
learned_net n = record { stations = learned n.stations; order = n.order; parts = n.parts }

-- the net that goes by these rules, as far as a net can learn of the stances
abbrev pub known_net : {M : Type 0} → (M → Meaning) → Rules M → Net
known_net meaning x = learned_net (record { stations = meaning x.machine; order = x.order; parts = x.parts.number })
