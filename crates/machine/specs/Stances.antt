-- What a machine tells of a stance.
use Rattle.std.specs.Prelude.{ℕ, ◌*◌}
use Rattle.std.specs.Option.{option_map}
use Rattle.semantics.specs.Machine.{Stance}
use Rattle.machine.specs.declared.stance.StanceInfo.{StanceInfo}

-- all of a stance but its hearing rule, which is asked by itself
abbrev pub told : Stance → StanceInfo
told x = record { phase = x.phase; sent = x.sent; busy = x.busy; lifetime = x.lifetime; next_move = x.move }

-- the same stance with its lifetime in ticks f times as fine
abbrev pub finer : ℕ → StanceInfo → StanceInfo
finer f x = record {
  phase = x.phase;
  sent = x.sent;
  busy = x.busy;
  lifetime = option_map (λ l. l * f) x.lifetime;
  next_move = x.next_move;
}
