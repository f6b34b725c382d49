use Rattle.std.proofs.Common.{◌∙◌, ap, arith, rules}
use Rattle.std.proofs.lemmas.Bool.{lt-ltb}
use Rattle.std.specs.Prelude.{if◌then◌else◌, nat_lt}
use Rattle.book_scales.specs.Scales.{fitting_scale}
use Rattle.places.specs.Tables.{station_in}
use Rattle.machine.proofs.Arrays.{made_at}
use Rattle.model.proofs.phase.scales_of.Goals as goal

pub returns : goal.returns
returns c =
    λ i l there.
    let scale = fitting_scale c.args.book.now (station_in c.args.places.now i) in
    made_at _ c.from_fn.result (λ k. if nat_lt k c.args.places.now.stations then fitting_scale c.args.book.now (station_in c.args.places.now k) else 0) (λ k y q r. search rules) 16 0 i 0 c.from_fn.ensures.items.each (omega arith) (omega arith)
    ∙ ap (λ t. if t then scale else 0) (lt-ltb i c.args.places.now.stations there)
