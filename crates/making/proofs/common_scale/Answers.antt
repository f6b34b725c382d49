use Rattle.std.proofs.Common.{◌≡◌, map, length, take, sym, ap, ◌∙◌, arith, rules}
use lib.ListN.{length-map}
use Rattle.std.proofs.lemmas.List.{length-take-le, get_or-take, get_or-map, same_lists}
use Rattle.semantics.specs.Machine.{StationMeaning, meaning_at, blank_meaning}
use Rattle.semantics.specs.Scales.{lcm_all}
use Rattle.scales.specs.Limited.{limited}
use Rattle.machine.proofs.Arrays.{made_at}
use Rattle.making.proofs.common_scale.Goals as goal

pub returns : goal.returns
returns g c =
    let ms = g.M.Machine.meaning c.args.machine.now in
    let few = (g.M.Machine.sound c.args.machine.now).few_stations in
    let n = c.stations.result in
    let all = c.from_fn-scales.result in
    let long : length (take n all) ≡ n = length-take-le n all (omega (arith, c.from_fn-scales.ensures.items.long)) in
    let many : length (map (λ (m : StationMeaning). m.scale) ms) ≡ length ms = length-map ms (λ m. m.scale) in
    let are : take n all ≡ map (λ (m : StationMeaning). m.scale) ms =
    same_lists (take n all) (map (λ (m : StationMeaning). m.scale) ms) (omega arith)
    (λ k d l.
    get_or-take n all k d (omega arith)
    ∙ made_at _ all (λ i. (meaning_at ms i).scale) (λ i y q k. search rules) 16 0 k d c.from_fn-scales.ensures.items.each (omega arith) (omega arith)
    ∙ sym (get_or-map (λ (m : StationMeaning). m.scale) ms k blank_meaning d (omega arith)))
    in
    c.scale_of.ensures ∙ ap (λ xs. limited (lcm_all 1 xs)) are
