use Rattle.std.proofs.Common.{◌≡◌, ◌<◌, length, arith, rules}
use Rattle.structure.proofs.Marking.{links_told, reach_goes}
use Rattle.structure.proofs.linking.check_links.Goals as goal

pub returns : goal.returns
returns g c =
    let room : length c.count_names.result ≡ 2001 = search rules in
    let few : c.args.n < 2001 = omega (arith, c.requires.few) in
    links_told g.R.Linked.links c.args.book.now _ 2001 _ _ _ _ c.requires.told c.requires.long few room c.count_names.ensures c.reach.ensures.flags (c.first_broken-found.ensures _ (λ x r q k. search rules)) c.refuse.ensures
