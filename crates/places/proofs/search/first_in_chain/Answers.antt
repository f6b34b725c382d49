use Rattle.std.proofs.Common.{rules, ◌≡◌, ℕ, ap, sym, ◌∙◌}
use Rattle.std.specs.List.{find, enumerate_from}
use Rattle.std.specs.Option.{option_map}
use Rattle.std.proofs.lemmas.Iterator.Adapters.{option_map_id}
use Rattle.std.proofs.lemmas.Iterator.Consumers.{YieldsList-from_first, YieldsList-from_enumerate, YieldsList-at}
use Rattle.std.proofs.lemmas.Iterator.Search.{find_from_yields_List}
use Rattle.book.specs.Chains.{chain_of}
use Rattle.links.specs.Walks.{left}
use Rattle.places.proofs.Firsts.{found_first}
use Rattle.places.proofs.search.first_in_chain.Goals as goal

pub returns : goal.returns
returns g c passes acts =
    let ks = chain_of c.args.book.now c.args.first in
    let road = YieldsList-from_enumerate (YieldsList-at c.enumerate.ensures.source (YieldsList-from_first (λ x. x) left ks c.of.ensures.records)) c.enumerate.ensures.count in
    let told : option_map (λ p. p) c.find.result ≡ find (λ p. passes p.0 p.1) (enumerate_from 0 ks) = find_from_yields_List (λ (p : ℕ × ℕ). passes p.0 p.1) c.find.new.self _ c.find.result c.find.ensures.ran road acts in
    let number : c.map.result ≡ option_map (λ p. p.1) c.find.result = search rules in
    number ∙ ap (option_map (λ p. p.1)) (sym (option_map_id c.find.result) ∙ told) ∙ found_first passes 0 ks
