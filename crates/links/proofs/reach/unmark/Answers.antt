use Rattle.std.proofs.Common.{◌≡◌, ◌-◌, false, ◌++◌, length, take, drop, replicate, ap, ◌∙◌, arith}
use Rattle.std.proofs.lemmas.List.{length-take-le, length-replicate}
use Rattle.links.proofs.reach.unmark.Goals as goal

pub returns : goal.returns
returns c =
    let k = c.args.k in
    let m = c.args.marks.now in
    let far : k - 0 ≡ length (replicate k false) = omega (arith, length-replicate k false) in
    let long : length (take (k - 0) m) ≡ k = length-take-le (k - 0) m (omega (arith, c.requires)) ∙ omega arith in
    ap (λ l. l ++ drop (k - 0) m) (c.fill.ensures.after (λ y e. e) ∙ ap (λ j. replicate j false) long)
    ∙ ap (λ j. replicate k false ++ drop j m) far
