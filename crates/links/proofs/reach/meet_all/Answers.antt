use Rattle.std.proofs.Common.{get_or, sym, ap, ◌∙◌}
use Rattle.std.proofs.lemmas.List.{take_all}
use Rattle.std.proofs.lemmas.List.Sums.{fold_more}
use Rattle.links.specs.Fields.{no_link}
use Rattle.links.specs.Naming.{met, met_all}
use Rattle.links.proofs.Meeting.{grown_same, grown_twice, grown_is}
use Rattle.links.proofs.reach.meet_all.Goals as goal

pub meet-count-requires : goal.meet-count-requires
meet-count-requires c = c.loop-link.invariant.queue

pub loop-link-init : goal.loop-link-init
loop-link-init c = grown_same _ _ _ _ c.requires

pub loop-link-preserved : goal.loop-link-preserved
loop-link-preserved c =
    let n = c.args.n in
    let ls = c.args.links.now in
    let i = c.loop-link.link-index in
    let step = fold_more (λ s l. met n s l.to) _ ls i no_link c.loop-link-test.true in
    grown_is (grown_twice _ _ _ _ _ _ _ _ _ _ _ _ c.loop-link.invariant c.meet-count.ensures) (ap (λ s. met n s (get_or ls i no_link).to) c.loop-link.invariant.slots ∙ sym step)

pub returns : goal.returns
returns c = grown_is c.loop-link.invariant (ap (met_all c.args.n _) (take_all _ _ c.loop-link-test.false))
