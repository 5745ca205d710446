-- One link after the other is added.
use Rattle.std.proofs.Common.{take}
use Rattle.std.proofs.lemmas.List.{take_all, take_more}
use Rattle.class_init.specs.TextsAdded.{LeadsTo}
use Rattle.class_init.proofs.TextsInTurn.{of_none, one_more}
use Rattle.class_init.proofs.making.add_linked.Goals as goal

pub loop-link-init : goal.loop-link-init
loop-link-init c = of_none LeadsTo c.args.texts.now

pub loop-link-preserved : goal.loop-link-preserved
loop-link-preserved c =
    let links = c.args.links.now in
    let i = c.loop-link.link-index in
    let link = c.link-item.result in
    rw (take_more links i link c.loop-link-test.true, ← (c.link-item.is))
    (one_more LeadsTo (take i links) link c.args.texts.now c.loop-link.texts c.add_link.new.texts c.loop-link.invariant c.in_ok-add_link.ensures)

pub returns : goal.returns
returns c = rw (take_all c.loop-link.link-index c.args.links.now c.loop-link-test.false) at c.loop-link.invariant
