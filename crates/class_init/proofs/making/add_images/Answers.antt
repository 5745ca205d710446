-- The text of one image after the other is added.
use Rattle.std.proofs.Common.{take}
use Rattle.std.proofs.lemmas.List.{take_all, take_more}
use Rattle.class_init.specs.Texts.{AddsText}
use Rattle.class_init.specs.TextsAdded.{HasText}
use Rattle.class_init.proofs.TextsInTurn.{of_none, one_added, one_more}
use Rattle.class_init.proofs.making.add_images.Goals as goal

pub loop-image-init : goal.loop-image-init
loop-image-init c = of_none HasText c.args.texts.now

pub loop-image-preserved : goal.loop-image-preserved
loop-image-preserved c =
    let images = c.args.images.now in
    let i = c.loop-image.image-index in
    let image = c.image-item.result in
    let adds : AddsText c.loop-image.texts image.text c.add_units.new.self = rw c.as_slice.ensures at c.in_ok-add_units.ensures.ok in
    rw (take_more images i image c.loop-image-test.true, ← (c.image-item.is))
    (one_more HasText (take i images) image c.args.texts.now c.loop-image.texts c.add_units.new.self c.loop-image.invariant
    (one_added c.loop-image.texts image.text c.add_units.new.self adds))

pub returns : goal.returns
returns c = rw (take_all c.loop-image.image-index c.args.images.now c.loop-image-test.false) at c.loop-image.invariant
