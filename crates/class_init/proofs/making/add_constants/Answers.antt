-- The constant of one field after the other is added.
use Rattle.std.proofs.Common.{take}
use Rattle.std.proofs.lemmas.List.{take_all, take_more}
use Rattle.class_init.specs.TextsAdded.{HasConstant}
use Rattle.class_init.proofs.TextsInTurn.{of_none, one_more}
use Rattle.class_init.proofs.making.add_constants.Goals as goal

pub loop-field-init : goal.loop-field-init
loop-field-init c = of_none HasConstant c.args.texts.now

pub loop-field-preserved : goal.loop-field-preserved
loop-field-preserved c =
    let fields = c.args.fields.now in
    let i = c.loop-field.field-index in
    let field = c.field-item.result in
    rw (take_more fields i field c.loop-field-test.true, ← (c.field-item.is))
    (one_more HasConstant (take i fields) field c.args.texts.now c.loop-field.texts c.add_link.new.texts c.loop-field.invariant c.in_ok-add_link.ensures)

pub returns : goal.returns
returns c = rw (take_all c.loop-field.field-index c.args.fields.now c.loop-field-test.false) at c.loop-field.invariant
