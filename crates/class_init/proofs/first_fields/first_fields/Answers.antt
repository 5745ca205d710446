-- Each static field is put after those before it.
use Rattle.std.proofs.Common.{◌∙◌, sym, ap}
use Rattle.std.proofs.lemmas.List.{take_all}
use Rattle.class_init.specs.Statics.{statics_from}
use Rattle.class_init.proofs.FieldOfAnIndex.{first_none, first_other_more, first_static_more, same_field}
use Rattle.class_init.proofs.first_fields.first_fields.Goals as goal
use Rattle.class_init.proofs.first_fields.first_fields.Goals.{then-is_static+in_ok-push, else-is_static}

pub loop-i-init : goal.loop-i-init
loop-i-init c = rw c.new-slots.ensures.items (first_none c.args.fields.now)

pub loop-i-preserved : goal.loop-i-preserved
loop-i-preserved c = elim c.if-is_static.branch [
  | then-is_static+in_ok-push w ↦
      let f = c.index-fields-i.result in
      let s = w.first_slot.result in
      rw (w.slots-is, w.in_ok-push.ensures.items)
      (first_static_more c.args.fields.now c.loop-i.i c.loop-i.slots.items f s c.loop-i.invariant c.loop-i-test.true c.index-fields-i.is
      (sym c.is_static.ensures ∙ w.if-is_static.true) (same_field s (c.loop-i.i, f) w.first_slot.ensures.index w.first_slot.ensures.value))
  | else-is_static w ↦
      rw w.slots-is
      (first_other_more c.args.fields.now c.loop-i.i c.loop-i.slots.items c.index-fields-i.result c.loop-i.invariant c.loop-i-test.true c.index-fields-i.is
      (sym c.is_static.ensures ∙ w.if-is_static.false))
]

pub of-requires : goal.of-requires
of-requires c = c.loop-i.invariant.rising

pub returns : goal.returns
returns c = c.of.ensures ∙ c.loop-i.invariant.are ∙ ap (statics_from 0) (take_all c.loop-i.i c.args.fields.now c.loop-i-test.false)
