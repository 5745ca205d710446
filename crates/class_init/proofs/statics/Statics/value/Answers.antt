-- The slot that was found is the field.
use Rattle.std.proofs.Common.{◌<◌, length, ◌∙◌, sym, arith}
use Rattle.std.proofs.lemmas.Option.{slice_get_within}
use Rattle.class_init.specs.Statics.{IsIndexAt, LacksIndex}
use Rattle.class_init.proofs.FieldOfAnIndex.{value_none, value_some}
use Rattle.class_init.proofs.statics.Statics.value.Goals as goal

pub returns-in_err-place : goal.returns-in_err-place
returns-in_err-place c =
    let lacks : LacksIndex c.self.inside.slots.items c.args.index = rw c.as_slice.ensures.value at c.in_err-place.ensures in
    rw (← c.self.view_is) (c.from_residual.ensures ∙ sym (value_none c.self.inside.slots.items c.args.index lacks))

pub index-requires : goal.index-requires
index-requires c =
    let at : IsIndexAt c.self.inside.slots.items c.args.index c.in_ok-place.place = rw c.as_slice.ensures.value at c.in_ok-place.ensures in
    let low : c.in_ok-place.place < length c.self.inside.slots.items = slice_get_within c.self.inside.slots.items c.in_ok-place.place at.slot at.there in
    omega (arith, low, c.self.inside.slots.ok.0)

pub returns : goal.returns
returns c =
    let at : IsIndexAt c.self.inside.slots.items c.args.index c.in_ok-place.place = rw c.as_slice.ensures.value at c.in_ok-place.ensures in
    rw (← c.self.view_is)
    (value_some c.self.inside.slots.items c.args.index c.in_ok-place.place c.index.result.now c.self.invariant at c.index.ensures)
