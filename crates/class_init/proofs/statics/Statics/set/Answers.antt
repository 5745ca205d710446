-- The slot that was found is the field.
use Rattle.class_init.specs.Statics.{IsIndexAt, LacksIndex}
use Rattle.class_init.proofs.FieldOfAnIndex.{set_none, set_some}
use Rattle.class_init.proofs.statics.Statics.set.Goals as goal

pub returns-in-Some : goal.returns-in-Some
returns-in-Some c =
    let at : IsIndexAt c.self.inside.slots.items c.args.index c.in-Some.place = rw c.as_slice.ensures.value at c.in-Some.ensures in
    rw (← c.self.view_is)
    (set_some c.self.inside.slots.items c.args.index c.in-Some.place c.args.v c.index_mut.result.now c.self.invariant at c.index_mut.ensures.value)

pub returns-in_default : goal.returns-in_default
returns-in_default c =
    let lacks : LacksIndex c.self.inside.slots.items c.args.index = rw c.as_slice.ensures.value at c.in_default.ensures in
    rw (← c.self.view_is) (set_none c.self.inside.slots.items c.args.index c.args.v lacks)
