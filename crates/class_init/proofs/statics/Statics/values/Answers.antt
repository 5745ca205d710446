-- One value after the other.
use Rattle.std.proofs.Common.{◌≡◌, ◌∙◌, ◌∷◌, [], map, take, ap, refl, get_or}
use Rattle.std.specs.Prelude.{pos}
use Rattle.std.proofs.lemmas.List.{map-append, take_all, take_more}
use Rattle.jk_model.specs.declared.values.Value.{Value}
use Rattle.jk_model.specs.declared.values.Value.TheVariants as Held
use Rattle.class_init.specs.declared.statics.FieldSlot.{FieldSlot}
use Rattle.class_init.proofs.FieldOfAnIndex.{values_of_slots}
use Rattle.class_init.proofs.statics.Statics.values.Goals as goal

pub loop-slot-init : goal.loop-slot-init
loop-slot-init c = c.new-values.ensures

pub loop-slot-preserved : goal.loop-slot-preserved
loop-slot-preserved c =
    let slots = c.deref-slot-items.result.now in
    let value : FieldSlot → Value = λ s. s.value in
    let i = c.loop-slot.slot-index in
    let d : FieldSlot = record { index = 0; value = Held.Int (pos 0) } in
    c.in_ok-push.ensures.ok
    ∙ rw (take_more slots i d c.loop-slot-test.true, map-append value (take i slots) (get_or slots i d ∷ []), ← c.loop-slot.invariant) refl

pub returns : goal.returns
returns c =
    let value : FieldSlot → Value = λ s. s.value in
    let all : c.loop-slot.values ≡ map value c.self.inside.slots.items =
    c.loop-slot.invariant
    ∙ ap (map value) (take_all c.loop-slot.slot-index c.deref-slot-items.result.now c.loop-slot-test.false ∙ c.deref-slot-items.ensures.value) in
    rw (← c.self.view_is) (all ∙ values_of_slots c.self.inside.slots.items)
