-- The values of the first fields.
use Rattle.std.proofs.Common.{◌≡◌, map, take}
use Rattle.class_init.specs.declared.statics.FieldSlot.{FieldSlot}
use Rattle.class_init.proofs.statics.Statics.values.Given as goal

abbrev pub invariant-loop-slot : goal.invariant-loop-slot
invariant-loop-slot l = l.values ≡ map (λ (s : FieldSlot). s.value) (take l.slot-index l.slot-items)
