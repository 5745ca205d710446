-- The slots are those of the first fields.
use Rattle.class_init.proofs.FieldOfAnIndex.{AreFirst}
use Rattle.class_init.proofs.first_fields.first_fields.Given as goal

abbrev pub invariant-loop-i : goal.invariant-loop-i
invariant-loop-i l = AreFirst l.fields l.i l.slots.items
