-- So many numbers stand in order.
use Rattle.std.proofs.Common.{◌≡◌, vec_capacity}
use Rattle.frame_store.specs.Slots.{AreInOrder}
use Rattle.frame_store.proofs.slot_set.in_order.Given as goal

abbrev pub invariant-loop-slot : goal.invariant-loop-slot
invariant-loop-slot l = AreInOrder l.order.items l.slot × (vec_capacity l.order ≡ l.count)
