-- So many slots are made.
use Rattle.std.proofs.Common.{◌≡◌, vec_capacity}
use Rattle.frame_store.specs.Slots.{AreSlots}
use Rattle.frame_store.proofs.slot_set.vacant_slots.Given as goal

abbrev pub invariant-loop-place : goal.invariant-loop-place
invariant-loop-place l = AreSlots l.slots.items l.place × (vec_capacity l.slots ≡ l.count)
