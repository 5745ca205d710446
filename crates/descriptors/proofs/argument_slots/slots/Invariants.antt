-- The total is that of the parameters up to the index, and of the receiver.
use Rattle.std.proofs.Common.{◌≡◌, ◌+◌, ◌*◌, ◌≤◌, take}
use Rattle.std.specs.List.{sum_by}
use Rattle.jk_model.specs.Descriptors.{field_slots, receiver_slots}
use Rattle.descriptors.proofs.argument_slots.slots.Given as goal

abbrev pub invariant-loop-param : goal.invariant-loop-param
invariant-loop-param l = (l.total ≡ receiver_slots l.receiver + sum_by field_slots (take l.param-index l.t.params)) × (l.total ≤ 2 * l.param-index + 1)
