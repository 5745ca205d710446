-- The parts so far, and those of what is left, are all parts.
use Rattle.std.proofs.Common.{◌≡◌, ◌++◌, map}
use Rattle.class_init.specs.InOrder.{part_of_named}
use Rattle.class_init.proofs.in_order.without_names.Given as goal

abbrev pub invariant-loop-entry : goal.invariant-loop-entry
invariant-loop-entry l = l.list ++ map part_of_named l.entry-iterator.rest.items ≡ map part_of_named l.fn.named.items
