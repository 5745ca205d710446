-- The images so far and what is left are all images.
use Rattle.std.proofs.Common.{◌≡◌, ◌++◌}
use Rattle.class_init.proofs.in_order.literals_in_order.Given as goal

abbrev pub invariant-loop-image : goal.invariant-loop-image
invariant-loop-image l = l.list ++ l.image-iterator.rest.items ≡ l.initial.image-iterator.rest.items
