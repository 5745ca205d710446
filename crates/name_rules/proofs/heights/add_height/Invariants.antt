-- The places so far are in order.
use Rattle.name_rules.specs.Graphs.{AreInOrder}
use Rattle.name_rules.proofs.heights.add_height.Given as goal

abbrev pub invariant-loop-place : goal.invariant-loop-place
invariant-loop-place l = AreInOrder l.heights l.height l.place l.order.items
