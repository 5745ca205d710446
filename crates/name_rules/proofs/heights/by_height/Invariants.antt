-- The places below the height are in order.
use Rattle.name_rules.specs.Graphs.{AreInOrder}
use Rattle.name_rules.proofs.heights.by_height.Given as goal

abbrev pub invariant-loop-height : goal.invariant-loop-height
invariant-loop-height l = AreInOrder l.heights l.height 0 l.order.items
