-- What is below the round's height is right.
use Rattle.name_rules.specs.Graphs.{AreHeightsBelow}
use Rattle.name_rules.proofs.heights.heights.Given as goal

abbrev pub invariant-loop-height : goal.invariant-loop-height
invariant-loop-height l = AreHeightsBelow l.rows l.height l.heights.items
