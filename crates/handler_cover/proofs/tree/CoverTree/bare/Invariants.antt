-- The levels so far have no entry, and the next has half as many nodes.
use Rattle.std.proofs.Common.{map}
use Rattle.handler_cover.proofs.LevelsHalve.{IsBareUpTo}
use Rattle.handler_cover.proofs.tree.CoverTree.bare.Given as goal

abbrev pub invariant-loop-whole : goal.invariant-loop-whole
invariant-loop-whole l = IsBareUpTo l.places l.whole l.width (map (λ level. map (λ node. node.items) level.items) l.levels.items)

abbrev pub decreases-loop-whole : goal.decreases-loop-whole
decreases-loop-whole l = l.whole
