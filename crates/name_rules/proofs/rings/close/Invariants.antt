-- There is an edge for each path through the places before this one.
use Rattle.name_rules.proofs.PathsThroughPlaces.{ClosedBelow}
use Rattle.name_rules.proofs.rings.close.Given as goal

abbrev pub invariant-loop-k : goal.invariant-loop-k
invariant-loop-k l = ClosedBelow l.k l.initial.rows l.rows
