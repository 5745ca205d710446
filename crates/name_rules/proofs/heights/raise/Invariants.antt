-- The places before this one are raised where they go to a high one.
use Rattle.name_rules.proofs.HeightsRise.{RaisedBefore}
use Rattle.name_rules.proofs.heights.raise.Given as goal

abbrev pub invariant-loop-i : goal.invariant-loop-i
invariant-loop-i l = RaisedBefore l.rows l.height l.i l.raised l.heights
