-- The places before this one go on through the one.
use Rattle.name_rules.proofs.EdgesOfRows.{ThroughBefore}
use Rattle.name_rules.proofs.rings.join_all.Given as goal

abbrev pub invariant-loop-to : goal.invariant-loop-to
invariant-loop-to l = ThroughBefore l.from l.to l.initial.rows l.rows
