-- The place goes to where the other one goes, as far as the places before this one.
use Rattle.name_rules.proofs.EdgesOfRows.{AlsoBefore}
use Rattle.name_rules.proofs.rings.join.Given as goal

abbrev pub invariant-loop-j : goal.invariant-loop-j
invariant-loop-j l = AlsoBefore l.to l.from l.j l.initial.rows l.rows
