-- The first system classes are there.
use Rattle.std.proofs.Common.{◌≡◌, length}
use Rattle.class_table.proofs.SystemClassesInTurn.{AreSystemSoFar}
use Rattle.class_table.proofs.table.ClassTable.new.Given as goal

abbrev pub invariant-loop-n : goal.invariant-loop-n
invariant-loop-n l = record { many : length l.table ≡ l.n; each : AreSystemSoFar l.table }
