-- The numbers drawn so far, by how many threads were served.
use Rattle.std.proofs.Common.{◌-◌, ◌*◌, ◌≤◌}
use Rattle.host_check.specs.DrawnNumbers.{Draws}
use Rattle.host_check.proofs.host.pass.Given as goal

abbrev pub invariant-loop-served : goal.invariant-loop-served
invariant-loop-served l = Draws (l.served * 1000) l.fn.kernel l.kernel × (l.served ≤ 16)

abbrev pub decreases-loop-served : goal.decreases-loop-served
decreases-loop-served l = 16 - l.served
