-- The numbers drawn so far, by how many calls were made.
use Rattle.std.proofs.Common.{◌+◌, ◌*◌}
use Rattle.host_check.specs.DrawnNumbers.{AreFew}
use Rattle.host_check.proofs.host_tests.make_all.Given as goal

abbrev pub invariant-loop-call : goal.invariant-loop-call
invariant-loop-call g l = AreFew (1 + l.call-index * 16000) l.kernel
