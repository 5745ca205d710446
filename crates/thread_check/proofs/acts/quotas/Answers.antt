-- They are such as a script can say.
use Rattle.std.proofs.Common.{arith}
use Rattle.thread_check.proofs.acts.quotas.Goals as goal

pub returns-then-d-eq-UNBOUNDED : goal.returns-then-d-eq-UNBOUNDED
returns-then-d-eq-UNBOUNDED c = record { chunks = omega arith; threads = omega arith; names = omega arith }

pub returns-else-d-eq-UNBOUNDED : goal.returns-else-d-eq-UNBOUNDED
returns-else-d-eq-UNBOUNDED c = record { chunks = omega arith; threads = omega arith; names = omega arith }
