-- The first machine has given out no number.
use Rattle.host_check.proofs.NumbersOfCalls.{few_at_first}
use Rattle.host_check.proofs.host_tests.hosts.Goals as goal

pub make_all-went-requires-clause-begun : goal.make_all-went-requires-clause-begun
make_all-went-requires-clause-begun g c = few_at_first _ _ _ c.in_ok-kernel.ensures
