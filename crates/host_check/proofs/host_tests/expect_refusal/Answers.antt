-- Opening a domain draws few numbers.
use Rattle.std.proofs.Common.{◌≤◌, arith}
use Rattle.host_check.proofs.NumbersOfCalls.{draws_fewer}
use Rattle.host_check.proofs.host_tests.expect_refusal.Goals as goal

fits : 1000 ≤ 16000
fits = omega arith

pub returns : goal.returns
returns g c = draws_fewer 1000 16000 c.args.kernel.now c.open_folder.new.kernel fits c.open_folder.ensures
