-- Steps draw few numbers.
use Rattle.std.proofs.Common.{◌≤◌, arith}
use Rattle.host_check.proofs.NumbersOfCalls.{draws_fewer, few_in_more}
use Rattle.host_check.proofs.host_tests.expect_turns.Goals as goal

fits : 1000 ≤ 16000
fits = omega arith

more_fits : 1900000 ≤ 2000000
more_fits = omega arith

pub turns-requires-clause-few : goal.turns-requires-clause-few
turns-requires-clause-few g c = few_in_more 1900000 2000000 c.args.kernel.now more_fits c.requires

pub returns-in_err-changed : goal.returns-in_err-changed
returns-in_err-changed g c = draws_fewer 1000 16000 c.args.kernel.now c.turns.new.kernel fits c.turns.ensures

pub returns : goal.returns
returns g c = draws_fewer 1000 16000 c.args.kernel.now c.turns.new.kernel fits c.turns.ensures
