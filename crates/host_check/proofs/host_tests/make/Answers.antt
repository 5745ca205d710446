-- Each call draws few numbers.
use Rattle.std.proofs.Common.{◌≤◌, arith}
use Rattle.host_check.proofs.NumbersOfCalls.{draws_fewer, draws_none, few_in_more}
use Rattle.host_check.proofs.host_tests.make.Goals as goal

fits : 1000 ≤ 16000
fits = omega arith

more_fits : 1900000 ≤ 2000000
more_fits = omega arith

pub start-requires : goal.start-requires
start-requires g c = few_in_more 1900000 2000000 c.args.kernel.now more_fits c.requires

pub turn-requires : goal.turn-requires
turn-requires g c = few_in_more 1900000 2000000 c.args.kernel.now more_fits c.requires

pub returns-in-Starts : goal.returns-in-Starts
returns-in-Starts g c = draws_fewer 1000 16000 c.args.kernel.now c.start.new.kernel fits c.start.ensures

pub returns-in-OneStep : goal.returns-in-OneStep
returns-in-OneStep g c = draws_fewer 1000 16000 c.args.kernel.now c.turn.new.kernel fits c.turn.ensures

pub returns-in-Next : goal.returns-in-Next
returns-in-Next g c = draws_none 16000 c.args.kernel.now

pub returns-in-Kills : goal.returns-in-Kills
returns-in-Kills g c = draws_fewer 1000 16000 c.args.kernel.now c.kill.new.kernel fits c.kill.ensures
