-- A step draws one number at most.
use Rattle.std.proofs.Common.{◌≤◌, arith}
use Rattle.host_check.proofs.NumbersOfCalls.{by_steps, may_turn}
use Rattle.host_check.proofs.host.turn.Goals as goal

one_fits : 1 ≤ 1000
one_fits = omega arith

pub turn-requires : goal.turn-requires
turn-requires c = record { numbers = may_turn c.args.kernel.now 1 one_fits c.requires }

pub returns : goal.returns
returns c = by_steps c.args.kernel.now 1 c.turn.new.self one_fits c.turn.ensures.counts.0
