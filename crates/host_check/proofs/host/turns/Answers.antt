-- So many steps draw so many numbers at most.
use Rattle.host_check.proofs.NumbersOfCalls.{by_steps, may_turn}
use Rattle.host_check.proofs.host.turns.Goals as goal

pub turns-requires : goal.turns-requires
turns-requires c = record { numbers = may_turn c.args.kernel.now c.args.steps c.requires.budget c.requires.few }

pub returns : goal.returns
returns c = by_steps c.args.kernel.now c.args.steps c.turns.new.self c.requires.budget c.turns.ensures.counts.0
