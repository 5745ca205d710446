-- Where there is no memory for the machine, nothing was asked for.
use Rattle.jkernel_runs.proofs.EventsInTurn.{asks_nothing}
use Rattle.jkernel_runs.proofs.events.run_events.Goals as goal

pub returns-in_default-clause-asks : goal.returns-in_default-clause-asks
returns-in_default-clause-asks g c = asks_nothing (g.F.Files.tree c.args.files.now) c.args.root.now c.args.events.now (g.F.Files.asked c.args.files.now)

pub all_happen-requires-clause-first : goal.all_happen-requires-clause-first
all_happen-requires-clause-first g c = c.in-Ok.ensures
