-- By the lemmas on ends of domains.
use Rattle.machine_laws.proofs.KillsKnown.{kills_known}
use Rattle.machine_laws.proofs.machines.kills_stay_known.Goals as goal

pub returns : goal.returns
returns c = kills_known
