-- By the lemma on it.
use Rattle.machine_laws.proofs.PaidSteps.{known_paid}
use Rattle.machine_laws.proofs.machines.paid_machines_stay_known.Goals as goal

pub returns : goal.returns
returns c = known_paid
