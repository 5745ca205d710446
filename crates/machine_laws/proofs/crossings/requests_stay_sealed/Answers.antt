-- By the lemmas on requests, and on what takes their answers.
use Rattle.machine_laws.proofs.RequestsAnswered.{received_sealed}
use Rattle.machine_laws.proofs.RequestsSealed.{granted_sealed}
use Rattle.machine_laws.proofs.crossings.requests_stay_sealed.Goals as goal

pub returns : goal.returns
returns c = record {
  grants = λ m mid t p request granted waits sound may grants. granted_sealed m t p request granted mid waits sound may grants;
  receives = λ m new t p a waits sound r. received_sealed m new t p a waits sound r;
}
