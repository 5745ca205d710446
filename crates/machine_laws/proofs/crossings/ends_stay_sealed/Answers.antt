-- By the lemmas on ends of domains.
use Rattle.machine_laws.proofs.EndsSealed.{ends_answered, ends_sealed}
use Rattle.machine_laws.proofs.crossings.ends_stay_sealed.Goals as goal

pub returns : goal.returns
returns c = record { sealed = ends_sealed; answered = λ m new d lines whole h. ends_answered m new d lines whole.1 h }
