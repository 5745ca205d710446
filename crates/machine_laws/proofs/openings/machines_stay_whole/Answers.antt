-- By the lemmas on a machine in which a domain is opened, and on the first one.
use Rattle.machine_laws.proofs.FirstMachines.{first_grows}
use Rattle.machine_laws.proofs.OpeningsStayWhole.{whole_then}
use Rattle.machine_laws.proofs.openings.machines_stay_whole.Goals as goal

pub returns-clause-opened : goal.returns-clause-opened
returns-clause-opened c = λ f m new name quotas lines whole sound grows opens known.
    whole_then f m name quotas whole sound grows lines new opens known

pub returns-clause-first : goal.returns-clause-first
returns-clause-first c = λ heap_pages stack_pages m first. first_grows m first.no_domains first.no_threads
