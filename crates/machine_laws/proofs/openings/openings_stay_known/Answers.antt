-- By the lemmas on a machine in which a domain is opened.
use Rattle.machine_laws.proofs.MachinesOfRuns.{opening_stays_known}
use Rattle.machine_laws.proofs.openings.openings_stay_known.Goals as goal

pub returns : goal.returns
returns c = λ f m new name quotas known may opens.
    opening_stays_known c.accepted_folders_stay_sound.ensures f m new name quotas known may opens
