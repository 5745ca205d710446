-- By the lemmas on starts.
use Rattle.machine_laws.proofs.StartsStayKnown.{start_stays_known, start_stays_sealed}
use Rattle.machine_laws.proofs.machines.starts_stay_known.Goals as goal

pub returns-clause-known : goal.returns-clause-known
returns-clause-known c = λ m new start lines known starts. start_stays_known m start lines new known starts

pub returns-clause-sealed : goal.returns-clause-sealed
returns-clause-sealed c = λ m new start lines sealed sound starts. start_stays_sealed m start lines new sealed sound starts
