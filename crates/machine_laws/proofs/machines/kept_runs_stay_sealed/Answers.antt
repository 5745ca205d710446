-- By the lemmas on what a segment that ran leaves.
use Rattle.std.proofs.Common.{refl}
use Rattle.machine_laws.proofs.RunsAnswered.{calls_answered}
use Rattle.machine_laws.proofs.SealedAfterRuns.{goes_on, left_sealed, running_sealed}
use Rattle.machine_laws.proofs.WaitingRuns.{waiting_sealed}
use Rattle.machine_laws.proofs.machines.kept_runs_stay_sealed.Goals as goal

pub returns-clause-goes_on : goal.returns-clause-goes_on
returns-clause-goes_on c = λ m t p run went known keeps on. running_sealed m t p run went known.0.0 keeps on.0

pub returns-clause-answers : goal.returns-clause-answers
returns-clause-answers c = λ m t p run went known keeps on gives. (
  running_sealed m t p run went known.0.0 keeps on.0,
  calls_answered m t (goes_on m t p run went known.0.0 keeps on.0) refl gives on.1 known.0.1,
)

pub returns-clause-left : goal.returns-clause-left
returns-clause-left c = λ m t p run went known keeps none. left_sealed m t p run went known.0.0 keeps none

pub returns-clause-waits : goal.returns-clause-waits
returns-clause-waits c = λ m t p run went known keeps waits. waiting_sealed m t p run went known.0.0 keeps waits.0
