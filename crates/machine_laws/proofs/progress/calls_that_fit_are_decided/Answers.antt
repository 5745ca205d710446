-- By the lemma of this name.
use Rattle.machine_laws.proofs.CallsDecided.{calls_that_fit_are_decided}
use Rattle.machine_laws.proofs.progress.calls_that_fit_are_decided.Goals as goal

pub returns : goal.returns
returns c = calls_that_fit_are_decided
