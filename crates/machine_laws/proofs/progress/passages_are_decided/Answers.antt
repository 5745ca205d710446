-- By the lemma of this name.
use Rattle.machine_laws.proofs.PassagesDecided.{passages_are_decided}
use Rattle.machine_laws.proofs.progress.passages_are_decided.Goals as goal

pub returns : goal.returns
returns c = passages_are_decided
