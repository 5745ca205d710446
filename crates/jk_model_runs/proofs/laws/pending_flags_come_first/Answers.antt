-- By the lemmas on a thread's one top segment.
use Rattle.jk_model_runs.proofs.FirstRules.{revoked_second, stop_first}
use Rattle.jk_model_runs.proofs.laws.pending_flags_come_first.Goals as goal

pub returns-clause-stop : goal.returns-clause-stop
returns-clause-stop c = stop_first

pub returns-clause-revoked : goal.returns-clause-revoked
returns-clause-revoked c = revoked_second
