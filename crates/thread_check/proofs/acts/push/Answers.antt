-- Stubs stay.
use Rattle.std.proofs.Common.{ap}
use Rattle.jk_model_sharing.specs.SharedStates.{SharedState}
use Rattle.thread_check.proofs.acts.push.Goals as goal

pub returns : goal.returns
returns c = ap (λ (s : SharedState). s.stubs) c.push.ensures.pushed
