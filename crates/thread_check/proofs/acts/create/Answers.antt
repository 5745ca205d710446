-- Stubs stay.
use Rattle.thread_check.proofs.StubsStay.{where_one_is_created}
use Rattle.thread_check.proofs.acts.create.Goals as goal

pub returns : goal.returns
returns c = where_one_is_created _ _ _ _ _ _ c.create.ensures
