-- Stubs stay.
use Rattle.thread_check.proofs.StubsStay.{where_one_begins}
use Rattle.thread_check.proofs.acts.begin.Goals as goal

pub returns : goal.returns
returns c = where_one_begins _ _ _ _ c.begin.ensures
