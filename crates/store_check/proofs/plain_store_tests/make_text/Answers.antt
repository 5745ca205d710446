-- No domain is admitted yet.
use Rattle.store_check.proofs.TextWritten.{few_by}
use Rattle.store_check.proofs.plain_store_tests.make_text.Goals as goal

pub admit-requires-clause-few : goal.admit-requires-clause-few
admit-requires-clause-few g c = few_by (g.H.ObjectStore.content c.args.heap.now) c.requires
