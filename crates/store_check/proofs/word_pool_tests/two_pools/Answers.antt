-- The words that the test stored in either pool.
use Rattle.std.proofs.Common.{rules}
use Rattle.store_check.proofs.word_pool_tests.two_pools.Goals as goal

pub load-requires : goal.load-requires
load-requires g c = (5, search rules)

pub load-requires-2 : goal.load-requires-2
load-requires-2 g c = (6, search rules)
