-- The word that the clearing left.
use Rattle.std.proofs.Common.{rules}
use Rattle.store_check.proofs.word_pool_tests.words_are_cleared_again.Goals as goal

pub load-requires : goal.load-requires
load-requires g c = (1, search rules)
