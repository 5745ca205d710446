-- After each folder the next one may be loaded.
use Rattle.jk_model_folders.specs.Loads.{MayLoad}
use Rattle.load_check.proofs.order_tests.expect_each.Given as goal

abbrev pub invariant-loop-i : goal.invariant-loop-i
invariant-loop-i g l = MayLoad l.world
