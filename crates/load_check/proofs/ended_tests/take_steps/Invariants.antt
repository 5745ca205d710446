-- After each step the next folder may be loaded.
use Rattle.jk_model_folders.specs.Loads.{MayLoad}
use Rattle.load_check.proofs.ended_tests.take_steps.Given as goal

abbrev pub invariant-loop-name : goal.invariant-loop-name
invariant-loop-name g l = MayLoad l.world
