-- After each domain the next folder may be loaded.
use Rattle.jk_model_folders.specs.Loads.{MayLoad}
use Rattle.load_check.proofs.worlds.opened.Given as goal

abbrev pub invariant-loop-name : goal.invariant-loop-name
invariant-loop-name g l = MayLoad l.world
