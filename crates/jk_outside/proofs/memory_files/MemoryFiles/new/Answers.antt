use Rattle.std.proofs.Common.{refl}
use Rattle.jk_outside.specs.MemoryTrees.{are_paths}
use Rattle.jk_outside.proofs.memory_files.MemoryFiles.new.Goals as goal

pub invariant_of-result : goal.invariant_of-result
unfolding are_paths
invariant_of-result c = rw c.new.ensures refl
