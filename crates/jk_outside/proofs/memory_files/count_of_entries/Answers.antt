use Rattle.std.proofs.Common.{rules}
use Rattle.jk_outside.specs.MemoryTrees.{entries_of}
use Rattle.jk_outside.proofs.memory_files.count_of_entries.Goals as goal

pub loop-i-init : goal.loop-i-init
unfolding entries_of
loop-i-init c = search rules
