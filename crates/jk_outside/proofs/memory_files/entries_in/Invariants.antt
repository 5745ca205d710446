use Rattle.std.proofs.Common.{◌≡◌, take}
use Rattle.jk_outside.specs.MemoryTrees.{entries_of}
use Rattle.jk_outside.proofs.memory_files.entries_in.Given as goal

abbrev pub invariant-loop-i : goal.invariant-loop-i
invariant-loop-i l = l.entries ≡ entries_of l.folder (take l.i l.files)
