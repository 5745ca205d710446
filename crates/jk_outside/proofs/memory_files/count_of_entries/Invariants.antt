use Rattle.std.proofs.Common.{◌≡◌, ◌≤◌, length, take}
use Rattle.jk_outside.specs.MemoryTrees.{entries_of}
use Rattle.jk_outside.proofs.memory_files.count_of_entries.Given as goal

abbrev pub invariant-loop-i : goal.invariant-loop-i
invariant-loop-i l = (l.count ≡ length (entries_of l.folder (take l.i l.files))) × (l.count ≤ l.i)
