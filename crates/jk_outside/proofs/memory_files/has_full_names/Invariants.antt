use Rattle.std.proofs.Common.{◌≡◌, drop}
use Rattle.jk_outside.specs.declared.memory_files.NameSoFar.TheVariants.{Empty}
use Rattle.jk_outside.specs.MemoryTrees.{has_full_names}
use Rattle.jk_outside.proofs.memory_files.has_full_names.Given as goal

abbrev pub invariant-loop-c : goal.invariant-loop-c
invariant-loop-c l = has_full_names l.so_far (drop l.c-index l.path) ≡ has_full_names Empty l.path
