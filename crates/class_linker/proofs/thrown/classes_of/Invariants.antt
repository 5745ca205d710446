-- The classes so far are those of the indices so far.
use Rattle.std.proofs.Common.{take}
use Rattle.class_linker.specs.ThrownClasses.{AreClassesOf}
use Rattle.class_linker.proofs.thrown.classes_of.Given as goal

abbrev pub invariant-loop-i : goal.invariant-loop-i
invariant-loop-i l = AreClassesOf l.scope.names.now l.scope.file.now (take l.i-index l.indices) l.thrown
