-- The lists so far are those of the methods so far.
use Rattle.std.proofs.Common.{take}
use Rattle.std.specs.List.{AllZip}
use Rattle.class_linker.specs.ThrownClasses.{AreClassesThrown}
use Rattle.class_linker.proofs.thrown.thrown_in.Given as goal

abbrev pub invariant-loop-method : goal.invariant-loop-method
invariant-loop-method l = AllZip (AreClassesThrown l.scope.names.now l.scope.file.now) (take l.method-index l.method-items) l.lists
