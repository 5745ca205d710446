-- The classes so far are those of the interfaces so far.
use Rattle.std.proofs.Common.{take}
use Rattle.std.specs.List.{AllZip}
use Rattle.jk_model_classes.specs.LinkRules.{LinkScope}
use Rattle.class_linker.specs.LinkedFiles.{HasNames}
use Rattle.jk_model_folders.specs.LinkedClasses.{NamesClassAt}
use Rattle.class_linker.proofs.records.interfaces.Given as goal

abbrev pub invariant-loop-i : goal.invariant-loop-i
invariant-loop-i l = (s : LinkScope) → HasNames l.scope.names.now s → AllZip (NamesClassAt s l.scope.file.now) (take l.i-index l.i-items) l.classes
