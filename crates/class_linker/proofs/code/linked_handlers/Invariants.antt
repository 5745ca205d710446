-- The catch entries so far are those of the code so far.
use Rattle.std.proofs.Common.{take}
use Rattle.std.specs.List.{AllZip}
use Rattle.jk_model_classes.specs.LinkRules.{LinkScope}
use Rattle.class_linker.specs.LinkedFiles.{HasNames}
use Rattle.jk_model_folders.specs.LinkedClasses.{IsCaughtFor}
use Rattle.class_linker.proofs.code.linked_handlers.Given as goal

abbrev pub invariant-loop-handler : goal.invariant-loop-handler
invariant-loop-handler l = (s : LinkScope) → HasNames l.scope.names.now s
    → AllZip (IsCaughtFor s l.scope.file.now l.code l.instrs) (take l.handler-index l.handler-items) l.linked
