-- The records so far are those of the methods so far, and the types that were read are the descriptors' types.
use Rattle.std.proofs.Common.{take}
use Rattle.std.specs.List.{AllZip}
use Rattle.jk_model_classes.specs.LinkRules.{LinkScope}
use Rattle.class_linker.specs.LinkedFiles.{HasNames}
use Rattle.jk_model_classes.specs.Worlds.{class_named}
use Rattle.jk_model_folders.specs.LinkedClasses.{IsMethodFor}
use Rattle.class_linker.specs.KnownDescriptors.{AreKindsKnown}
use Rattle.class_linker.proofs.members.method_records.Given as goal

abbrev pub invariant-loop-method : goal.invariant-loop-method
invariant-loop-method l = AreKindsKnown (class_named l.scope.names.now) l.scope.file.now.pool l.known
    × ((s : LinkScope) → HasNames l.scope.names.now s → AllZip (IsMethodFor s l.scope.file.now) (take l.method-index l.method-items) l.made)
