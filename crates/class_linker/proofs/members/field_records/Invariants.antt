-- The records so far are those of the fields so far, and the types that were read are the descriptors' types.
use Rattle.std.proofs.Common.{take}
use Rattle.std.specs.List.{AllZip}
use Rattle.jk_model_classes.specs.LinkRules.{LinkScope}
use Rattle.class_linker.specs.LinkedFiles.{HasNames}
use Rattle.jk_model_classes.specs.Worlds.{class_named}
use Rattle.jk_model_folders.specs.LinkedClasses.{IsFieldFor}
use Rattle.class_linker.specs.KnownDescriptors.{AreTypesKnown}
use Rattle.class_linker.proofs.members.field_records.Given as goal

abbrev pub invariant-loop-field : goal.invariant-loop-field
invariant-loop-field l = AreTypesKnown (class_named l.scope.names.now) l.scope.file.now.pool l.known
    × ((s : LinkScope) → HasNames l.scope.names.now s → AllZip (IsFieldFor s l.scope.file.now) (take l.field-index l.field-items) l.made)
