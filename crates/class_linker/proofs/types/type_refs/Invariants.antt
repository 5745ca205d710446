-- The types so far are those of the types of the descriptor so far.
use Rattle.std.proofs.Common.{take}
use Rattle.std.specs.List.{AllZip}
use Rattle.jk_model_classes.specs.SystemRecords.{IsTypeFor}
use Rattle.jk_model_classes.specs.Worlds.{class_named}
use Rattle.class_linker.proofs.types.type_refs.Given as goal

abbrev pub invariant-loop-t : goal.invariant-loop-t
invariant-loop-t l = AllZip (IsTypeFor (class_named l.names)) (take l.t-index l.types) l.refs
