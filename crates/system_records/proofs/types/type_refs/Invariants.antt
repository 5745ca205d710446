-- The types so far are those of the table's types so far.
use Rattle.std.proofs.Common.{take}
use Rattle.std.specs.List.{AllZip}
use Rattle.jk_model_classes.specs.SystemRecords.{IsTypeFor}
use Rattle.system_records.specs.KnownTypes.{class_called}
use Rattle.system_records.proofs.types.type_refs.Given as goal

abbrev pub invariant-loop-t : goal.invariant-loop-t
invariant-loop-t l = AllZip (IsTypeFor class_called) (take l.t-index l.types) l.refs
