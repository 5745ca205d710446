-- The records so far are those of the methods so far.
use Rattle.std.proofs.Common.{take}
use Rattle.std.specs.List.{AllZip}
use Rattle.jk_model_classes.specs.SystemRecords.{IsSystemMethodAt}
use Rattle.system_table.specs.Entry.{method_of}
use Rattle.system_records.proofs.members.method_records.Given as goal

abbrev pub invariant-loop-method : goal.invariant-loop-method
invariant-loop-method l = AllZip (λ m r. IsSystemMethodAt m.number (method_of m) r) (take l.method-index l.methods) l.made
