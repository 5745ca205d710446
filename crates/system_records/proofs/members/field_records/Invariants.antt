-- The records so far are those of the fields so far.
use Rattle.std.proofs.Common.{take}
use Rattle.std.specs.List.{AllZip}
use Rattle.jk_model_classes.specs.SystemRecords.{IsSystemField}
use Rattle.system_table.specs.Entry.{field_of}
use Rattle.system_records.proofs.members.field_records.Given as goal

abbrev pub invariant-loop-field : goal.invariant-loop-field
invariant-loop-field l = AllZip (λ f r. IsSystemField (field_of f) r) (take l.field-index l.fields) l.made
