-- One more field, and its record.
use Rattle.std.proofs.Common.{arith}
use Rattle.list_lemmas.proofs.ItemByItem.{zip_more}
use Rattle.jk_model_classes.specs.SystemRecords.{IsSystemField}
use Rattle.system_table.specs.Entry.{field_of}
use Rattle.system_records.proofs.members.field_records.Goals as goal

pub loop-field-preserved : goal.loop-field-preserved
loop-field-preserved c =
    zip_more (λ f r. IsSystemField (field_of f) r) c.args.fields.now c.loop-field.made _ c.loop-field.field-index _ c.in_ok-field_record.field-0 (omega arith)
    c.loop-field.invariant c.in_ok-field_record.ensures c.in_ok-push.ensures.ok
