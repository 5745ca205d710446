-- One more method, and its record.
use Rattle.std.proofs.Common.{arith}
use Rattle.list_lemmas.proofs.ItemByItem.{zip_more}
use Rattle.jk_model_classes.specs.SystemRecords.{IsSystemMethodAt}
use Rattle.system_table.specs.Entry.{method_of}
use Rattle.system_records.proofs.members.method_records.Goals as goal

pub loop-method-preserved : goal.loop-method-preserved
loop-method-preserved c =
    zip_more (λ m r. IsSystemMethodAt m.number (method_of m) r) c.args.methods.now c.loop-method.made _ c.loop-method.method-index _
    c.in_ok-method_record.field-0 (omega arith) c.loop-method.invariant c.in_ok-method_record.ensures c.in_ok-push.ensures.ok
