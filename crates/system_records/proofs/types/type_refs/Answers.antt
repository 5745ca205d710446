-- One more type, with the numbers of its classes.
use Rattle.std.proofs.Common.{arith, subst}
use Rattle.list_lemmas.proofs.ItemByItem.{zip_more}
use Rattle.jk_model_classes.specs.SystemRecords.{IsTypeFor}
use Rattle.system_records.specs.KnownTypes.{class_called}
use Rattle.system_records.proofs.types.type_refs.Goals as goal

pub loop-t-preserved : goal.loop-t-preserved
loop-t-preserved c =
    let made = c.type_ref.result in
    zip_more (IsTypeFor class_called) c.args.types.now c.loop-t.refs _ c.loop-t.t-index c.t-item.result made (omega arith) c.loop-t.invariant
    (subst (λ t. IsTypeFor class_called t made) c.t-item.is c.type_ref.ensures) c.in_ok-push.ensures.ok
