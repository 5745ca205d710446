-- One more type.
use Rattle.std.proofs.Common.{arith, subst}
use Rattle.list_lemmas.proofs.ItemByItem.{zip_more}
use Rattle.jk_model.specs.declared.descriptors.FieldType.{FieldType}
use Rattle.jk_model_classes.specs.SystemRecords.{IsTypeFor}
use Rattle.jk_model_classes.specs.Worlds.{class_named}
use Rattle.class_linker.proofs.types.type_refs.Goals as goal

pub loop-t-preserved : goal.loop-t-preserved
loop-t-preserved c =
    let made = c.type_ref.result in
    let m = class_named c.args.names.now in
    zip_more (IsTypeFor m) c.args.types.now c.loop-t.refs _ c.loop-t.t-index c.t-item.result made (omega arith) c.loop-t.invariant
    (subst (λ (t : FieldType). IsTypeFor m t made) c.t-item.is c.type_ref.ensures) c.in_ok-push.ensures.ok
