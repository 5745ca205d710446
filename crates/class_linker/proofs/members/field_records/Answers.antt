-- One more field.
use Rattle.std.proofs.Common.{List, arith, subst}
use Rattle.list_lemmas.proofs.ItemByItem.{zip_more}
use Rattle.jk_model.specs.declared.class_file.MemberInfo.{MemberInfo}
use Rattle.jk_model_folders.specs.LinkedClasses.{GoAlong, IsFieldFor}
use Rattle.class_linker.proofs.GoodMembers.{good_field}
use Rattle.class_linker.proofs.ItemByItem.{along_all, item_at}
use Rattle.class_linker.proofs.members.field_records.Goals as goal

pub field_record-requires-clause-good : goal.field_record-requires-clause-good
field_record-requires-clause-good c =
    let file = c.args.scope.now.file.now in
    good_field file c.args.scope.now.names.now c.requires.linkable c.loop-field.field-index c.field-item.result
    (item_at c.as_slice-field-items.result.now file.fields c.loop-field.field-index c.field-item.result c.as_slice-field-items.ensures
    (omega arith) c.field-item.is)

pub loop-field-preserved : goal.loop-field-preserved
loop-field-preserved c =
    let file = c.args.scope.now.file.now in
    let made = c.in_ok-field_record.field-0 in (
      c.field_record.ensures.known,
      λ s names.
          zip_more (IsFieldFor s file) c.as_slice-field-items.result.now c.loop-field.made _ c.loop-field.field-index c.field-item.result made (omega arith)
          (c.loop-field.invariant.1 s names) (subst (λ (x : MemberInfo). IsFieldFor s file x made) c.field-item.is (c.in_ok-field_record.ensures.made s names))
          c.in_ok-push.ensures.ok,
    )

pub returns : goal.returns
returns c = λ s names.
    let R = IsFieldFor s c.args.scope.now.file.now in
    subst (λ (xs : List MemberInfo). GoAlong R xs c.loop-field.made) c.as_slice-field-items.ensures
    (along_all R c.as_slice-field-items.result.now c.loop-field.made c.loop-field.field-index (omega arith) (c.loop-field.invariant.1 s names))
