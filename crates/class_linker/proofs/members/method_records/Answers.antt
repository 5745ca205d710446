-- One more method.
use Rattle.std.proofs.Common.{List, arith, subst}
use Rattle.list_lemmas.proofs.ItemByItem.{zip_more}
use Rattle.jk_model.specs.declared.class_file.MemberInfo.{MemberInfo}
use Rattle.jk_model_folders.specs.LinkedClasses.{GoAlong, IsMethodFor}
use Rattle.class_linker.proofs.GoodMembers.{good_method}
use Rattle.class_linker.proofs.ItemByItem.{along_all, item_at}
use Rattle.class_linker.proofs.members.method_records.Goals as goal

pub method_record-requires-clause-good : goal.method_record-requires-clause-good
method_record-requires-clause-good c =
    let file = c.args.scope.now.file.now in
    good_method file c.args.scope.now.names.now c.requires.linkable c.loop-method.method-index c.method-item.result
    (item_at c.as_slice-method-items.result.now file.methods c.loop-method.method-index c.method-item.result c.as_slice-method-items.ensures
    (omega arith) c.method-item.is)

pub loop-method-preserved : goal.loop-method-preserved
loop-method-preserved c =
    let file = c.args.scope.now.file.now in
    let made = c.in_ok-method_record.field-0 in (
      c.method_record.ensures.known,
      λ s names.
          zip_more (IsMethodFor s file) c.as_slice-method-items.result.now c.loop-method.made _ c.loop-method.method-index c.method-item.result made
          (omega arith)
          (c.loop-method.invariant.1 s names) (subst (λ (x : MemberInfo). IsMethodFor s file x made) c.method-item.is
          (c.in_ok-method_record.ensures.made s names))
          c.in_ok-push.ensures.ok,
    )

pub returns : goal.returns
returns c = λ s names.
    let R = IsMethodFor s c.args.scope.now.file.now in
    subst (λ (xs : List MemberInfo). GoAlong R xs c.loop-method.made) c.as_slice-method-items.ensures
    (along_all R c.as_slice-method-items.result.now c.loop-method.made c.loop-method.method-index (omega arith) (c.loop-method.invariant.1 s names))
