-- One method more, or all are done.
use Rattle.std.proofs.Common.{◌≡◌, List, Some, arith, subst}
use Rattle.std.specs.Prelude.{slice_get}
use Rattle.list_lemmas.proofs.ItemsByPlace.{item_read}
use Rattle.jk_model.specs.declared.class_file.MemberInfo.{MemberInfo}
use Rattle.class_linker.specs.ThrownClasses.{AreClassesThrown}
use Rattle.class_linker.proofs.ItemsInTurn.{zip_more}
use Rattle.class_linker.proofs.ThrownInTurn.{all_thrown}
use Rattle.class_linker.proofs.thrown.thrown_in.Goals as goal

pub thrown_by-requires-clause-own : goal.thrown_by-requires-clause-own
thrown_by-requires-clause-own c = (
  c.loop-method.method-index,
  subst (λ (w : List MemberInfo). slice_get w c.loop-method.method-index ≡ Some c.method-item.result) c.as_slice-method-items.ensures
      (item_read c.as_slice-method-items.result.now c.loop-method.method-index c.method-item.result c.loop-method-test.true c.method-item.is),
)

pub loop-method-preserved : goal.loop-method-preserved
loop-method-preserved c =
    zip_more (AreClassesThrown c.args.scope.now.names.now c.args.scope.now.file.now) c.as_slice-method-items.result.now c.loop-method.lists _
    c.loop-method.method-index c.method-item.result
    c.in_ok-thrown.thrown c.loop-method-test.true c.method-item.is c.loop-method.invariant c.in_ok-thrown.ensures c.in_ok-push.ensures.ok

pub returns : goal.returns
returns c =
    all_thrown c.args.scope.now.names.now c.args.scope.now.file.now c.as_slice-method-items.result.now c.loop-method.lists c.loop-method.method-index
    c.as_slice-method-items.ensures (omega arith)
    c.loop-method.invariant
