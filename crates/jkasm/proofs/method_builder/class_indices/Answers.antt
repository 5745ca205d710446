-- A class gets its index after those before it, and where it has no room all have none.
use Rattle.std.proofs.Common.{ap, subst, sym, arith, Err}
use Rattle.std.specs.List.{AllByRecursion}
use Rattle.jk_model.specs.ClassFile.{IsU2}
use Rattle.jk_model.proofs.EachItem.{all_push}
use Rattle.jkasm.specs.Constants.{ClassAt, for_class}
use Rattle.jkasm.specs.PoolGrowth.{Takes, HasNoRoom}
use Rattle.jkasm.proofs.ClassesInTurn.{IsAt, classes_push, classes_take, classes_no_room}
use Rattle.jkasm.proofs.FaultOfPools.{full_at_fault}
use Rattle.jkasm.proofs.method_builder.class_indices.Goals as goal

pub returns-in_err-index-clause-fault : goal.returns-in_err-index-clause-fault
returns-in_err-index-clause-fault c = λ e.
    let classes = c.args.classes.now in
    let i = c.loop-class.class-index in
    let class = c.class-item.result in
    let at : IsAt classes i class = record { within = c.loop-class-test.true; is = c.class-item.is } in
    let full = full_at_fault c.from_residual.result c.in_err-index.field-0.0 c.from_residual.ensures.1 e in
    classes_no_room c.args.pool.now c.loop-class.pool classes i class at c.loop-class.invariant.takes
    (subst (λ name. HasNoRoom c.loop-class.pool (for_class name)) c.as_slice.ensures (c.in_err-index.ensures.full (ap (λ x. Err x) full)))

pub loop-class-preserved : goal.loop-class-preserved
loop-class-preserved c =
    let classes = c.args.classes.now in
    let i = c.loop-class.class-index in
    let class = c.class-item.result in
    let at : IsAt classes i class = record { within = c.loop-class-test.true; is = c.class-item.is } in
    let says : ClassAt c.class.new.self c.in_ok-index.index class =
    subst (λ name. ClassAt c.class.new.self c.in_ok-index.index name) c.as_slice.ensures c.in_ok-index.ensures.says in
    let takes : Takes c.loop-class.pool c.class.new.self (for_class class) =
    subst (λ name. Takes c.loop-class.pool c.class.new.self (for_class name)) c.as_slice.ensures c.in_ok-index.ensures.takes in
    let pushed = c.in_ok-push.ensures.ok in
    record {
      says = classes_push c.loop-class.pool c.class.new.self classes i class c.loop-class.indices c.push.new.self c.in_ok-index.index at
          takes.extends c.loop-class.invariant.says says pushed;
      fit = subst (AllByRecursion IsU2) (sym pushed) (all_push IsU2 c.loop-class.indices c.in_ok-index.index c.loop-class.invariant.fit (omega arith));
      takes = classes_take c.args.pool.now c.loop-class.pool c.class.new.self classes i class at c.loop-class.invariant.takes takes;
    }
