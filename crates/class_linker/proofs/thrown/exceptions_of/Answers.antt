-- One is found, or none is there.
use Rattle.std.proofs.Common.{arith}
use Rattle.list_lemmas.proofs.ItemsByPlace.{item_read}
use Rattle.jk_model_classes.specs.MemberAttributes.{IsExceptions}
use Rattle.class_lemmas.proofs.SomeItem.{none_yet, none_more, none_at_all}
use Rattle.class_linker.proofs.thrown.exceptions_of.Goals as goal

pub loop-a-init : goal.loop-a-init
loop-a-init c = none_yet (IsExceptions c.args.scope.now.file.now.pool) c.args.attributes.now

pub loop-a-preserved : goal.loop-a-preserved
loop-a-preserved c =
    none_more (IsExceptions c.args.scope.now.file.now.pool) c.args.attributes.now c.loop-a.a-index c.a-item.result c.loop-a-test.true c.a-item.is
    (λ is. let t = c.spells.ensures.1 is in let f = c.if-spells.false in absurd cc) c.loop-a.invariant

pub returns-then-spells : goal.returns-then-spells
returns-then-spells c = (
  c.loop-a.a-index,
  item_read c.args.attributes.now c.loop-a.a-index c.a-item.result c.loop-a-test.true c.a-item.is,
  c.spells.ensures.0 c.if-spells.true,
)

pub returns : goal.returns
returns c = none_at_all (IsExceptions c.args.scope.now.file.now.pool) c.args.attributes.now c.loop-a.a-index (omega arith) c.loop-a.invariant
