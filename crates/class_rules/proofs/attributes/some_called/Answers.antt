-- One is found, or none is so.
use Rattle.std.proofs.Common.{arith}
use Rattle.list_lemmas.proofs.AnswersTold.{not_so as is_not}
use Rattle.class_lemmas.proofs.SomeItem.{none_yet, none_more}
use Rattle.class_rules.specs.Attributes.{IsCalledBy}
use Rattle.class_rules.proofs.SomeItem.{is_found, is_missed}
use Rattle.class_rules.proofs.attributes.some_called.Goals as goal

pub loop-a-init : goal.loop-a-init
loop-a-init c = none_yet (IsCalledBy c.args.pool.now.entries.now c.args.word) c.args.attributes.now

pub loop-a-preserved : goal.loop-a-preserved
loop-a-preserved c =
    none_more (IsCalledBy c.args.pool.now.entries.now c.args.word) c.args.attributes.now c.loop-a.a-index c.a-item.result c.loop-a-test.true c.a-item.is
    (is_not c.is_called.result _ c.is_called.ensures c.if-is_called.false) c.loop-a.invariant

pub returns-then-is_called : goal.returns-then-is_called
returns-then-is_called c =
    is_found (IsCalledBy c.args.pool.now.entries.now c.args.word) c.args.attributes.now c.loop-a.a-index c.a-item.result c.loop-a-test.true c.a-item.is
    (c.is_called.ensures.0 c.if-is_called.true)

pub returns : goal.returns
returns c = is_missed (IsCalledBy c.args.pool.now.entries.now c.args.word) c.args.attributes.now c.loop-a.a-index (omega arith) c.loop-a.invariant
