-- One is found, or none is so, unless memory runs out.
use Rattle.std.proofs.Common.{arith}
use Rattle.list_lemmas.proofs.AnswersTold.{not_so as is_not}
use Rattle.class_lemmas.proofs.SomeItem.{none_yet, none_more}
use Rattle.class_rules.specs.Attributes.{AreBadExceptions}
use Rattle.class_rules.proofs.SomeItem.{is_found, is_missed}
use Rattle.class_rules.proofs.attributes.some_bad_exceptions.Goals as goal

pub loop-a-init : goal.loop-a-init
loop-a-init c = none_yet (AreBadExceptions c.args.pool.now.entries.now) c.args.attributes.now

pub loop-a-preserved : goal.loop-a-preserved
loop-a-preserved c =
    none_more (AreBadExceptions c.args.pool.now.entries.now) c.args.attributes.now c.loop-a.a-index c.a-item.result c.loop-a-test.true c.a-item.is
    (is_not c.in_ok-is_bad.is_bad _ c.in_ok-is_bad.ensures c.if-is_bad.false) c.loop-a.invariant

pub returns-then-is_bad : goal.returns-then-is_bad
returns-then-is_bad c =
    is_found (AreBadExceptions c.args.pool.now.entries.now) c.args.attributes.now c.loop-a.a-index c.a-item.result c.loop-a-test.true c.a-item.is
    (c.in_ok-is_bad.ensures.0 c.if-is_bad.true)

pub returns : goal.returns
returns c = is_missed (AreBadExceptions c.args.pool.now.entries.now) c.args.attributes.now c.loop-a.a-index (omega arith) c.loop-a.invariant
