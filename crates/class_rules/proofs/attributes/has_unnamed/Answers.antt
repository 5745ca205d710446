-- One is found, or none is so.
use Rattle.std.proofs.Common.{arith}
use Rattle.list_lemmas.proofs.AnswersTold.{not_so as is_not}
use Rattle.class_lemmas.proofs.SomeItem.{none_yet, none_more}
use Rattle.class_rules.specs.Attributes.{IsUnnamed}
use Rattle.class_rules.proofs.SomeItem.{is_found, is_missed}
use Rattle.class_rules.proofs.attributes.has_unnamed.Goals as goal

pub loop-a-init : goal.loop-a-init
loop-a-init c = none_yet (IsUnnamed c.args.pool.now) c.args.attributes.now

pub loop-a-preserved : goal.loop-a-preserved
loop-a-preserved c =
    none_more (IsUnnamed c.args.pool.now) c.args.attributes.now c.loop-a.a-index c.a-item.result c.loop-a-test.true c.a-item.is
    (is_not c.is_unnamed.result _ c.is_unnamed.ensures c.if-is_unnamed.false) c.loop-a.invariant

pub returns-then-is_unnamed : goal.returns-then-is_unnamed
returns-then-is_unnamed c =
    is_found (IsUnnamed c.args.pool.now) c.args.attributes.now c.loop-a.a-index c.a-item.result c.loop-a-test.true c.a-item.is
    (c.is_unnamed.ensures.0 c.if-is_unnamed.true)

pub returns : goal.returns
returns c = is_missed (IsUnnamed c.args.pool.now) c.args.attributes.now c.loop-a.a-index (omega arith) c.loop-a.invariant
