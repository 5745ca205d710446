-- One is found, or none is so.
use Rattle.std.proofs.Common.{arith}
use Rattle.list_lemmas.proofs.AnswersTold.{not_so as is_not}
use Rattle.class_lemmas.proofs.SomeItem.{none_yet, none_more}
use Rattle.class_rules.specs.Attributes.{IsBadConstant}
use Rattle.class_rules.proofs.SomeItem.{is_found, is_missed}
use Rattle.class_rules.proofs.attributes.some_bad_constant.Goals as goal

pub loop-a-init : goal.loop-a-init
loop-a-init c = none_yet (IsBadConstant c.args.pool.now.entries.now c.args.field.now) c.args.attributes.now

pub loop-a-preserved : goal.loop-a-preserved
loop-a-preserved c =
    none_more (IsBadConstant c.args.pool.now.entries.now c.args.field.now) c.args.attributes.now c.loop-a.a-index c.a-item.result c.loop-a-test.true c.a-item.is
    (is_not c.is_bad_constant.result _ c.is_bad_constant.ensures c.if-is_bad_constant.false) c.loop-a.invariant

pub returns-then-is_bad_constant : goal.returns-then-is_bad_constant
returns-then-is_bad_constant c =
    is_found (IsBadConstant c.args.pool.now.entries.now c.args.field.now) c.args.attributes.now c.loop-a.a-index c.a-item.result c.loop-a-test.true c.a-item.is
    (c.is_bad_constant.ensures.0 c.if-is_bad_constant.true)

pub returns : goal.returns
returns c = is_missed (IsBadConstant c.args.pool.now.entries.now c.args.field.now) c.args.attributes.now c.loop-a.a-index (omega arith) c.loop-a.invariant
