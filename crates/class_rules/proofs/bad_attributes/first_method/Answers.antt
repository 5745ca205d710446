-- The first is found, or there is none, unless memory runs out.
use Rattle.std.proofs.Common.{arith}
use Rattle.list_lemmas.proofs.AnswersTold.{not_so as is_not}
use Rattle.class_lemmas.proofs.SomeItem.{none_yet, none_more}
use Rattle.class_rules.specs.Attributes.{HasBadMethodAttributes}
use Rattle.class_rules.proofs.SomeItem.{is_first, is_nowhere}
use Rattle.class_rules.proofs.bad_attributes.first_method.Goals as goal

pub loop-i-init : goal.loop-i-init
loop-i-init c = none_yet (HasBadMethodAttributes c.args.c.now) c.args.methods.now

pub loop-i-preserved : goal.loop-i-preserved
loop-i-preserved c =
    none_more (HasBadMethodAttributes c.args.c.now) c.args.methods.now c.loop-i.i c.index-methods-i.result c.loop-i-test.true c.index-methods-i.is
    (is_not c.in_ok-is_bad.is_bad _ c.in_ok-is_bad.ensures c.if-is_bad.false) c.loop-i.invariant

pub returns-then-is_bad : goal.returns-then-is_bad
returns-then-is_bad c = record {
  least = is_first (HasBadMethodAttributes c.args.c.now) c.args.methods.now c.loop-i.i c.index-methods-i.result c.loop-i-test.true
      c.index-methods-i.is (c.in_ok-is_bad.ensures.0 c.if-is_bad.true) c.loop-i.invariant;
  within = c.loop-i-test.true;
}

pub returns : goal.returns
returns c = record {
  least = is_nowhere (HasBadMethodAttributes c.args.c.now) c.args.methods.now c.loop-i.i (omega arith) c.loop-i.invariant;
  within = tt;
}
