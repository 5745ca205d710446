-- The first is found, or there is none.
use Rattle.std.proofs.Common.{arith}
use Rattle.list_lemmas.proofs.AnswersTold.{not_so as is_not}
use Rattle.class_lemmas.proofs.SomeItem.{none_yet, none_more}
use Rattle.class_rules.specs.FlagRules.{HasFlagged}
use Rattle.class_rules.proofs.SomeItem.{is_first, is_nowhere}
use Rattle.class_rules.proofs.flag_rules.first_flagged.Goals as goal

pub loop-i-init : goal.loop-i-init
loop-i-init c = none_yet (HasFlagged c.args.pool.now.entries.now c.args.flag.0) c.args.methods.now

pub loop-i-preserved : goal.loop-i-preserved
loop-i-preserved c =
    none_more (HasFlagged c.args.pool.now.entries.now c.args.flag.0)
    c.args.methods.now c.loop-i.i c.index-methods-i.result c.loop-i-test.true c.index-methods-i.is
    (is_not c.is_flagged.result _ c.is_flagged.ensures c.if-is_flagged.false) c.loop-i.invariant

pub returns-then-is_flagged : goal.returns-then-is_flagged
returns-then-is_flagged c = record {
  least = is_first (HasFlagged c.args.pool.now.entries.now c.args.flag.0)
      c.args.methods.now c.loop-i.i c.index-methods-i.result c.loop-i-test.true c.index-methods-i.is
      (c.is_flagged.ensures.0 c.if-is_flagged.true) c.loop-i.invariant;
  within = c.loop-i-test.true;
}

pub returns : goal.returns
returns c = record {
  least = is_nowhere (HasFlagged c.args.pool.now.entries.now c.args.flag.0) c.args.methods.now c.loop-i.i (omega arith) c.loop-i.invariant;
  within = tt;
}
