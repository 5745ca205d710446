-- One is found, or none is so.
use Rattle.std.proofs.Common.{arith}
use Rattle.list_lemmas.proofs.AnswersTold.{not_so as is_not}
use Rattle.jk_model_classes.specs.MemberCode.{IsBadInstr}
use Rattle.class_lemmas.proofs.SomeItem.{none_yet, none_more}
use Rattle.class_rules.proofs.SomeItem.{is_found, is_missed}
use Rattle.class_rules.proofs.codes.has_bad_instr.Goals as goal

pub loop-instr-init : goal.loop-instr-init
loop-instr-init c = none_yet (IsBadInstr c.args.pool.now.entries.now c.args.code.now) c.args.instrs.now

pub loop-instr-preserved : goal.loop-instr-preserved
loop-instr-preserved c =
    none_more (IsBadInstr c.args.pool.now.entries.now c.args.code.now)
    c.args.instrs.now c.loop-instr.instr-index c.instr-item.result c.loop-instr-test.true c.instr-item.is
    (is_not c.is_bad_instr.result _ c.is_bad_instr.ensures c.if-is_bad_instr.false) c.loop-instr.invariant

pub returns-then-is_bad_instr : goal.returns-then-is_bad_instr
returns-then-is_bad_instr c =
    is_found (IsBadInstr c.args.pool.now.entries.now c.args.code.now) c.args.instrs.now c.loop-instr.instr-index c.instr-item.result c.loop-instr-test.true
    c.instr-item.is (c.is_bad_instr.ensures.0 c.if-is_bad_instr.true)

pub returns : goal.returns
returns c = is_missed (IsBadInstr c.args.pool.now.entries.now c.args.code.now) c.args.instrs.now c.loop-instr.instr-index (omega arith) c.loop-instr.invariant
