-- One is found, or none is so.
use Rattle.std.proofs.Common.{arith}
use Rattle.list_lemmas.proofs.AnswersTold.{not_so as is_not}
use Rattle.jk_model_classes.specs.MemberCode.{LoadsFloat}
use Rattle.class_lemmas.proofs.SomeItem.{none_yet, none_more}
use Rattle.class_rules.proofs.SomeItem.{is_found, is_missed}
use Rattle.class_rules.proofs.codes.has_float.Goals as goal

pub loop-instr-init : goal.loop-instr-init
loop-instr-init c = none_yet (LoadsFloat c.args.pool.now) c.args.instrs.now

pub loop-instr-preserved : goal.loop-instr-preserved
loop-instr-preserved c =
    none_more (LoadsFloat c.args.pool.now) c.args.instrs.now c.loop-instr.instr-index c.instr-item.result c.loop-instr-test.true c.instr-item.is
    (is_not c.loads_float.result _ c.loads_float.ensures c.if-loads_float.false) c.loop-instr.invariant

pub returns-then-loads_float : goal.returns-then-loads_float
returns-then-loads_float c =
    is_found (LoadsFloat c.args.pool.now) c.args.instrs.now c.loop-instr.instr-index c.instr-item.result c.loop-instr-test.true c.instr-item.is
    (c.loads_float.ensures.0 c.if-loads_float.true)

pub returns : goal.returns
returns c = is_missed (LoadsFloat c.args.pool.now) c.args.instrs.now c.loop-instr.instr-index (omega arith) c.loop-instr.invariant
