-- One is found, or none is so.
use Rattle.std.proofs.Common.{arith}
use Rattle.list_lemmas.proofs.AnswersTold.{not_so as is_not}
use Rattle.class_lemmas.proofs.SomeItem.{none_yet, none_more}
use Rattle.class_rules.specs.Codes.{LoadsClassBy}
use Rattle.class_rules.proofs.SomeItem.{is_found, is_missed}
use Rattle.class_rules.proofs.codes.has_class.Goals as goal

pub loop-instr-init : goal.loop-instr-init
loop-instr-init c = none_yet (LoadsClassBy c.args.pool.now) c.args.instrs.now

pub loop-instr-preserved : goal.loop-instr-preserved
loop-instr-preserved c =
    none_more (LoadsClassBy c.args.pool.now) c.args.instrs.now c.loop-instr.instr-index c.instr-item.result c.loop-instr-test.true c.instr-item.is
    (is_not c.loads_class.result _ c.loads_class.ensures c.if-loads_class.false) c.loop-instr.invariant

pub returns-then-loads_class : goal.returns-then-loads_class
returns-then-loads_class c =
    is_found (LoadsClassBy c.args.pool.now) c.args.instrs.now c.loop-instr.instr-index c.instr-item.result c.loop-instr-test.true c.instr-item.is
    (c.loads_class.ensures.0 c.if-loads_class.true)

pub returns : goal.returns
returns c = is_missed (LoadsClassBy c.args.pool.now) c.args.instrs.now c.loop-instr.instr-index (omega arith) c.loop-instr.invariant
