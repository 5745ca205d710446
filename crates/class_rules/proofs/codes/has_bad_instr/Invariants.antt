-- No instruction so far is bad.
use Rattle.jk_model_classes.specs.Items.{HasItemBefore}
use Rattle.jk_model_classes.specs.MemberCode.{IsBadInstr}
use Rattle.class_rules.proofs.codes.has_bad_instr.Given as goal

abbrev pub invariant-loop-instr : goal.invariant-loop-instr
invariant-loop-instr l = HasItemBefore l.instr-index (IsBadInstr l.pool.entries.now l.code) l.instrs → ⊥
