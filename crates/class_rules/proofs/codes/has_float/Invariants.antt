-- No instruction so far loads a constant of float or double.
use Rattle.jk_model_classes.specs.Items.{HasItemBefore}
use Rattle.jk_model_classes.specs.MemberCode.{LoadsFloat}
use Rattle.class_rules.proofs.codes.has_float.Given as goal

abbrev pub invariant-loop-instr : goal.invariant-loop-instr
invariant-loop-instr l = HasItemBefore l.instr-index (LoadsFloat l.pool) l.instrs → ⊥
