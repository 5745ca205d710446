-- No instruction so far loads a class.
use Rattle.jk_model_classes.specs.Items.{HasItemBefore}
use Rattle.class_rules.specs.Codes.{LoadsClassBy}
use Rattle.class_rules.proofs.codes.has_class.Given as goal

abbrev pub invariant-loop-instr : goal.invariant-loop-instr
invariant-loop-instr l = HasItemBefore l.instr-index (LoadsClassBy l.pool) l.instrs → ⊥
