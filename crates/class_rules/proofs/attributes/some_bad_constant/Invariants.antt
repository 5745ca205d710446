-- No ConstantValue so far is bad.
use Rattle.jk_model_classes.specs.Items.{HasItemBefore}
use Rattle.class_rules.specs.Attributes.{IsBadConstant}
use Rattle.class_rules.proofs.attributes.some_bad_constant.Given as goal

abbrev pub invariant-loop-a : goal.invariant-loop-a
invariant-loop-a l = HasItemBefore l.a-index (IsBadConstant l.pool.entries.now l.field) l.attributes → ⊥
