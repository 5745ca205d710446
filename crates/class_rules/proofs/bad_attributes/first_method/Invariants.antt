-- No method so far breaks the rule.
use Rattle.jk_model_classes.specs.Items.{HasItemBefore}
use Rattle.class_rules.specs.Attributes.{HasBadMethodAttributes}
use Rattle.class_rules.proofs.bad_attributes.first_method.Given as goal

abbrev pub invariant-loop-i : goal.invariant-loop-i
invariant-loop-i l = HasItemBefore l.i (HasBadMethodAttributes l.c) l.methods → ⊥
