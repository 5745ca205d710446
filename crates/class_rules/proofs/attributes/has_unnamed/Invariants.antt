-- Each attribute so far has a name.
use Rattle.jk_model_classes.specs.Items.{HasItemBefore}
use Rattle.class_rules.specs.Attributes.{IsUnnamed}
use Rattle.class_rules.proofs.attributes.has_unnamed.Given as goal

abbrev pub invariant-loop-a : goal.invariant-loop-a
invariant-loop-a l = HasItemBefore l.a-index (IsUnnamed l.pool) l.attributes → ⊥
