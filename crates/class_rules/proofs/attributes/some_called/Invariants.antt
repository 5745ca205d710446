-- No attribute so far is called so.
use Rattle.jk_model_classes.specs.Items.{HasItemBefore}
use Rattle.class_rules.specs.Attributes.{IsCalledBy}
use Rattle.class_rules.proofs.attributes.some_called.Given as goal

abbrev pub invariant-loop-a : goal.invariant-loop-a
invariant-loop-a l = HasItemBefore l.a-index (IsCalledBy l.pool.entries.now l.word) l.attributes → ⊥
