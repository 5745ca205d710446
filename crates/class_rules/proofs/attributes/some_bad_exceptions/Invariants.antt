-- No Exceptions so far are bad.
use Rattle.jk_model_classes.specs.Items.{HasItemBefore}
use Rattle.class_rules.specs.Attributes.{AreBadExceptions}
use Rattle.class_rules.proofs.attributes.some_bad_exceptions.Given as goal

abbrev pub invariant-loop-a : goal.invariant-loop-a
invariant-loop-a l = HasItemBefore l.a-index (AreBadExceptions l.pool.entries.now) l.attributes → ⊥
