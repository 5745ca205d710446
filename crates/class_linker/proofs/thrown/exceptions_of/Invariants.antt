-- No attribute so far is an Exceptions.
use Rattle.jk_model_classes.specs.Items.{HasItemBefore}
use Rattle.jk_model_classes.specs.MemberAttributes.{IsExceptions}
use Rattle.class_linker.proofs.thrown.exceptions_of.Given as goal

abbrev pub invariant-loop-a : goal.invariant-loop-a
invariant-loop-a l = HasItemBefore l.a-index (IsExceptions l.scope.file.now.pool) l.attributes → ⊥
