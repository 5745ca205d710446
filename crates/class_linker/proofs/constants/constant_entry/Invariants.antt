-- No attribute so far is a ConstantValue.
use Rattle.std.proofs.Common.{◌≡◌, ◌<◌, ℕ, Some, slice_get}
use Rattle.jk_model.specs.declared.class_file.Attribute.{Attribute}
use Rattle.jk_model_classes.specs.MemberAttributes.{IsConstantValue}
use Rattle.class_linker.proofs.constants.constant_entry.Given as goal

abbrev pub invariant-loop-a : goal.invariant-loop-a
invariant-loop-a l = (j : ℕ) (a : Attribute) → j < l.a-index → slice_get l.attributes j ≡ Some a → IsConstantValue l.scope.file.now.pool a → ⊥
