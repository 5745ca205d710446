-- No method before this one is an initialiser.
use Rattle.std.proofs.Common.{◌≡◌, ℕ, ◌<◌, Some, slice_get}
use Rattle.jk_model_classes.specs.declared.records.MethodRecord.{MethodRecord}
use Rattle.jk_model_classes.specs.Members.{CLINIT}
use Rattle.segment_steps.proofs.needed_classes.first_clinit.Given as goal

abbrev pub invariant-loop-i : goal.invariant-loop-i
invariant-loop-i l = (k : ℕ) (method : MethodRecord) → k < l.i → slice_get l.methods k ≡ Some method → method.name ≡ CLINIT → ⊥
