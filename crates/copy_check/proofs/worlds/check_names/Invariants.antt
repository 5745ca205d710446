-- The classes up to the place are shared, where both tables have them.
use Rattle.std.proofs.Common.{◌≡◌, ℕ, ◌<◌, Some, slice_get}
use Rattle.std.specs.Prelude.{option_map}
use Rattle.jk_model.specs.declared.identifiers.ClassId.{ClassId}
use Rattle.jk_model_classes.specs.Worlds.{IsNamed, NamedClass}
use Rattle.jk_model_graphs.specs.Copiable.{AreSharing}
use Rattle.copy_check.proofs.worlds.check_names.Given as goal

abbrev pub invariant-loop-i : goal.invariant-loop-i
invariant-loop-i g l =
    (k : ℕ) (c : ClassId) → k < l.i → option_map (λ (e : NamedClass). e.class) (slice_get l.from k) ≡ Some c → IsNamed l.to c
    → AreSharing l.from l.to c
