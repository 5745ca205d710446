-- The methods of the classes so far are counted.
use Rattle.std.proofs.Common.{◌≡◌, ◌*◌, ◌≤◌}
use Rattle.jk_model_classes.specs.SharedRules.{methods_before}
use Rattle.loaded_class_check.proofs.shared_interfaces_tests.folder_methods.Given as goal

abbrev pub invariant-loop-number : goal.invariant-loop-number
invariant-loop-number l = (l.passed ≡ methods_before l.classes l.fn.first l.number) × (l.passed ≤ 65535 * l.number)
