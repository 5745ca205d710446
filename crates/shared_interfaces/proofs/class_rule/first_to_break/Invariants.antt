-- The best so far is the first of the classes so far that break the rule, and their methods are counted.
use Rattle.std.proofs.Common.{◌≡◌, ◌*◌, ◌<◌, ◌≤◌}
use Rattle.jk_model_classes.specs.SharedRules.{methods_before}
use Rattle.shared_interfaces.specs.Earliest.{IsEarliest}
use Rattle.shared_interfaces.proofs.class_rule.first_to_break.Given as goal

abbrev pub invariant-loop-number : goal.invariant-loop-number
invariant-loop-number g l =
    IsEarliest l.classes (λ c n. (c.0 < l.number) × g.R.ClassRule.breaks l.rule c n) l.best
    × (l.passed ≡ methods_before l.classes l.fn.first l.number) × (l.passed ≤ 65535 * l.number)
