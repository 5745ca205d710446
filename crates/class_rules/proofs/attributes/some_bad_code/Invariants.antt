-- No Code so far is bad.
use Rattle.jk_model_classes.specs.Items.{HasItemBefore}
use Rattle.jk_model_classes.specs.MemberAttributes.{IsBadCode}
use Rattle.class_rules.proofs.attributes.some_bad_code.Given as goal

abbrev pub invariant-loop-a : goal.invariant-loop-a
invariant-loop-a l = HasItemBefore l.a-index (IsBadCode l.pool.entries.now) l.attributes → ⊥
