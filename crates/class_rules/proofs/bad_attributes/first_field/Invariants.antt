-- No field so far breaks the rule.
use Rattle.jk_model_classes.specs.Items.{HasItemBefore}
use Rattle.class_rules.specs.Attributes.{HasBadFieldAttributes}
use Rattle.class_rules.proofs.bad_attributes.first_field.Given as goal

abbrev pub invariant-loop-i : goal.invariant-loop-i
invariant-loop-i l = HasItemBefore l.i (HasBadFieldAttributes l.pool.entries.now) l.fields → ⊥
