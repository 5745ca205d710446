-- No attribute so far is a Code.
use Rattle.jk_model_classes.specs.Items.{HasItemBefore}
use Rattle.class_rules.specs.Attributes.{IsCalledBy}
use Rattle.class_rules.specs.declared.texts.Word.TheVariants.{Code}
use Rattle.class_rules.proofs.method_codes.one_code.Given as goal

abbrev pub invariant-loop-a : goal.invariant-loop-a
invariant-loop-a l = HasItemBefore l.a-index (IsCalledBy l.pool.entries.now Code) l.attributes → ⊥
