-- The text at an index is the one that is known.
use Rattle.jk_model_classes.specs.MemberDescriptors.{IsFloatField}
use Rattle.class_rules.proofs.KnownTexts.{text_decides}
use Rattle.class_rules.proofs.known_pool.KnownPool.is_float_field.Goals as goal

pub returns-in-Some : goal.returns-in-Some
returns-in-Some c = text_decides IsFloatField c.args.self.now.entries.now c.args.i c.in-Some.text _ c.in-Some.ensures c.is_float_field.ensures

pub returns-in-None : goal.returns-in-None
returns-in-None c = (λ e. absurd cc, λ h. absurd (c.in-None.ensures h.0 h.1))
