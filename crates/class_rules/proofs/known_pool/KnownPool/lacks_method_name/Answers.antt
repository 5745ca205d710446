-- The text at an index is the one that is known.
use Rattle.std.proofs.Common.{refl}
use Rattle.jk_model_classes.specs.ClassNames.{IsMethodName}
use Rattle.class_rules.proofs.Decisions.{denied}
use Rattle.class_rules.proofs.KnownTexts.{text_decides}
use Rattle.class_rules.proofs.known_pool.KnownPool.lacks_method_name.Goals as goal

pub returns-in-Some : goal.returns-in-Some
returns-in-Some c =
    denied _ (text_decides IsMethodName c.args.self.now.entries.now c.args.i c.in-Some.text _ c.in-Some.ensures c.is_method_name.ensures)

pub returns-in-None : goal.returns-in-None
returns-in-None c = (λ e h. c.in-None.ensures h.0 h.1, λ h. refl)
