-- A plain name of a method is a name without angles.
use Rattle.class_rules.proofs.Decisions.{and_then}
use Rattle.class_rules.proofs.NameForms.{no_angle}
use Rattle.class_rules.proofs.texts.TextFacts.is_plain_method_name.Goals as goal

pub returns-then-self : goal.returns-then-self
returns-then-self c = λ pool units known. and_then _ _ c.if-self.true known.is_name (no_angle units _ known.has_angle)
