-- The name of a class has names between its slashes.
use Rattle.class_rules.proofs.ClassNameByParts.{names_from_class, class_from_names}
use Rattle.class_rules.proofs.texts.names.is_class_name.Goals as goal

pub returns : goal.returns
returns c = (λ t. class_from_names c.args.units.now (c.has_names.ensures.0 t), λ h. c.has_names.ensures.1 (names_from_class c.args.units.now h))
