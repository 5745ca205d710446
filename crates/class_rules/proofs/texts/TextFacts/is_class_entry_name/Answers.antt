-- The name of a Class entry is a class's or an array's.
use Rattle.class_rules.proofs.Decisions.{or_else}
use Rattle.class_rules.proofs.texts.TextFacts.is_class_entry_name.Goals as goal

pub returns-else-self : goal.returns-else-self
returns-else-self c = λ pool units known. or_else _ _ c.if-self.false known.is_class_name (c.is_array.ensures pool units known)
