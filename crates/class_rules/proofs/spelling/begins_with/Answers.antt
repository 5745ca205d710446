-- The units agree with the text as far as it goes.
use Rattle.std.proofs.Common.{arith}
use Rattle.class_rules.proofs.PrefixByUnits.{prefix_from_items, items_from_prefix}
use Rattle.class_rules.proofs.spelling.begins_with.Goals as goal

pub returns-then-units-text : goal.returns-then-units-text
returns-then-units-text c = (
  λ t. prefix_from_items c.args.text.now c.args.units.now (omega arith) (c.agrees.ensures.0 t),
  λ h. c.agrees.ensures.1 (λ k lt lt2. items_from_prefix c.args.text.now c.args.units.now h k lt),
)
