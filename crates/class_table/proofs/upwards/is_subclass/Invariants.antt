-- The class is still to be found above the one that was reached, where it is to be found at all.
use Rattle.std.proofs.Common.{◌↔◌}
use Rattle.jk_model_classes.specs.Classes.{IsSubclass}
use Rattle.class_table.specs.Entries.{records}
use Rattle.class_table.proofs.upwards.is_subclass.Given as goal

abbrev pub invariant-loop-at : goal.invariant-loop-at
invariant-loop-at l = IsSubclass (records l.entries) l.fn.a l.b ↔ IsSubclass (records l.entries) l.at l.b

abbrev pub decreases-loop-at : goal.decreases-loop-at
decreases-loop-at l = l.at.0
