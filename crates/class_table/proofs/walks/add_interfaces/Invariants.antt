-- The first interfaces are there, each with those above it.
use Rattle.std.proofs.Common.{◌≡◌, flat_map, take}
use Rattle.jk_model_classes.specs.Classes.{with_interfaces}
use Rattle.class_table.specs.Entries.{records}
use Rattle.class_table.specs.Walks.{with_all}
use Rattle.class_table.proofs.walks.add_interfaces.Given as goal

abbrev pub invariant-loop-i : goal.invariant-loop-i
invariant-loop-i l = l.seen.keys ≡ with_all l.initial.seen.keys (flat_map (with_interfaces (records l.entries)) (take l.i-index l.interfaces))
