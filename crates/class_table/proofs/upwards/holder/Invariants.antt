-- The class that was reached stands above, and has the place in its layout.
use Rattle.std.proofs.Common.{◌<◌, length}
use Rattle.jk_model_classes.specs.Classes.{IsSubclass}
use Rattle.jk_model_classes.specs.Layouts.{instance_fields}
use Rattle.class_table.specs.Entries.{records}
use Rattle.class_table.proofs.upwards.holder.Given as goal

abbrev pub invariant-loop-at : goal.invariant-loop-at
invariant-loop-at l =
    record {
      above : IsSubclass (records l.entries) l.fn.c l.at;
      within : l.at.0 < length l.entries;
      place : l.i < length (instance_fields (records l.entries) l.at);
    }

abbrev pub decreases-loop-at : goal.decreases-loop-at
decreases-loop-at l = l.at.0
