-- The first fields have their values.
use Rattle.std.proofs.Common.{◌≡◌, length, map, take}
use Rattle.class_init.specs.Statics.{IsRising, static_field, with_values}
use Rattle.class_init.proofs.statics.Statics.restore.Given as goal

abbrev pub invariant-loop-i : goal.invariant-loop-i
invariant-loop-i l =
    record {
      size : length l.self-inside.slots.items ≡ length l.values;
      are : map static_field l.self-inside.slots.items ≡ with_values l.fn.self (take l.i l.values);
      rising : IsRising l.self-inside.slots.items;
    }
