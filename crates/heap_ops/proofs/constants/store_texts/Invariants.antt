-- The constant texts of the first fields are set.
use Rattle.std.proofs.Common.{◌≡◌, take}
use Rattle.heap_ops.proofs.TextsStored.{stored}
use Rattle.heap_ops.proofs.constants.store_texts.Given as goal

abbrev pub invariant-loop-i : goal.invariant-loop-i
invariant-loop-i l = l.own ≡ stored l.fn.own l.c l.class (take l.i l.class.fields)
