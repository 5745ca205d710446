-- The first units are the first bytes.
use Rattle.std.proofs.Common.{◌≡◌, take}
use Rattle.kernel_openings.proofs.class_names.widen.Given as goal

abbrev pub invariant-loop-i : goal.invariant-loop-i
invariant-loop-i l = take l.i l.units ≡ take l.i l.bytes
