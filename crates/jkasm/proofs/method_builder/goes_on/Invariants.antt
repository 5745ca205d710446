-- The lines that are left say whether the lines go on.
use Rattle.std.proofs.Common.{◌≡◌, drop}
use Rattle.jkasm.specs.Constants.{goes_on}
use Rattle.jkasm.proofs.method_builder.goes_on.Given as goal

abbrev pub invariant-loop-reading : goal.invariant-loop-reading
invariant-loop-reading l = goes_on (drop l.reading-index l.later) ≡ goes_on l.later
