-- The bytes in front of the rest spell the units so far, and the rest gets shorter.
use Rattle.std.proofs.Common.{length}
use Rattle.unit_text.proofs.OneReading.{IsSoFar}
use Rattle.unit_text.proofs.units.read.Given as goal

abbrev pub invariant-loop-rest : goal.invariant-loop-rest
invariant-loop-rest l = IsSoFar l.bytes l.rest l.units

abbrev pub decreases-loop-rest : goal.decreases-loop-rest
decreases-loop-rest l = length l.rest
