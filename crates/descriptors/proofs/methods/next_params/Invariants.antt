-- The units in front of the rest are what is written of the parameters so far, and the rest gets shorter.
use Rattle.std.proofs.Common.{length}
use Rattle.descriptors.proofs.NoTextBeginsAnother.{AreSoFar}
use Rattle.descriptors.proofs.methods.next_params.Given as goal

abbrev pub invariant-loop-closed : goal.invariant-loop-closed
invariant-loop-closed l = AreSoFar l.units l.rest l.params

abbrev pub decreases-loop-closed : goal.decreases-loop-closed
decreases-loop-closed l = length l.rest
