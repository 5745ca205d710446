-- What is read so far stands before what is left, which grows shorter.
use Rattle.std.proofs.Common.{length}
use Rattle.jk_opcodes.proofs.OneReading.{IsSoFar}
use Rattle.jk_opcodes.proofs.code.read.Given as goal

abbrev pub invariant-loop-rest : goal.invariant-loop-rest
invariant-loop-rest l = IsSoFar l.code l.rest l.instrs

abbrev pub decreases-loop-rest : goal.decreases-loop-rest
decreases-loop-rest l = length l.rest
