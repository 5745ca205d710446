-- The lines before this one are good, and this is built of them.
use Rattle.jkasm.specs.WholeText.{IsBuiltSoFar}
use Rattle.jkasm.proofs.assembler.build.Given as goal

abbrev pub invariant-loop-i : goal.invariant-loop-i
invariant-loop-i l = IsBuiltSoFar l.readings l.i l.builder
